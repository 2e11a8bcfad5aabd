-- A watch still watches both spaces when it walks on, and when it takes an object for a replica.
use Rattle.std.proofs.lemmas.Grind.{common_steps}
use Rattle.std.proofs.Common.{◌≡◌, ◌≢◌, inl, inr, ⊎_elim, ℕ, suc, ◌+◌, ◌<◌, ◌≤◌, ◌==◌, Bool, true, false, cond, List, [], ◌∷◌, ◌++◌, length, get_or, take, drop, replicate, Option, Some, None, All, Ok, refl, sym, ◌∙◌, ap, subst, arith, length-append, length-take, length-drop}
use Rattle.std.specs.Prelude.{slice_index}
use Rattle.std.proofs.lemmas.Bool.{eq-eqb, cases_lt}
use Rattle.std.proofs.lemmas.List.{drop_more, get_or-append-add, get_or-replicate, length-replicate, get_or_append_left, get_or_past}
use Rattle.std.proofs.lemmas.List.Elements.{All-push}
use Rattle.std.proofs.lemmas.List.Quantifiers.{all_pairs_push}
use Rattle.std.proofs.lemmas.Option.{slice_get_within}
use Rattle.gc_words.specs.Word.{IsHeader, header_word, field_words_correspond}
use Rattle.gc_words.specs.Image.{Block, blocks, block_in, block_at, header_of, header_at, walk_words}
use Rattle.gc_words.proofs.Public.{block_from, walk_placed, written_back, stands_in, walked_blocks, space_of, none_at_end, take_add}
use Rattle.gc_words.specs.Space.{IsSpace}
use Rattle.gc_words.specs.Layout.{field_place}
use Rattle.gc_words.specs.declared.header.Header.{Header}
use Rattle.gc_monitor.specs.Watch.{Watch, IsSeen, IsNext, IsWatched, Watches, is_due, seen_at, front}
use Rattle.gc_monitor.specs.Internal.Watch.{old_walked, placed, opening_watch}
use Rattle.gc_monitor.proofs.Looks.{watched_by}

-- ---- one object more

more : (ws : List ℕ) (n : ℕ) (h : Header) (link : ℕ) (fields : List ℕ) → IsSpace (record { size = 4294967295; words = ws }) → length ws ≡ n → IsHeader h → length fields ≡ h.len → n + (h.len + 2) ≤ 4294967295
    → IsSpace (record { size = 4294967295; words = ws ++ header_word h ∷ link ∷ fields }) × (blocks (ws ++ header_word h ∷ link ∷ fields) ≡ blocks ws ++ (n, record { header = h; fields = fields }) ∷ [])
more [] n h link fields shape count is len bound = absurd (let low : 1 ≤ 0 = shape.end_low in omega arith)
more (w ∷ ws) n h link fields shape count is len bound =
    let walked : walk_words (w ∷ (ws ++ header_word h ∷ link ∷ fields)) ≡ Ok (blocks (w ∷ ws) ++ (1 + length ws, record { header = h; fields = fields }) ∷ [])
    = walk_placed ws 0 1 (blocks (w ∷ ws)) h link fields is len (omega arith) (walked_blocks (w ∷ ws) shape.walked) in
    let longer : length (ws ++ header_word h ∷ link ∷ fields) ≡ length ws + suc (suc (length fields)) = length-append ws (header_word h ∷ link ∷ fields) in
    space_of 4294967295 (w ∷ (ws ++ header_word h ∷ link ∷ fields)) _ (omega arith) (omega arith) (omega arith) shape.reserved
    (walked ∙ ap (λ m. Ok (blocks (w ∷ ws) ++ (m, record { header = h; fields = fields }) ∷ [])) (omega arith))

module _ (n : ℕ) (words : List ℕ) (h : Header) (seen : IsSeen n words) (next : IsNext n words h) where
  fields : List ℕ
  fields = take h.len (drop (n + 2) words)

  front_is : take (n + (h.len + 2)) words ≡ take n words ++ header_word h ∷ slice_index words (n + 1) ∷ take h.len (drop (n + 2) words)
  front_is = grind (arith, common_steps, written_back, drop_more, take_add)

  both : IsSpace (record { size = 4294967295; words = take n words ++ header_word h ∷ slice_index words (n + 1) ∷ take h.len (drop (n + 2) words) })
      × (blocks (take n words ++ header_word h ∷ slice_index words (n + 1) ∷ take h.len (drop (n + 2) words)) ≡ blocks (take n words) ++ (n, block_from words n h) ∷ [])
  both =
      let within : n + (h.len + 2) ≤ length words = next.within in
      more (take n words) n h (slice_index words (n + 1)) (take h.len (drop (n + 2) words)) seen.space
      (omega (arith, length-take n words))
      (written_back (slice_index words n) h next.header).0
      (omega (arith, length-take h.len (drop (n + 2) words), length-drop (n + 2) words))
      next.bound

  seen_next : IsSeen (n + (h.len + 2)) words
  seen_next = record { within = next.within; space = subst (λ ws. IsSpace (record { size = 4294967295; words = ws })) (sym front_is) both.0 }

  blocks_next : blocks (take (n + (h.len + 2)) words) ≡ blocks (take n words) ++ (n, block_from words n h) ∷ []
  blocks_next = ap blocks front_is ∙ both.1

  found_push : (bs : List (ℕ × Block)) (e : ℕ × Block) (c : ℕ) (b : Block) → block_in bs c ≡ Some b → block_in (bs ++ e ∷ []) c ≡ Some b
  found_push [] e c b f = absurd (let no : None ≡ Some b = f in cc)
  found_push (x ∷ bs) e c b f = elim (x.0 == c) as (λ t. cond t (Some x.1) (block_in bs c) ≡ Some b → cond t (Some x.1) (block_in (bs ++ e ∷ []) c) ≡ Some b) [
    | true ↦ λ g. g
    | false ↦ λ g. found_push bs e c b g
  ] f

  found_new : (bs : List (ℕ × Block)) (a : ℕ) (b : Block) → block_in bs a ≡ None → block_in (bs ++ (a, b) ∷ []) a ≡ Some b
  found_new [] a b none = ap (λ t. cond t (Some b) None) (eq-eqb a a refl)
  found_new (x ∷ bs) a b none = elim (x.0 == a) as (λ t. cond t (Some x.1) (block_in bs a) ≡ None → cond t (Some x.1) (block_in (bs ++ (a, b) ∷ []) a) ≡ Some b) [
    | true ↦ λ g. absurd (let no : Some x.1 ≡ None = g in cc)
    | false ↦ λ g. found_new bs a b g
  ] none

  pub still_seen : (c : ℕ) (b : Block) → seen_at n words c ≡ Some b → seen_at (n + (h.len + 2)) words c ≡ Some b
  still_seen c b f = ap (λ bs. block_in bs c) blocks_next ∙ found_push (blocks (take n words)) (n, block_from words n h) c b f

  pub came : seen_at (n + (h.len + 2)) words n ≡ Some (block_from words n h)
  came =
      let count : length (take n words) ≡ n = (let w = seen.within in omega (arith, length-take n words)) in
      ap (λ bs. block_in bs n) blocks_next
      ∙ found_new (blocks (take n words)) n (block_from words n h) (subst (λ m. block_at (take n words) m ≡ None) count (none_at_end (front n words) seen.space))

-- ---- what is watched stays so

-- where more is found
grown : (w : Watch) (b : ℕ) (o q o' q' : Option Block) → ((c : Block) → o ≡ Some c → o' ≡ Some c) → ((d : Block) → q ≡ Some d → q' ≡ Some d) → IsWatched w b o q → IsWatched w b o' q'
grown w b o q o' q' f g h = grind (arith, common_steps)

pub true_stays : (ds es : List Bool) (q : ℕ) → get_or ds q false ≡ true → get_or (ds ++ es) q false ≡ true
true_stays ds es q h = grind (arith, common_steps, cases_lt, get_or_append_left, get_or_past)

fields_more : (h : Header) (pairs more : List (ℕ × ℕ)) (v u : ℕ) → field_words_correspond h pairs v u ≡ true → field_words_correspond h (pairs ++ more) v u ≡ true
fields_more h pairs more v u = grind (arith, common_steps, more)

-- ---- the events

pub begun : (old : List ℕ) (n : ℕ) → IsSeen n old → Watches old (0 ∷ []) (opening_watch n)
begun old n seen = grind (arith, common_steps, space_of)

pub old_goes_on : (old new : List ℕ) (w : Watch) (h : Header) → Watches old new w → IsNext w.old_seen old h → Watches old new (old_walked w h)
old_goes_on old new w h is next = record {
  old_seen = seen_next w.old_seen old h is.old_seen next;
  new_seen = is.new_seen;
  pairs = λ k d l. let p = get_or w.pairs k d in grown (old_walked w h) p.1 _ _ _ _ (λ c e. still_seen w.old_seen old h is.old_seen next p.0 c e) (λ c e. e) (is.pairs k d l);
  row = is.row;
  rising = is.rising;
  once = is.once;
}

below_seen : (old new : List ℕ) (w : Watch) (p : ℕ × ℕ) → Watches old new w → (o q : Option Block) → seen_at w.new_seen new p.1 ≡ q → IsWatched w p.1 o q → p.1 < w.new_seen
below_seen old new w p is (Some c) (Some d) e h =
    let s = stands_in (take w.new_seen new) p.1 d is.new_seen.space.walked e in
    omega (arith, length-take w.new_seen new, s.fits)
below_seen old new w p is (Some c) None e h = absurd h
below_seen old new w p is None q e h = absurd h

-- the watch with a replica more, whose fields are due or not
abbrev pub replicated : Watch → ℕ → Header → Bool → Watch
replicated w a h due = record {
  pairs = w.pairs ++ (a, w.new_seen) ∷ [];
  old_seen = w.old_seen;
  new_seen = w.new_seen + (h.len + 2);
  due = w.due ++ false ∷ false ∷ replicate h.len due;
}

module _ (old new : List ℕ) (w : Watch) (a : ℕ) (h : Header) (due : Bool) (is : Watches old new w) (once : All (λ p. p.0 ≢ a) w.pairs) (next : IsNext w.new_seen new h) where
  pub replicated_next : IsWatched (replicated w a h due) w.new_seen (seen_at w.old_seen old a) (Some (block_from new w.new_seen h)) → Watches old new (replicated w a h due)
  replicated_next here = record {
    old_seen = is.old_seen;
    new_seen = seen_next w.new_seen new h is.new_seen next;
    pairs = All-push (λ (p : ℕ × ℕ). IsWatched (replicated w a h due) p.1 (seen_at w.old_seen old p.0) (seen_at (w.new_seen + (h.len + 2)) new p.1)) w.pairs (a, w.new_seen)
        (λ k d l. let p = get_or w.pairs k d in
        grown (replicated w a h due) p.1 (seen_at w.old_seen old p.0) (seen_at w.new_seen new p.1) _ _ (λ c e. e) (λ c e. still_seen w.new_seen new h is.new_seen next p.1 c e)
        (watched_by w (replicated w a h due) p.1 _ _ (λ c d e f i v u x y. ⊎_elim (λ t. inl (true_stays w.due _ (field_place p.1 i) t)) (λ t. inr (fields_more c.header w.pairs ((a, w.new_seen) ∷ []) v u t))) (is.pairs k d l)))
        (subst (IsWatched (replicated w a h due) w.new_seen (seen_at w.old_seen old a)) (sym (came w.new_seen new h is.new_seen next)) here);
    row =
        length-append w.due (false ∷ false ∷ replicate h.len due)
        ∙ (let r : length w.due ≡ w.new_seen = is.row in let n : length (replicate h.len due) ≡ h.len = length-replicate h.len due in omega arith);
    rising = all_pairs_push (λ p q. p.1 < q.1) w.pairs (a, w.new_seen) is.rising (λ k d l. below_seen old new w (get_or w.pairs k d) is _ _ refl (is.pairs k d l));
    once = all_pairs_push (λ p q. p.0 ≢ q.0) w.pairs (a, w.new_seen) is.once once;
  }

module _ (old new : List ℕ) (w : Watch) (a : ℕ) (h : Header) (is : Watches old new w) (found : header_at (take w.old_seen old) a ≡ Some h) (once : All (λ p. p.0 ≢ a) w.pairs) (next : IsNext w.new_seen new h) where
  due_new : (i : ℕ) → i < h.len → is_due (placed w a h) w.new_seen i ≡ true
  due_new i inside =
      ap (λ m. get_or (w.due ++ false ∷ false ∷ replicate h.len true) m false) (let r : length w.due ≡ w.new_seen = is.row in omega arith)
      ∙ get_or-append-add w.due (false ∷ false ∷ replicate h.len true) (suc (suc i)) false
      ∙ get_or-replicate h.len i true false inside

  the_new : (o : Option Block) → header_of o ≡ Some h → IsWatched (placed w a h) w.new_seen o (Some (block_from new w.new_seen h))
  the_new None e = absurd (let no : None ≡ Some h = e in cc)
  the_new (Some c) e = (
    (let s : Some c.header ≡ Some h = e in let t : c.header ≡ h = cc in t),
    λ i v u k l. inl (due_new i (let inside : i < length (take h.len (drop (w.new_seen + 2) new)) = slice_get_within _ i u l in omega (arith, length-take h.len (drop (w.new_seen + 2) new)))),
  )

  pub paired_next : Watches old new (placed w a h)
  paired_next = replicated_next old new w a h true is once next (the_new (seen_at w.old_seen old a) found)
