-- The standing checker goes on telling the truth of the words that it has seen and of the new space.
use Rattle.std.proofs.Common.{◌≡◌, ℕ, zero, suc, ◌+◌, ◌<◌, ◌≤◌, true, false, List, [], ◌∷◌, ◌++◌, length, get_or, take, not, Option, Some, None, is_some, refl, ap, sym, ◌∙◌, subst, inl, inr, ⊎_elim, arith, length-append, length-set}
use Rattle.std.specs.Prelude.{slice_index, slice_index_or, slice_set, IsOk, IsSome}
use Rattle.std.proofs.lemmas.Bool.{cases_Bool}
use Rattle.std.proofs.lemmas.List.{get_or-set_other, get_or-set_same}
use Rattle.std.proofs.Math.Logic.{∥∥₁_elim}
use Rattle.std.proofs.Props.{props}
use Rattle.gc_words.specs.Word.{read_header, field_words_correspond}
use Rattle.gc_words.specs.Image.{Block, block_at, header_of, header_at, field_in, field_at, fresh_block, walk_words}
use Rattle.gc_words.specs.Layout.{field_place}
use Rattle.gc_words.specs.Space.{SpaceWords, IsSpace}
use Rattle.gc_words.specs.Spelling.{block_words}
use Rattle.gc_words.specs.declared.header.Header.{Header}
use Rattle.gc_words.proofs.Public.{field_read, field_written, stands_in, written_back, some_of}
use Rattle.gc_monitor.specs.Tables.{Tables}
use Rattle.gc_monitor.specs.Telling.{Tells}
use Rattle.gc_monitor.specs.Watch.{IsSeen}
use Rattle.gc_monitor.specs.Events.{Saw, PlacedBy, Looked, Wrote, HasNoReplica, code_of, object_codes}
use Rattle.gc_monitor.specs.Origins.{pairs_in}
use Rattle.gc_monitor.specs.Claims.{IsPassedField, ShowsField}
use Rattle.gc_monitor.proofs.Public.{all_of, codes_length, found_in_all, anywhere_tells, both_tells, none_replicated, old_more_tells, original_field, placed_by_tells, saw_tells, new_more_tells}
use Rattle.gc_concurrent.specs.Ends.{Known}
use Rattle.gc_concurrent.specs.Internal.Told.{Event, Put, Make, after_all, CouldHappen, written_by, seen_space}
use Rattle.gc_concurrent.specs.Internal.Rule.{CatchesUp, Sat, SeesNext, seeing}
use Rattle.gc_concurrent.specs.Internal.Following.{Follows, WroteEach}
use Rattle.gc_concurrent.proofs.Told.{space_after}
use Rattle.gc_concurrent.proofs.Seeing.{whole_seen}

-- where the checker is not lost, its facts hold, and where it is, all follows
pub through : (t after : Tables) (seen after_seen new after_new : List ℕ) → (Follows t seen new → Follows after after_seen after_new) → ∥ Follows t seen new ∥₁ → ∥ Follows after after_seen after_new ∥₁
through t after seen after_seen new after_new f h = ∥∥₁_elim h (hlevel props) (λ x. ∣ f x ∣₁)

-- steps that change nothing but what is seen, one after the other
pub seeing_on : (a b c : Sat) (seen : List ℕ) → b ≡ seeing b.0.seen a → c ≡ seeing seen b → c ≡ seeing c.0.seen a
seeing_on a b c seen first second = second ∙ ap (seeing seen) first ∙ ap (λ ws. seeing ws a) (sym (ap (λ (m : Sat). m.0.seen) second))

-- two words of one header are one
pub same_word : (v w : ℕ) (h : Header) → read_header v ≡ Some h → read_header w ≡ Some h → v ≡ w
same_word v w h e f = sym (written_back v h e).1 ∙ (written_back w h f).1

one_header : (w : ℕ) (g h : Header) → read_header w ≡ Some g → read_header w ≡ Some h → g ≡ h
one_header w g h e f = let s : Some g ≡ Some h = sym e ∙ f in cc

-- ---- the walk over the mutator's space

pub saw_follows : (t after : Tables) (new : List ℕ) (found : ℕ) (me me' : Sat) → t.lost ≡ false → (after.lost ≡ false → Saw found t after) → SeesNext (length t.olds) found me me'
    → Follows t me.0.seen new → Follows after me'.0.seen new
saw_follows t after new found me me' fine told sees follows ok =
    let f = follows fine in
    let saw = told ok in
    let seen : List ℕ = me.0.seen ++ sees.more in
    let is : me'.0.seen ≡ seen = ap (λ (m : Sat). m.0.seen) sees.same in
    let same : saw.0 ≡ sees.header = one_header found saw.0 sees.header saw.1 sees.read in
    let long : length after.olds ≤ length seen = (let n : saw.0.len ≡ sees.header.len = ap (λ (h : Header). h.len) same in let e = ap (λ (t : Tables). length t.olds) saw.3 in omega (arith, e, n, sees.next.within, length-append t.olds (object_codes saw.0.len 0), codes_length saw.0.len 0)) in
    subst (λ ws. Tells ws new after × IsSeen (length ws) ws × (length after.news ≡ length new)) (sym is) (
      saw_tells seen new t after found (old_more_tells me.0.seen new sees.more t f.0) saw (same_word _ found sees.header sees.next.header sees.read) long,
      sees.whole,
      ap (λ (t : Tables). length t.news) saw.3 ∙ f.2,
    )

-- ---- a field compared

-- a field of a replica is one of its original, as it was seen
pub original_seen : (t : Tables) (seen new : List ℕ) (b i word : ℕ) → t.lost ≡ false → slice_index new b ≡ word → IsPassedField word t b i → Follows t seen new → IsSome (field_at seen (slice_index_or t.origins b 0) i)
original_seen t seen new b i word fine is has follows =
    let f = follows fine in
    let a = slice_index_or t.origins b 0 in
    let front_has : IsSome (field_at (take (length t.olds) seen) a i) = original_field seen new t f.0 b i (subst (λ w. IsPassedField w t b i) (sym is) has) in
    field_kept seen (length t.olds) f.0.watches.old_seen f.1 a i (block_at (take (length t.olds) seen) a) refl front_has
  where
    field_kept : (seen : List ℕ) (n : ℕ) → IsSeen n seen → IsSeen (length seen) seen → (a i : ℕ) (o : Option Block) → block_at (take n seen) a ≡ o → is_some (field_in o i) ≡ true → IsSome (field_at seen a i)
    field_kept seen n part whole a i None e some = absurd (let wrong : false ≡ true = some in cc)
    field_kept seen n part whole a i (Some b) e some = ap (λ o. is_some (field_in o i)) (found_in_all n seen part whole a b e) ∙ some

-- both fields, as they are after the look
module _ (t after : Tables) (seen new : List ℕ) (b i word old x : ℕ) (fine : t.lost ≡ false) (is : slice_index new b ≡ word) (inside : field_place b i < length new) (has : IsPassedField word t b i)
    (looked : after.lost ≡ false → (olds news : List ℕ) → ShowsField olds news t b i word old x → Looked olds news b i t after) (follows : Follows t seen new) where
  abbrev a : ℕ
  a = slice_index_or t.origins b 0

  whole : IsSpace (record { size = 4294967295; words = seen })
  whole = subst (λ ws. IsSpace (record { size = 4294967295; words = ws })) (all_of (length seen) seen refl) (follows fine).1.space

  there : IsSome (field_at seen a i)
  there = original_seen t seen new b i word fine is has follows

  pub looked_at : after.lost ≡ false → Looked (slice_set seen (field_place (slice_index_or t.origins b 0) i) old) (slice_set new (field_place b i) x) b i t after
  looked_at ok =
      let p = field_place a i in
      let q = field_place b i in
      let low : p < length seen = (field_read seen a i whole.walked there).within in
      looked ok (slice_set seen p old) (slice_set new q x) (record {
        header = get_or-set_other new q b x 0 (λ e. let e' : b ≡ field_place b i = e in omega arith) ∙ is;
        old_within = omega (arith, low, length-set seen p old);
        old_word = get_or-set_same seen p old 0 low;
        new_within = omega (arith, inside, length-set new q x);
        new_word = get_or-set_same new q x 0 inside;
      })

  pub looked_follows : Follows after (slice_set seen (field_place (slice_index_or t.origins b 0) i) old) (slice_set new (field_place b i) x)
  looked_follows ok =
      let l = looked_at ok in
      let p = field_place a i in
      let q = field_place b i in (
        both_tells seen new t after a b i old x (follows fine).0 refl l,
        whole_seen (record { size = 4294967295; words = slice_set seen p old }) (field_written (record { size = 4294967295; words = seen }) a i old whole there).0,
        ap (λ (t : Tables). length t.news) l.5
            ∙ (let n = (follows fine).2 in omega (arith, n, length-set new q x, length-set t.news q (code_of (not (field_words_correspond l.0 (pairs_in t.origins) (slice_index (slice_set seen p old) (field_place l.1 i)) (slice_index (slice_set new q x) q)))))),
      )

-- ---- a replica placed

-- an object that was seen has the header that was loaded
start_seen : (t : Tables) (seen new : List ℕ) (name word original : ℕ) (g : Header) → Tells seen new t → IsSeen (length seen) seen → slice_index_or t.olds name 0 ≡ 1
    → ((h : Header) → header_at seen name ≡ Some h → read_header original ≡ Some h) → word ≡ original → read_header word ≡ Some g → read_header (slice_index seen name) ≡ Some g
start_seen t seen new name word original g tells whole start told same is =
    let b = some_of (block_at (take (length t.olds) seen) name) (tells.old_starts name (inl start)) in
    let all : block_at seen name ≡ Some b.0 = found_in_all (length t.olds) seen tells.watches.old_seen whole name b.0 b.1 in
    let stands = stands_in seen name b.0 (subst (λ ws. IsOk (walk_words ws)) (all_of (length seen) seen refl) whole.space.walked) all in
    let header : b.0.header ≡ g = one_header word b.0.header g (ap read_header same ∙ told b.0.header (ap header_of all)) is in
    stands.header ∙ ap (λ (h : Header). Some h) header

pub placed_follows : (t after : Tables) (seen new more : List ℕ) (word name original : ℕ) (h : Header) → (t.lost ≡ true → after.lost ≡ true) → read_header word ≡ Some h → length more ≡ h.len + 2 → slice_index (new ++ more) (length new) ≡ word
    → ((g : Header) → header_at seen name ≡ Some g → read_header original ≡ Some g) → (after.lost ≡ false → (word ≡ original) × PlacedBy word name t after)
    → Follows t seen new → Follows after seen (new ++ more)
placed_follows t after seen new more word name original h lost is long at told placed follows ok =
    let f = follows (⊎_elim (λ (e : t.lost ≡ true). absurd (let wrong : true ≡ false = sym (lost e) ∙ ok in cc)) (λ (e : t.lost ≡ false). e) (cases_Bool t.lost)) in
    let p = placed ok in
    let by = p.1 in
    let same : by.header ≡ h = one_header word by.header h by.is is in
    let len : by.header.len ≡ h.len = ap (λ (h : Header). h.len) same in
    let news : length after.news ≡ length t.news + (by.header.len + 2) = ap (λ (t : Tables). length t.news) by.added ∙ omega (arith, length-append t.news (object_codes by.header.len 3), codes_length by.header.len 3) in
    let count = f.2 in
    let all : length (new ++ more) ≡ length new + length more = length-append new more in (
      placed_by_tells seen (new ++ more) t after word name (new_more_tells seen new more t f.0) by
          (same_word (slice_index seen name) word by.header (start_seen t seen new name word original by.header f.0 f.1 by.start told p.0 by.is) by.is)
          (subst (λ n. slice_index (new ++ more) n ≡ word) (sym count) at)
          (omega (arith, news, len, count, all, long)),
      f.1,
      omega (arith, news, len, count, all, long),
    )

-- ---- the log is taken, or a collection begins to copy

-- events that were told of one after the other
told_apart : (xs : List (ℕ × ℕ)) (e : ℕ × ℕ) (t after : Tables) → WroteEach (xs ++ e ∷ []) t after → (mid : Tables) × WroteEach xs t mid × Wrote e.0 e.1 mid after
told_apart [] e t after w = (t, refl, subst (Wrote e.0 e.1 t) (sym w.2) w.1)
told_apart (x ∷ xs) e t after w = let r = told_apart xs e w.0 after w.2 in (r.0, (w.0, w.1, r.1), r.2)

told_on : (xs : List (ℕ × ℕ)) (e : ℕ × ℕ) (t mid after : Tables) → WroteEach xs t mid → Wrote e.0 e.1 mid after → WroteEach (xs ++ e ∷ []) t after
told_on [] e t mid after w last = (after, subst (λ z. Wrote e.0 e.1 z after) w last, refl)
told_on (x ∷ xs) e t mid after w last = (w.0, w.1, told_on xs e w.0 mid after w.2 last)

take_one : (xs : List (ℕ × ℕ)) (k : ℕ) → k < length xs → take (suc k) xs ≡ take k xs ++ get_or xs k (0, 0) ∷ []
take_one [] k l = absurd (omega arith)
take_one (x ∷ xs) zero l = refl
take_one (x ∷ xs) (suc k) l = ap (λ ys. x ∷ ys) (take_one xs k (omega arith))

-- entries up to k were told, and then the next one
pub one_more : (xs : List (ℕ × ℕ)) (k : ℕ) (t mid after : Tables) → k < length xs → (mid.lost ≡ true → after.lost ≡ true) → after.lost ≡ false → (mid.lost ≡ false → WroteEach (take k xs) t mid)
    → Wrote (get_or xs k (0, 0)).0 (get_or xs k (0, 0)).1 mid after → WroteEach (take (k + 1) xs) t after
one_more xs k t mid after less lost found told last =
    let fine : mid.lost ≡ false = ⊎_elim (λ (e : mid.lost ≡ true). absurd (let wrong : true ≡ false = sym (lost e) ∙ found in cc)) (λ (e : mid.lost ≡ false). e) (cases_Bool mid.lost) in
    subst (λ ys. WroteEach ys t after) (sym (ap (λ n. take n xs) (let e : k + 1 ≡ suc k = omega arith in e) ∙ take_one xs k less)) (told_on (take k xs) (get_or xs k (0, 0)) t mid after (told fine) last)

-- the tables tell the truth of the words as they are after all events
replays : (s : SpaceWords) (new : List ℕ) (es : List Event) (t after : Tables) → CouldHappen s es → WroteEach (written_by es) t after → Tells s.words new t → Tells (after_all s es).words new after
replays s new [] t after could told tells = subst (Tells s.words new) (sym told) tells
replays s new (Put a i w ∷ es) t after could told tells =
    let split = told_apart (written_by es) (a, i) t after told in
    anywhere_tells (after_all s es).words new split.0 after a i w (replays s new es t split.0 could.1 split.1 tells) (whole_seen (after_all s es) (space_after s es could.1)) could.0 split.2
replays s new (Make h ∷ es) t after could told tells = old_more_tells (after_all s es).words new (block_words 0 (fresh_block h)) after (replays s new es t after could.1 told tells)

-- where there are no replicas, no write has to be told
unwritten : (xs : List (ℕ × ℕ)) (t : Tables) → ((a : ℕ) → HasNoReplica t a) → WroteEach xs t t
unwritten [] t none = refl
unwritten (x ∷ xs) t none = (t, inl (none x.0, refl), unwritten xs t none)

-- as many words as there were
told_rows : (xs : List (ℕ × ℕ)) (t after : Tables) → WroteEach xs t after → length after.news ≡ length t.news
told_rows [] t after w = ap (λ (t : Tables). length t.news) w
told_rows (x ∷ xs) t after w = told_rows xs w.0 after w.2 ∙ one w.1
  where
    one : Wrote x.0 x.1 t w.0 → length w.0.news ≡ length t.news
    one (inl h) = ap (λ (t : Tables). length t.news) h.1
    one (inr (b, at, within, is)) = ap (λ (t : Tables). length t.news) is ∙ length-set t.news (field_place b x.1) 3

-- a seat that is both ends sees all words as they are, once its log was told
pub catches_up_follows : (v : Known) (t after : Tables) (new : List ℕ) → CatchesUp v → (v.theirs.replicas ≡ [] → length new ≤ 1) → (t.lost ≡ true → after.lost ≡ true)
    → (after.lost ≡ false → WroteEach v.mine.log t after) → Follows t v.seen new → Follows after v.mine.space.words new
catches_up_follows v t after new is short lost told follows ok =
    let fine : t.lost ≡ false = ⊎_elim (λ (e : t.lost ≡ true). absurd (let wrong : true ≡ false = sym (lost e) ∙ ok in cc)) (λ (e : t.lost ≡ false). e) (cases_Bool t.lost) in
    let f = follows fine in
    let s : SpaceWords = seen_space v.seen v.mine in
    let each : WroteEach (written_by is.told.events) t after = ⊎_elim
    (λ (e : v.mine.logs ≡ true). subst (λ xs. WroteEach xs t after) (sym (is.told.logged e)) (told ok))
    (λ (e : v.mine.logs ≡ false). subst (WroteEach (written_by is.told.events) t) (sym (subst (λ xs. WroteEach xs t after) (is.rests e).1 (told ok))) (unwritten (written_by is.told.events) t (none_replicated v.seen new t f.0 (short (is.rests e).0))))
    (cases_Bool v.mine.logs) in (
      subst (λ (z : SpaceWords). Tells z.words new after) (sym is.told.now) (replays s new is.told.events t after is.told.could each f.0),
      whole_seen v.mine.space (subst IsSpace (sym is.told.now) (space_after s is.told.events is.told.could)),
      told_rows (written_by is.told.events) t after each ∙ f.2,
    )
