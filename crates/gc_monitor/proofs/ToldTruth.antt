-- The tables tell the truth of the words, whatever happens.
use Rattle.std.proofs.lemmas.Grind.{common_steps}
use Rattle.std.proofs.Common.{◌≡◌, ◌≢◌, inl, inr, ⊎_elim, ℕ, zero, suc, ◌+◌, ◌-◌, ◌<◌, ◌≤◌, ◌==◌, Bool, true, false, not, List, [], ◌∷◌, ◌++◌, length, set, get_or, take, drop, replicate, Option, Some, is_some, All, AllPairs, refl, sym, ◌∙◌, ap, subst, arith, length-append, length-set, length-take, set-set, rules}
use Rattle.std.specs.Prelude.{slice_set, slice_index, IsSome}
use Rattle.std.proofs.lemmas.Bool.{cases_eq, cases_lt, eq-eqb}
use Rattle.std.proofs.lemmas.List.{take-append-le, take-set-le, drop-take, take-take, get_or-take, get_or_default, get_or-set_other, get_or-set_same, length-map}
use Rattle.std.proofs.lemmas.Option.{slice_get-get_or}
use Rattle.gc_words.specs.Word.{read_header, field_words_correspond}
use Rattle.gc_words.specs.Image.{Image, Block, block_at, header_of, header_at, is_start, field_in, field_at}
use Rattle.gc_words.specs.Space.{IsSpace}
use Rattle.gc_words.proofs.Public.{StandsIn, block_from, stands_in, field_read, space_of, some_of}
use Rattle.gc_words.specs.Certificate.{Certified}
use Rattle.gc_words.specs.Layout.{field_place, link_place}
use Rattle.gc_words.specs.declared.header.Header.{Header}
use Rattle.gc_monitor.specs.Watch.{Watch, IsSeen, IsNext, IsWatched, Watches, NewIsDue, is_due, seen_at}
use Rattle.gc_monitor.specs.Internal.Watch.{OldIsDue, mark, pair_at, looked}
use Rattle.gc_monitor.specs.Origins.{pairs_in, pairs_from}
use Rattle.gc_monitor.specs.Outline.{outline_of}
use Rattle.gc_monitor.specs.Tables.{Tables, RowsAgree, watch_of, due_in}
use Rattle.gc_monitor.specs.Claims.{Accepts, IsPassedField}
use Rattle.gc_monitor.proofs.Seen.{certified}
use Rattle.gc_monitor.specs.Telling.{MarksAreStarts, Tells}
use Rattle.gc_monitor.specs.Events.{code_of, object_codes, with_news, with_due, old_added, replica_added, IsCopy, Made, Saw, Placed, PlacedBy, IsFieldOf, Looked, IsReplicaAt, HasNoReplica, Wrote, Applied, Freed, opening_tables, flipped_tables}
use Rattle.gc_monitor.proofs.Codes.{code_set}
use Rattle.gc_monitor.proofs.RowsAgree.{agree_due, agree_old, agree_replica, map_append, codes_length, code_is}
use Rattle.gc_monitor.proofs.Origins.{placed as pairs_placed}
use Rattle.gc_monitor.proofs.Looks.{taken_for_due, compared}
use Rattle.gc_monitor.proofs.Walked.{begun, old_goes_on, paired_next, replicated, replicated_next, still_seen}
use Rattle.gc_monitor.proofs.Written.{old_field, new_field, old_link, new_link}
use Rattle.gc_monitor.proofs.Fronts.{field_where, found_where}
use Rattle.gc_monitor.proofs.Marks.{no_zero, marks_more, marks_set, marks_taken, marks_written, marks_linked}

-- ---- the pairs of a row of originals

-- each pair is an original of the row
pair_told : (at : ℕ) (xs : List ℕ) (k : ℕ) (d : ℕ × ℕ) → k < length (pairs_from at xs)
    → (b : ℕ) × (1 ≤ (get_or (pairs_from at xs) k d).0) × ((get_or (pairs_from at xs) k d).1 ≡ at + b) × (get_or xs b 0 ≡ (get_or (pairs_from at xs) k d).0)
pair_told at [] k d l = absurd (omega arith)
pair_told at (zero ∷ xs) k d l =
    let h = pair_told (suc at) xs k d l in
    (suc h.0, h.1, (let e : (get_or (pairs_from (suc at) xs) k d).1 ≡ suc at + h.0 = h.2 in omega arith), h.3)
pair_told at (suc c ∷ xs) zero d l = (0, omega arith, omega arith, refl)
pair_told at (suc c ∷ xs) (suc k) d l =
    let h = pair_told (suc at) xs k d (omega arith) in
    (suc h.0, h.1, (let e : (get_or (pairs_from (suc at) xs) k d).1 ≡ suc at + h.0 = h.2 in omega arith), h.3)

-- each original of the row is in a pair
listed : (at : ℕ) (xs : List ℕ) (a b : ℕ) → 1 ≤ a → get_or xs b 0 ≡ a → (k : ℕ) × (k < length (pairs_from at xs)) × (get_or (pairs_from at xs) k (0, 0) ≡ (a, at + b))
listed at [] a b low e = absurd (let z : 0 ≡ a = e in omega arith)
listed at (zero ∷ xs) a zero low e = absurd (let z : 0 ≡ a = e in omega arith)
listed at (zero ∷ xs) a (suc b) low e =
    let h = listed (suc at) xs a b low e in
    (h.0, h.1, h.2 ∙ ap (λ n. (a, n)) (omega arith))
listed at (suc c ∷ xs) a zero low e = (0, omega arith, (let there : at ≡ at + 0 = omega arith in λ i. (e i, there i)))
listed at (suc c ∷ xs) a (suc b) low e =
    let h = listed (suc at) xs a b low e in
    (suc h.0, (let l : h.0 < length (pairs_from (suc at) xs) = h.1 in omega arith), h.2 ∙ ap (λ n. (a, n)) (omega arith))

module _ (t : Tables) (k : ℕ) (d : ℕ × ℕ) (l : k < length (pairs_in t.origins)) where
  origin_of : (1 ≤ (get_or (pairs_in t.origins) k d).0) × (get_or t.origins (get_or (pairs_in t.origins) k d).1 0 ≡ (get_or (pairs_in t.origins) k d).0)
  origin_of =
      let h = pair_told 0 t.origins k d l in
      (h.1, ap (λ b. get_or t.origins b 0) (sym (let e : (get_or (pairs_in t.origins) k d).1 ≡ 0 + h.0 = h.2 in omega arith)) ∙ h.3)

-- ---- a yes

pub sound_watched : (old new : Image) (t : Tables) → RowsAgree t → Watches old.words new.words (watch_of t) → Accepts t (outline_of old) (outline_of new) → Certified old new (pairs_in t.origins)
sound_watched old new t agree watches said =
    certified old new (watch_of t) watches (record { old_seen = said.seen.old_seen; new_seen = said.seen.new_seen; none_due = sym agree.counted ∙ said.seen.none_due }) said.seen.old_sized said.seen.new_sized said.roots

pub sound : (old new : Image) (t : Tables) → Tells old.words new.words t → Accepts t (outline_of old) (outline_of new) → Certified old new (pairs_in t.origins)
sound old new t tells said = sound_watched old new t tells.agree tells.watches said

-- ---- nothing is seen of a new space

agree_none : (t : Tables) (olds : List ℕ) → RowsAgree (record t { olds = olds; news = 0 ∷ []; origins = 0 ∷ []; missing = 0 })
agree_none t olds = grind (arith, common_steps)

emptied : (old : List ℕ) (t : Tables) (olds : List ℕ) → IsSeen (length olds) old → MarksAreStarts olds old → Tells old (0 ∷ []) (record t { olds = olds; news = 0 ∷ []; origins = 0 ∷ []; missing = 0 })
emptied old t olds seen starts = grind (arith, common_steps, still_seen, agree_none, begun, no_zero)

seen_one : (old : List ℕ) → 1 ≤ length old → slice_index old 0 ≡ 0 → IsSeen 1 old
seen_one old low reserved = grind (arith, common_steps, space_of)

pub opening_tells : (old : List ℕ) (room : ℕ) → 1 ≤ length old → slice_index old 0 ≡ 0 → Tells old (0 ∷ []) (opening_tables room)
opening_tells old room low reserved = grind (arith, common_steps, emptied, seen_one, no_zero)

pub flipped_tells : (old new : List ℕ) (t : Tables) → Tells old new t → Tells new (0 ∷ []) (flipped_tables t)
flipped_tells old new t tells = emptied new t t.news tells.watches.new_seen tells.new_starts

pub dropped_tells : (old new : List ℕ) (t after : Tables) → Tells old new t → Freed t after → Tells old (0 ∷ []) after
dropped_tells old new t after tells freed = grind (arith, common_steps, emptied)

-- ---- an old object more

pub made_tells : (old new : List ℕ) (t after : Tables) → Tells old new t → Made old t after → Tells old new after
made_tells old new t after tells made = ⊎_elim
    (λ less. (let m = made.more less in subst (Tells old new) (sym m.2) (added m.0 m.1)))
    (λ past. subst (Tells old new) (sym (made.at_end (omega arith))) tells)
    (cases_lt (length t.olds) (length old))
  where
    added : (h : Header) → IsNext (length t.olds) old h → Tells old new (old_added t h)
    added h next =
        let longer : length t.olds + (h.len + 2) ≡ length (t.olds ++ object_codes h.len 0) = omega (arith, length-append t.olds (object_codes h.len 0), codes_length h.len 0) in
        record {
          agree = agree_old t h tells.agree;
          watches = subst (λ n. Watches old new (record (watch_of t) { old_seen = n })) longer (old_goes_on old new (watch_of t) h tells.watches next);
          old_starts = marks_more t.olds old h 0 no_zero tells.watches.old_seen next tells.old_starts;
          new_starts = tells.new_starts;
        }

pub saw_tells : (old new : List ℕ) (t after : Tables) (word : ℕ) → Tells old new t → Saw word t after → slice_index old (length t.olds) ≡ word → length after.olds ≤ length old → Tells old new after
saw_tells old new t after word tells saw is long =
    let more : length after.olds ≡ length t.olds + (saw.0.len + 2) = ap (λ (t : Tables). length t.olds) saw.3 ∙ omega (arith, length-append t.olds (object_codes saw.0.len 0), codes_length saw.0.len 0) in
    made_tells old new t after tells (record {
      at_end = λ past. absurd (omega (arith, past, more, long));
      more = λ _. (saw.0, record { header = ap read_header is ∙ saw.1; within = omega (arith, more, long); bound = saw.2 }, saw.3);
    })

-- ---- a replica more

codes_due : (n : ℕ) (due : Bool) → due_in (replicate n (code_of due)) ≡ replicate n due
codes_due zero due = refl
codes_due (suc n) due = λ i. code_is due i ∷ codes_due n due i

watch_added : (t : Tables) (h : Header) (a : ℕ) (due : Bool) → 1 ≤ a → length t.origins ≡ length t.news → watch_of (replica_added t h a due) ≡ replicated (watch_of t) a h due
watch_added t h a due low rows =
    let pairs : pairs_in (t.origins ++ a ∷ 0 ∷ replicate h.len 0) ≡ pairs_in t.origins ++ (a, length t.news) ∷ [] = pairs_placed t.origins a (suc h.len) low ∙ ap (λ n. pairs_in t.origins ++ (a, n) ∷ []) rows in
    let olds : length (set t.olds a 2) ≡ length t.olds = length-set t.olds a 2 in
    let news : length (t.news ++ object_codes h.len (code_of due)) ≡ length t.news + (h.len + 2) = omega (arith, length-append t.news (object_codes h.len (code_of due)), codes_length h.len (code_of due)) in
    let dues : due_in (t.news ++ object_codes h.len (code_of due)) ≡ due_in t.news ++ false ∷ false ∷ replicate h.len due
    = map_append t.news (object_codes h.len (code_of due)) ∙ ap (λ ds. due_in t.news ++ false ∷ false ∷ ds) (codes_due h.len due) in
    λ i. record { pairs = pairs i; old_seen = olds i; new_seen = news i; due = dues i }

-- an original that was copied whole
module _ (old new : List ℕ) (w : Watch) (a : ℕ) (h : Header) (is : Watches old new w) (found : header_at (take w.old_seen old) a ≡ Some h) (once : All (λ p. p.0 ≢ a) w.pairs) (next : IsNext w.new_seen new h)
    (raw : h.raw ≡ true) (same : (c : Block) → seen_at w.old_seen old a ≡ Some c → c.fields ≡ take h.len (drop (w.new_seen + 2) new)) where
  the_copy : (o : Option Block) → seen_at w.old_seen old a ≡ o → header_of o ≡ Some h → IsWatched (replicated w a h false) w.new_seen o (Some (block_from new w.new_seen h))
  the_copy o at e = grind (arith, common_steps, eq-eqb)

  copied_next : Watches old new (replicated w a h false)
  copied_next = replicated_next old new w a h false is once next (the_copy (seen_at w.old_seen old a) refl found)

module _ (old new : List ℕ) (t : Tables) (h : Header) (a : ℕ) (tells : Tells old new t) (next : IsNext (length t.news) new h) (rows : length t.origins ≡ length t.news) (low : 1 ≤ a) (start : get_or t.olds a 0 ≡ 1) (header : slice_index old a ≡ slice_index new (length t.news)) where
  start_at : is_start (take (length t.olds) old) a ≡ true
  start_at = tells.old_starts a (inl start)

  the_block : (b : Block) × (seen_at (length t.olds) old a ≡ Some b)
  the_block = some_of (seen_at (length t.olds) old a) start_at

  stands_there : StandsIn (take (length t.olds) old) a the_block.0
  stands_there = stands_in (take (length t.olds) old) a the_block.0 tells.watches.old_seen.space.walked the_block.1

  fits : a + (the_block.0.header.len + 2) ≤ length t.olds
  fits = let f : a + (the_block.0.header.len + 2) ≤ length (take (length t.olds) old) = stands_there.fits in omega (arith, length-take (length t.olds) old)

  its_header : the_block.0.header ≡ h
  its_header = grind (arith, common_steps, get_or-take, fits, the_block, stands_there)

  found_header : header_at (take (length t.olds) old) a ≡ Some h
  found_header = ap header_of the_block.1 ∙ ap Some its_header

  not_paired : All (λ p. p.0 ≢ a) (pairs_in t.origins)
  not_paired k d l e = grind (arith, common_steps, origin_of, still_seen)

  bound : length t.news + (h.len + 2) ≤ 4294967295
  bound = next.bound

  agree_its : (due : Bool) → RowsAgree (replica_added t h a due)
  agree_its due = agree_replica t h a due bound start tells.agree

  added_tells : (due : Bool) → Watches old new (replicated (watch_of t) a h due) → Tells old new (replica_added t h a due)
  added_tells due watches = search (rules, still_seen, agree_its, watch_added, marks_taken, start_at, marks_more, no_zero)

  due_tells : Tells old new (replica_added t h a true)
  due_tells = added_tells true (paired_next old new (watch_of t) a h tells.watches found_header not_paired next)

  copy_tells : IsCopy old new h a (length t.news) → Tells old new (replica_added t h a false)
  copy_tells copy = added_tells false (copied_next old new (watch_of t) a h tells.watches found_header not_paired next copy.raw (λ c at.
      let one : the_block.0 ≡ c = (let s : Some the_block.0 ≡ Some c = sym the_block.1 ∙ at in cc) in
      let len : the_block.0.header.len ≡ h.len = ap (λ (h : Header). h.len) its_header in
      let rest : a + 2 + (length t.olds - (a + 2)) ≡ length t.olds = omega (arith, fits) in
      let front : drop (a + 2) (take (length t.olds) old) ≡ take (length t.olds - (a + 2)) (drop (a + 2) old) = ap (λ n. drop (a + 2) (take n old)) (sym rest) ∙ drop-take (a + 2) (length t.olds - (a + 2)) old in
      let small : h.len ≤ length t.olds - (a + 2) = omega (arith, fits, len) in
      ap (λ (b : Block). b.fields) (sym one)
      ∙ stands_there.fields
      ∙ (λ i. take (len i) (front i))
      ∙ take-take h.len (length t.olds - (a + 2)) (drop (a + 2) old) small
      ∙ copy.fields))

pub placed_tells : (old new : List ℕ) (t after : Tables) → Tells old new t → Placed old new t after → Tells old new after
placed_tells old new t after tells is = ⊎_elim
    (λ less. (let m = is.more less in ⊎_elim
    (λ e. subst (Tells old new) (sym e) (due_tells old new t m.0 m.1 tells m.2.next m.2.rows m.2.low m.2.start m.2.header))
    (λ e. subst (Tells old new) (sym e.1) (copy_tells old new t m.0 m.1 tells m.2.next m.2.rows m.2.low m.2.start m.2.header e.0))
    m.3))
    (λ past. subst (Tells old new) (sym (is.at_end (omega arith))) tells)
    (cases_lt (length t.news) (length new))

pub placed_by_tells : (old new : List ℕ) (t after : Tables) (word a : ℕ) → Tells old new t → PlacedBy word a t after → slice_index old a ≡ word → slice_index new (length t.news) ≡ word → length after.news ≤ length new
    → Tells old new after
placed_by_tells old new t after word a tells by original is long =
    let h : Header = by.header in
    let more : length after.news ≡ length t.news + (h.len + 2) = ap (λ (t : Tables). length t.news) by.added ∙ omega (arith, length-append t.news (object_codes h.len 3), codes_length h.len 3) in
    subst (Tells old new) (sym by.added)
    (due_tells old new t h a tells (record { header = ap read_header is ∙ by.is; within = omega (arith, more, long); bound = by.bound }) by.rows by.low by.start (original ∙ sym is))

-- ---- a field due or not

marked_at : (t : Tables) (place : ℕ) (due : Bool) → watch_of (with_due t place due) ≡ mark (watch_of t) place due
marked_at t place due = grind (arith, common_steps, code_set, code_is)

-- the words are watched with this mark
with_mark : (old new : List ℕ) (t : Tables) (place : ℕ) (due : Bool) → Tells old new t → Watches old new (mark (watch_of t) place due) → Tells old new (with_due t place due)
with_mark old new t place due tells watches = grind (arith, common_steps, still_seen, agree_due, marked_at, marks_set, no_zero)

due_told : (old new : List ℕ) (t : Tables) (place : ℕ) → Tells old new t → Tells old new (with_due t place true)
due_told old new t place tells = with_mark old new t place true tells (taken_for_due old new (watch_of t) place tells.watches)

-- ---- the field of a replica

module _ (old new : List ℕ) (t : Tables) (a b : ℕ) (tells : Tells old new t) (low : 1 ≤ a) (origin : get_or t.origins b 0 ≡ a) where
  place_of : (k : ℕ) × (k < length (pairs_in t.origins)) × (pair_at (watch_of t) k ≡ (a, b))
  place_of =
      let l = listed 0 t.origins a b low origin in
      (l.0, l.1, l.2 ∙ ap (λ n. (a, n)) (omega arith))

  both_there : IsWatched (watch_of t) b (seen_at (length t.olds) old a) (seen_at (length t.news) new b)
  both_there = subst (λ (p : ℕ × ℕ). IsWatched (watch_of t) p.1 (seen_at (length t.olds) old p.0) (seen_at (length t.news) new p.1)) place_of.2 (tells.watches.pairs place_of.0 (0, 0) place_of.1)

  pub record Blocks : Type 0 where
    pub one : Block
    pub other : Block
    pub one_at : seen_at (length t.olds) old a ≡ Some one
    pub other_at : seen_at (length t.news) new b ≡ Some other
    pub headers : one.header ≡ other.header

  its_blocks : Blocks
  its_blocks = search (rules, both_there)

-- a field of an object that was seen
module _ (n : ℕ) (words : List ℕ) (a i : ℕ) (b : Block) (seen : IsSeen n words) (at : seen_at n words a ≡ Some b) where
  stands_at : StandsIn (take n words) a b
  stands_at = stands_in (take n words) a b seen.space.walked at

  inside_of : a + (b.header.len + 2) ≤ n
  inside_of = let f : a + (b.header.len + 2) ≤ length (take n words) = stands_at.fits in omega (arith, length-take n words)

  header_word : read_header (slice_index words a) ≡ Some b.header
  header_word = ap read_header (sym (get_or-take n words a 0 (omega (arith, inside_of)))) ∙ stands_at.header

  module _ (small : i < b.header.len) where
    has_field : IsSome (field_at (take n words) a i)
    has_field = ap (λ o. is_some (field_in o i)) at ∙ ap is_some (slice_get-get_or b.fields i 0 (omega (arith, stands_at.whole.fields)))

    field_word : field_at (take n words) a i ≡ Some (slice_index words (field_place a i))
    field_word = (field_read (take n words) a i seen.space.walked has_field).word ∙ ap Some (get_or-take n words (field_place a i) 0 (omega (arith, inside_of)))

-- the field of a replica, and that of its original
module _ (old new : List ℕ) (t : Tables) (h : Header) (a b i : ℕ) (tells : Tells old new t) (is : IsFieldOf new t h a b i) where
  its : Blocks old new t a b tells is.low is.origin
  its = its_blocks old new t a b tells is.low is.origin

  other_header : its.other.header ≡ h
  other_header = let s : Some its.other.header ≡ Some h = sym (header_word (length t.news) new b i its.other tells.watches.new_seen its.other_at) ∙ is.header in cc

  one_header : its.one.header ≡ h
  one_header = its.headers ∙ other_header

  looked_watches : Watches old new (mark (watch_of t) (field_place b i) (not (field_words_correspond h (pairs_in t.origins) (slice_index old (field_place a i)) (slice_index new (field_place b i)))))
  looked_watches =
      let at = place_of old new t a b tells is.low is.origin in
      let v = slice_index old (field_place a i) in
      let u = slice_index new (field_place b i) in
      let small_one : i < its.one.header.len = subst (λ (g : Header). i < g.len) (sym one_header) is.has_field in
      let small_other : i < its.other.header.len = subst (λ (g : Header). i < g.len) (sym other_header) is.has_field in
      subst (λ (p : ℕ × ℕ). Watches old new (looked (watch_of t) h p.1 i v u)) at.2
      (compared old new (watch_of t) at.0 i v u h tells.watches at.1
      (ap (λ (p : ℕ × ℕ). header_at (take (length t.olds) old) p.0) at.2 ∙ (ap header_of its.one_at ∙ ap Some one_header))
      (ap (λ (p : ℕ × ℕ). field_at (take (length t.olds) old) p.0 i) at.2 ∙ field_word (length t.olds) old a i its.one tells.watches.old_seen its.one_at small_one)
      (ap (λ (p : ℕ × ℕ). field_at (take (length t.news) new) p.1 i) at.2 ∙ field_word (length t.news) new b i its.other tells.watches.new_seen its.other_at small_other))

pub looked_tells : (old new : List ℕ) (t after : Tables) (b i : ℕ) → Tells old new t → Looked old new b i t after → Tells old new after
looked_tells old new t after b i tells is = grind (arith, common_steps, with_mark, looked_watches)

pub applied_tells : (old new : List ℕ) (t after : Tables) (a i : ℕ) → Tells old new t → Applied old new a i t after → Tells old new after
applied_tells old new t after a i tells (inl h) = subst (Tells old new) (sym h.1) tells
applied_tells old new t after a i tells (inr (b, at, look)) = looked_tells old new t after b i tells look

pub wrote_tells : (old new : List ℕ) (t after : Tables) (a i : ℕ) → Tells old new t → Wrote a i t after → Tells old new after
wrote_tells old new t after a i tells (inl h) = subst (Tells old new) (sym h.1) tells
wrote_tells old new t after a i tells (inr (b, at, within, is)) = subst (Tells old new) (sym is) (due_told old new t (field_place b i) tells)

-- ---- words written

due_here : (t : Tables) (b i : ℕ) → field_place b i < length t.news → is_due (watch_of (with_due t (field_place b i) true)) b i ≡ true
due_here t b i within =
    ap (λ w. is_due w b i) (marked_at t (field_place b i) true)
    ∙ get_or-set_same (due_in t.news) (field_place b i) true false (omega (arith, length-map t.news (λ code. code == 3)))

pub due_tells_written : (old new : List ℕ) (t : Tables) (b i x : ℕ) → Tells old new t → IsSome (field_at (take (length t.news) new) b i) → NewIsDue (watch_of t) b i → Tells old (slice_set new (field_place b i) x) t
due_tells_written old new t b i x tells some due = search (rules, still_seen, new_field, marks_written)

-- the field of a replica that is due is written, and then looked at
module _ (old new : List ℕ) (t after : Tables) (b i x : ℕ) (told : Tells old new (with_due t (field_place b i) true)) (is : Looked old (slice_set new (field_place b i) x) b i t after) where
  abbrev place : ℕ
  place = field_place b i

  abbrev written : List ℕ
  written = slice_set new place x

  abbrev marked : Tables
  marked = with_due t place true

  abbrev due : Bool
  due = not (field_words_correspond is.0 (pairs_in t.origins) (slice_index old (field_place is.1 i)) (slice_index written place))

  rows : length marked.news ≡ length t.news
  rows = length-set t.news place 3

  twice : with_due marked place due ≡ with_due t place due
  twice = ap (with_news t) (set-set t.news place 3 (code_of due))

  same_word : slice_index new b ≡ slice_index written b
  same_word = sym (get_or-set_other new place b x 0 (λ e. let f : b ≡ field_place b i = e in omega arith))

  blocks : Blocks old new marked is.1 b told is.2.low is.2.origin
  blocks = its_blocks old new marked is.1 b told is.2.low is.2.origin

  due_header : blocks.other.header ≡ is.0
  due_header = let s : Some blocks.other.header ≡ Some is.0 = sym (header_word (length marked.news) new b i blocks.other told.watches.new_seen blocks.other_at) ∙ ap read_header same_word ∙ is.2.header in cc

  some : IsSome (field_at (take (length marked.news) new) b i)
  some = has_field (length marked.news) new b i blocks.other told.watches.new_seen blocks.other_at (subst (λ (g : Header). i < g.len) (sym due_header) is.2.has_field)

  brought_due : Tells old written after
  brought_due =
      subst (Tells old written) (sym is.5)
      (subst (Tells old written) twice
      (looked_tells old written marked (with_due marked place due) b i (due_tells_written old new marked b i x told some (λ k d l e. due_here t b i is.2.within))
      (is.0, is.1, record { header = is.2.header; has_field = is.2.has_field; origin = is.2.origin; low = is.2.low; within = omega (arith, is.2.within, rows) }, is.3, is.4, refl)))

pub brought_tells : (old new : List ℕ) (t after : Tables) (b i x : ℕ) → Tells old new t → Looked old (slice_set new (field_place b i) x) b i t after → Tells old (slice_set new (field_place b i) x) after
brought_tells old new t after b i x tells is = brought_due old new t after b i x (due_told old new t (field_place b i) tells) is

same_once : (pairs : List (ℕ × ℕ)) → AllPairs (λ p q. p.0 ≢ q.0) pairs → (k l : ℕ) (d : ℕ × ℕ) → k < length pairs → l < length pairs → (get_or pairs k d).0 ≡ (get_or pairs l d).0 → k ≡ l
same_once pairs once k l d m n same = grind (arith, common_steps, cases_eq, cases_lt)

module _ (old new : List ℕ) (a i x : ℕ) where
  old_written : (t : Tables) → Tells old new t → IsSome (field_at (take (length t.olds) old) a i) → OldIsDue (watch_of t) a i → Tells (slice_set old (field_place a i) x) new t
  old_written t tells some due = search (rules, still_seen, old_field, marks_written)

  no_replica : (t : Tables) → HasNoReplica t a → OldIsDue (watch_of t) a i
  no_replica t none k d l e = grind (arith, common_steps, origin_of)

  its_replica : (t : Tables) (b : ℕ) → Tells old new t → IsReplicaAt t a b → field_place b i < length t.news → OldIsDue (watch_of (with_due t (field_place b i) true)) a i
  its_replica t b tells at within l d n e =
      let p = place_of old new t a b tells at.low at.origin in
      let here : get_or (pairs_in t.origins) l d ≡ get_or (pairs_in t.origins) l (0, 0) = get_or_default (pairs_in t.origins) l d (0, 0) n in
      let same : p.0 ≡ l = same_once (pairs_in t.origins) tells.watches.once p.0 l (0, 0) p.1 n (ap (λ (p : ℕ × ℕ). p.0) p.2 ∙ sym e ∙ ap (λ (p : ℕ × ℕ). p.0) here) in
      let place : b ≡ (get_or (pairs_in t.origins) l d).1 = sym (ap (λ (p : ℕ × ℕ). p.1) p.2) ∙ ap (λ k. (get_or (pairs_in t.origins) k (0, 0)).1) same ∙ sym (ap (λ (p : ℕ × ℕ). p.1) here) in
      subst (λ q. is_due (watch_of (with_due t (field_place b i) true)) q i ≡ true) place (due_here t b i within)

  pub written_tells : (t after : Tables) → Tells old new t → IsSome (field_at (take (length t.olds) old) a i) → Wrote a i t after → Tells (slice_set old (field_place a i) x) new after
  written_tells t after tells some (inl h) = subst (Tells (slice_set old (field_place a i) x) new) (sym h.1) (old_written t tells some (no_replica t h.0))
  written_tells t after tells some (inr (b, at, within, is)) =
      subst (Tells (slice_set old (field_place a i) x) new) (sym is)
      (old_written (with_due t (field_place b i) true) (due_told old new t (field_place b i) tells) some (its_replica t b tells at within))

pub old_link_tells : (old new : List ℕ) (t : Tables) (a x : ℕ) → Tells old new t → is_start (take (length t.olds) old) a ≡ true → Tells (slice_set old (link_place a) x) new t
old_link_tells old new t a x tells start = search (rules, still_seen, old_link, marks_linked)

pub new_link_tells : (old new : List ℕ) (t : Tables) (b x : ℕ) → Tells old new t → is_start (take (length t.news) new) b ≡ true → Tells old (slice_set new (link_place b) x) t
new_link_tells old new t b x tells start = search (rules, still_seen, new_link, marks_linked)

-- words behind the last
module _ (n : ℕ) (words more : List ℕ) (seen : IsSeen n words) where
  seen_more : IsSeen n (words ++ more)
  seen_more = grind (arith, common_steps, take-append-le)

  same_seen : (c : ℕ) → seen_at n words c ≡ seen_at n (words ++ more) c
  same_seen c = grind (arith, common_steps, take-append-le)

pub old_more_tells : (old new more : List ℕ) (t : Tables) → Tells old new t → Tells (old ++ more) new t
old_more_tells old new more t tells = grind (arith, common_steps, still_seen, seen_more, same_seen, take-append-le)

pub new_more_tells : (old new more : List ℕ) (t : Tables) → Tells old new t → Tells old (new ++ more) t
new_more_tells old new more t tells = grind (arith, common_steps, still_seen, seen_more, same_seen, take-append-le)

-- ---- a walk over the old space anew

-- the walk does not look at words behind it
behind_tells : (old words new : List ℕ) (t : Tables) → take (length t.olds) old ≡ take (length t.olds) words → length words ≡ length old → Tells old new t → Tells words new t
behind_tells old words new t same long tells = record {
  agree = tells.agree;
  watches = record {
    old_seen = record { within = omega (arith, tells.watches.old_seen.within, long); space = subst (λ ws. IsSpace (record { size = 4294967295; words = ws })) same tells.watches.old_seen.space };
    new_seen = tells.watches.new_seen;
    pairs = λ k d l. subst (λ ws. IsWatched (watch_of t) (get_or (pairs_in t.origins) k d).1 (block_at ws (get_or (pairs_in t.origins) k d).0) (seen_at (length t.news) new (get_or (pairs_in t.origins) k d).1)) same (tells.watches.pairs k d l);
    row = tells.watches.row;
    rising = tells.watches.rising;
    once = tells.watches.once;
  };
  old_starts = λ a m. subst (λ ws. is_start ws a ≡ true) same (tells.old_starts a m);
  new_starts = tells.new_starts;
}

-- a field written anywhere in the old space
pub anywhere_tells : (old new : List ℕ) (t after : Tables) (a i x : ℕ) → Tells old new t → IsSeen (length old) old → IsSome (field_at old a i) → Wrote a i t after → Tells (slice_set old (field_place a i) x) new after
anywhere_tells old new t after a i x tells whole some wrote = ⊎_elim
    (λ here. written_tells old new a i x t after tells here wrote)
    (λ there. behind_tells old (slice_set old (field_place a i) x) new after
    (sym (take-set-le (length after.olds) old (field_place a i) x (omega (arith, there, same_walk wrote))))
    (length-set old (field_place a i) x) (wrote_tells old new t after a i tells wrote))
    (field_where (length t.olds) old tells.watches.old_seen whole a i some)
  where
    same_walk : Wrote a i t after → length after.olds ≡ length t.olds
    same_walk (inl h) = ap (λ (t : Tables). length t.olds) h.1
    same_walk (inr (b, at, within, is)) = ap (λ (t : Tables). length t.olds) is

-- and a link
pub link_anywhere_tells : (old new : List ℕ) (t : Tables) (a x : ℕ) → Tells old new t → IsSeen (length old) old → is_start old a ≡ true → Tells (slice_set old (link_place a) x) new t
link_anywhere_tells old new t a x tells whole start = ⊎_elim
    (λ here. old_link_tells old new t a x tells (ap is_some here))
    (λ there. behind_tells old (slice_set old (link_place a) x) new t (sym (take-set-le (length t.olds) old (link_place a) x (omega (arith, there)))) (length-set old (link_place a) x) tells)
    (found_where (length t.olds) old tells.watches.old_seen whole a b.0 b.1)
  where
    b : (b : Block) × (block_at old a ≡ Some b)
    b = some_of (block_at old a) start

-- a replica has its original's fields
module _ (old new : List ℕ) (t : Tables) (tells : Tells old new t) (b i : ℕ) (has : IsPassedField (slice_index new b) t b i) where
  abbrev its_origin : ℕ
  its_origin = get_or t.origins b 0

  abbrev its_field : IsFieldOf new t has.header its_origin b i
  its_field = record { header = has.is; has_field = has.has_field; origin = refl; low = has.origin; within = has.within }

  abbrev its_words : Blocks old new t its_origin b tells has.origin refl
  its_words = its old new t has.header its_origin b i tells its_field

  same_as : its_words.one.header ≡ has.header
  same_as = one_header old new t has.header its_origin b i tells its_field

  pub original_field : IsSome (field_at (take (length t.olds) old) (get_or t.origins b 0) i)
  original_field = has_field (length t.olds) old its_origin i its_words.one tells.watches.old_seen its_words.one_at (subst (λ (g : Header). i < g.len) (sym same_as) has.has_field)

-- a space without objects has no replicas
pub none_replicated : (old new : List ℕ) (t : Tables) → Tells old new t → length new ≤ 1 → (a : ℕ) → HasNoReplica t a
none_replicated old new t tells short a b low is =
    let its : Blocks old new t (get_or t.origins b 0) b tells low refl = its_blocks old new t (get_or t.origins b 0) b tells low refl in
    let stands = stands_at (length t.news) new b 0 its.other tells.watches.new_seen its.other_at in
    omega (arith, stands.low, stands.fits, tells.watches.new_seen.within, short, length-take (length t.news) new)

-- both fields written, and then looked at
pub both_tells : (old new : List ℕ) (t after : Tables) (a b i x y : ℕ) → Tells old new t → get_or t.origins b 0 ≡ a → Looked (slice_set old (field_place a i) x) (slice_set new (field_place b i) y) b i t after
    → Tells (slice_set old (field_place a i) x) (slice_set new (field_place b i) y) after
both_tells old new t after a b i x y tells origin is =
    brought_due (slice_set old (field_place a i) x) new t after b i y
    (written_tells old new a i x t (with_due t (field_place b i) true) tells
    (subst (λ a. IsSome (field_at (take (length t.olds) old) a i)) origin
    (original_field old new t tells b i (record { header = is.0; is = ap read_header same_word ∙ is.2.header; has_field = is.2.has_field; origin = low; within = is.2.within })))
    (inr (b, record { low = subst (λ a. 1 ≤ a) origin low; taken = ap (λ a. get_or t.olds a 0) (sym origin) ∙ tells.agree.taken b low; origin = origin }, is.2.within, refl)))
    is
  where
    low : 1 ≤ get_or t.origins b 0
    low = subst (λ a. 1 ≤ a) (sym is.2.origin) is.2.low

    same_word : slice_index new b ≡ slice_index (slice_set new (field_place b i) y) b
    same_word = sym (get_or-set_other new (field_place b i) b y 0 (λ e. let f : b ≡ field_place b i = e in omega arith))
