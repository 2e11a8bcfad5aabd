-- Where the walk over a part of the words has come to, the walk over all of them goes on: it finds the same objects in front, and the others behind.
use Rattle.std.proofs.lemmas.Grind.{common_steps}
use Rattle.std.proofs.Common.{◌≡◌, ◌⊎◌, inl, inr, ⊎_elim, ℕ, zero, suc, ◌+◌, ◌-◌, ◌<◌, ◌≤◌, ◌==◌, true, false, cond, List, [], ◌∷◌, ◌++◌, length, take, drop, Option, Some, None, is_some, refl, sym, ◌∙◌, ap, subst, arith, length-take}
use Rattle.std.specs.Prelude.{slice_index, IsOk, IsSome}
use Rattle.std.specs.Result.{result_unwrap_or}
use Rattle.std.specs.List.{AllByRecursion}
use Rattle.std.proofs.lemmas.Bool.{cases_eq, cases_lt, eq-eqb, ne_eqb, leb-true, le-leb}
use Rattle.std.proofs.lemmas.List.{drop-take, take-take, get_or-take}
use Rattle.gc_words.specs.Word.{read_header}
use Rattle.gc_words.specs.Image.{Block, walk_words, blocks, block_in, block_at, header_of, header_at, field_in, field_at}
use Rattle.gc_words.specs.Layout.{field_place}
use Rattle.gc_words.specs.Walking.{next_after, next_of}
use Rattle.gc_words.specs.declared.header.Header.{Header}
use Rattle.gc_words.proofs.Public.{Behind, at_end, behind, block_from, has_next, none_at_end, ok_is, some_of, starts_above, walk_from}
use Rattle.gc_monitor.specs.Watch.{IsSeen, IsNext, front}
use Rattle.gc_monitor.proofs.Seen.{all_of}

-- the objects of a walk from this place on
abbrev pub objects_from : List ℕ → ℕ → List (ℕ × Block)
objects_from words at = result_unwrap_or (walk_from words at) []

module _ (words : List ℕ) (n : ℕ) (inside : n ≤ length words) where
  long : length (take n words) ≡ n
  long = omega (arith, length-take n words)

  -- an object that fits in the front fits in all words
  next_fits : (at next : ℕ) (o : Option Header) → at < n → next_after at o (length (take n words) - at) ≡ Some next → next_after at o (length words - at) ≡ Some next
  next_fits at next None less e = e
  next_fits at next (Some h) less e = grind (arith, common_steps, long, leb-true, le-leb)

  same_next : (at next : ℕ) → at < n → next_of (take n words) at ≡ Some next → next_of words at ≡ Some next
  same_next at next less e =
      next_fits at next (read_header (slice_index words at)) less
      (ap (λ w. next_after at (read_header w) (length (take n words) - at)) (sym (get_or-take n words at 0 less)) ∙ e)

  same_block : (at : ℕ) (h : Header) → at + (h.len + 2) ≤ n → block_from (take n words) at h ≡ block_from words at h
  same_block at h fits =
      let rest : at + 2 + (n - (at + 2)) ≡ n = omega arith in
      let front : drop (at + 2) (take n words) ≡ take (n - (at + 2)) (drop (at + 2) words) = ap (λ m. drop (at + 2) (take m words)) (sym rest) ∙ drop-take (at + 2) (n - (at + 2)) words in
      ap (λ fs. record { header = h; fields = fs }) (ap (take h.len) front ∙ take-take h.len (n - (at + 2)) (drop (at + 2) words) (omega arith))

  abbrev GoesOn : ℕ → Type 0
  GoesOn at = IsOk (walk_from words n) × (objects_from words at ≡ objects_from (take n words) at ++ objects_from words n)

  at_front_end : (at : ℕ) → at ≡ n → IsOk (walk_from words at) → GoesOn at
  at_front_end at is ok = (
    subst (λ m. IsOk (walk_from words m)) is ok,
    ap (objects_from words) is ∙ ap (λ bs. bs ++ objects_from words n) (sym (ap (λ r. result_unwrap_or r []) (at_end (take n words) at (omega (arith, long))))),
  )

  goes_on : (fuel at : ℕ) → n ≤ at + fuel → at ≤ n → IsOk (walk_from (take n words) at) → IsOk (walk_from words at) → GoesOn at
  goes_on zero at enough low front ok = at_front_end at (omega arith) ok
  goes_on (suc fuel) at enough low front ok = ⊎_elim
      (λ less.
      let inside_front : at < length (take n words) = omega (arith, long, less) in
      let there = some_of (next_of (take n words) at) (has_next (take n words) at inside_front front) in
      let one : Behind (take n words) at there.0 = behind (take n words) at there.0 inside_front front there.1 in
      let all : Behind words at there.0 = behind words at there.0 (omega (arith, less)) ok (same_next at there.0 less there.1) in
      let same : one.step.header ≡ all.step.header = (let s : Some one.step.header ≡ Some all.step.header = sym one.step.word ∙ ap read_header (get_or-take n words at 0 less) ∙ all.step.word in cc) in
      let rest : GoesOn there.0 = goes_on fuel there.0 (omega (arith, enough, one.step.place)) (omega (arith, one.step.within, long)) one.walked all.walked in (
        rest.0,
        all.objects
            ∙ ap (λ bs. (at, block_from words at all.step.header) ∷ bs) rest.1
            ∙ ap (λ (h : Header). (at, block_from words at h) ∷ (objects_from (take n words) there.0 ++ objects_from words n)) (sym same)
            ∙ ap (λ b. (at, b) ∷ (objects_from (take n words) there.0 ++ objects_from words n)) (sym (same_block at one.step.header (omega (arith, one.step.place, one.step.within, long))))
            ∙ ap (λ bs. bs ++ objects_from words n) (sym one.objects),
      ))
      (λ past. at_front_end at (omega (arith, past)) ok)
      (cases_lt at n)

-- ---- an object is in front or behind

in_one : (bs cs : List (ℕ × Block)) (a : ℕ) (b : Block) → block_in bs a ≡ Some b → block_in (bs ++ cs) a ≡ Some b
in_one [] cs a b e = absurd (let no : None ≡ Some b = e in cc)
in_one (x ∷ bs) cs a b e = elim (x.0 == a) as (λ t. cond t (Some x.1) (block_in bs a) ≡ Some b → cond t (Some x.1) (block_in (bs ++ cs) a) ≡ Some b) [
  | true ↦ λ g. g
  | false ↦ λ g. in_one bs cs a b g
] e

in_either : (bs cs : List (ℕ × Block)) (a : ℕ) → (block_in (bs ++ cs) a ≡ block_in bs a) ⊎ (block_in (bs ++ cs) a ≡ block_in cs a)
in_either [] cs a = inr refl
in_either (x ∷ bs) cs a = elim (x.0 == a) as (λ t. (cond t (Some x.1) (block_in (bs ++ cs) a) ≡ cond t (Some x.1) (block_in bs a)) ⊎ (cond t (Some x.1) (block_in (bs ++ cs) a) ≡ block_in cs a)) [
  | true ↦ inl refl
  | false ↦ in_either bs cs a
]

in_other : (bs cs : List (ℕ × Block)) (a : ℕ) → block_in bs a ≡ None → block_in (bs ++ cs) a ≡ block_in cs a
in_other [] cs a e = refl
in_other (x ∷ bs) cs a e = elim (x.0 == a) as (λ t. cond t (Some x.1) (block_in bs a) ≡ None → cond t (Some x.1) (block_in (bs ++ cs) a) ≡ block_in cs a) [
  | true ↦ λ g. absurd (let no : Some x.1 ≡ None = g in cc)
  | false ↦ λ g. in_other bs cs a g
] e

above : (bs : List (ℕ × Block)) (low a : ℕ) (b : Block) → AllByRecursion (λ x. low ≤ x.0) bs → block_in bs a ≡ Some b → low ≤ a
above [] low a b all e = absurd (let no : None ≡ Some b = e in cc)
above (x ∷ bs) low a b all e = ⊎_elim
    (λ same. omega (arith, all.0, same))
    (λ other. above bs low a b all.1 (ap (λ t. cond t (Some x.1) (block_in bs a)) (sym (ne_eqb x.0 a other)) ∙ e))
    (cases_eq x.0 a)

module _ (n : ℕ) (words : List ℕ) (seen : IsSeen n words) (whole : IsSeen (length words) words) where
  all_walked : IsOk (walk_words words)
  all_walked = subst (λ ws. IsOk (walk_words ws)) (all_of (length words) words refl) whole.space.walked

  goes_behind : IsOk (walk_from words n) × (blocks words ≡ blocks (take n words) ++ objects_from words n)
  goes_behind = goes_on words n seen.within n 1 (omega arith) (let low : 1 ≤ length (take n words) = seen.space.end_low in omega (arith, low, length-take n words)) seen.space.walked all_walked

  -- an object of the front is one of all words
  pub found_in_all : (a : ℕ) (b : Block) → block_at (take n words) a ≡ Some b → block_at words a ≡ Some b
  found_in_all a b e = ap (λ bs. block_in bs a) goes_behind.1 ∙ in_one (blocks (take n words)) (objects_from words n) a b e

  -- an object of all words is one of the front, or lies behind it
  pub found_where : (a : ℕ) (b : Block) → block_at words a ≡ Some b → (block_at (take n words) a ≡ Some b) ⊎ (n ≤ a)
  found_where a b e = ⊎_elim
      (λ here. inl (sym here ∙ ap (λ bs. block_in bs a) (sym goes_behind.1) ∙ e))
      (λ there. inr (
      let low : n + 0 ≤ a = above (objects_from words n) (n + 0) a b (starts_above (drop n words) 0 n _ (ok_is (walk_from words n) goes_behind.0)) (sym there ∙ ap (λ bs. block_in bs a) (sym goes_behind.1) ∙ e) in
      omega (arith, low)))
      (in_either (blocks (take n words)) (objects_from words n) a)

  pub field_where : (a i : ℕ) → IsSome (field_at words a i) → IsSome (field_at (take n words) a i) ⊎ (n ≤ field_place a i)
  field_where a i some = from (block_at words a) refl some
    where
      from : (o : Option Block) → block_at words a ≡ o → is_some (field_in o i) ≡ true → IsSome (field_at (take n words) a i) ⊎ (n ≤ field_place a i)
      from None e s = absurd (let no : false ≡ true = s in cc)
      from (Some b) e s = ⊎_elim (λ here. inl (ap (λ o. is_some (field_in o i)) here ∙ s)) (λ there. inr (omega (arith, there))) (found_where a b e)

  -- where it goes on, an object starts
  pub start_there : n < length words → (h : Header) × IsNext n words h × (header_at words n ≡ Some h)
  start_there less =
      let there = some_of (next_of words n) (has_next words n less goes_behind.0) in
      let b : Behind words n there.0 = behind words n there.0 less goes_behind.0 there.1 in
      let count : length (take n words) ≡ n = omega (arith, length-take n words, seen.within) in
      let none : block_at (take n words) n ≡ None = subst (λ m. block_at (take n words) m ≡ None) count (none_at_end (front n words) seen.space) in (
        b.step.header,
        record { header = b.step.word; within = omega (arith, b.step.within, b.step.place); bound = (let top : length (take (length words) words) ≤ 4294967295 = whole.space.end_high in omega (arith, b.step.within, b.step.place, top, length-take (length words) words)) },
        ap (λ bs. header_of (block_in bs n)) (goes_behind.1 ∙ ap (λ bs. blocks (take n words) ++ bs) b.objects)
            ∙ ap header_of (in_other (blocks (take n words)) ((n, block_from words n b.step.header) ∷ objects_from words there.0) n none)
            ∙ ap (λ t. header_of (cond t (Some (block_from words n b.step.header)) (block_in (objects_from words there.0) n))) (eq-eqb n n refl),
      )
