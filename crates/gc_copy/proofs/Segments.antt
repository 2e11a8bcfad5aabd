-- The entries of a log that lie in segments.
use Rattle.std.proofs.lemmas.Grind.{common_steps}
use Rattle.std.proofs.Common.{◌≡◌, ℕ, suc, zero, ◌+◌, ◌-◌, ◌*◌, ◌<◌, ◌≤◌, ◌==◌, List, [], ◌∷◌, ◌++◌, map, drop, length, Option, Some, None, refl, ap, sym, ◌∙◌, subst, arith, inr, ◌^◌, ◌/◌, ◌%◌, get_or, Bor}
use Rattle.std.specs.Prelude.{slice_get, slice_set}
use Rattle.std.specs.Vec.{vec_len, vec_capacity}
use Rattle.std.specs.declared.vec.Vec.{Vec}
use Rattle.std.proofs.lemmas.List.{length-map, length-drop, length-append, length-set, append_assoc, append-nil, map-append, nil_from_length, length_push, drop_at, drop_all, drop-drop, drop-append-le, drop-map}
use Rattle.std.proofs.lemmas.Bool.{ne_eqb}
use Rattle.std.proofs.lemmas.Option.{slice_get-map, slice_get_within, slice_get_past, slice_get_read}
use Rattle.std.specs.Option.{option_map, option_copied, MatchOption, IfSome}
use Rattle.std.specs.List.{HoldsAt}
use Rattle.gc_model.specs.Steps.{is_empty}
use Rattle.gc_copy.specs.declared.log.LogEntry.{LogEntry}
use Rattle.gc_copy.specs.Entries.{entry_in}
use Rattle.gc_copy.specs.Internal.Segments.{segment, joined, AreSegments, IsLog}

slice_get_before : {X : Type 0} (xs ys : List X) (k : ℕ) → k < length xs → slice_get (xs ++ ys) k ≡ slice_get xs k
slice_get_before [] ys k h = absurd (omega arith)
slice_get_before (x ∷ xs) ys zero h = refl
slice_get_before (x ∷ xs) ys (suc k) h = slice_get_before xs ys k (omega arith)

slice_get_after : {X : Type 0} (xs ys : List X) (k : ℕ) → slice_get (xs ++ ys) (length xs + k) ≡ slice_get ys k
slice_get_after [] ys k = ap (slice_get ys) (let e : 0 + k ≡ k = omega arith in e)
slice_get_after (x ∷ xs) ys k = ap (slice_get (x ∷ (xs ++ ys))) (let e : suc (length xs) + k ≡ suc (length xs + k) = omega arith in e) ∙ slice_get_after xs ys k

slice_get_dropped : {X : Type 0} (gone : ℕ) (xs : List X) (k : ℕ) → slice_get (drop gone xs) k ≡ slice_get xs (gone + k)
slice_get_dropped zero xs k = ap (slice_get xs) (let e : k ≡ 0 + k = omega arith in e)
slice_get_dropped (suc gone) [] k = refl
slice_get_dropped (suc gone) (x ∷ xs) k = slice_get_dropped gone xs k ∙ ap (slice_get (x ∷ xs)) (let e : suc (gone + k) ≡ suc gone + k = omega arith in e)

-- what `xs.get(i).copied()` returns
pub copied : {X : Type 0} (xs : List X) (i : ℕ) (r : Option (Bor X)) → MatchOption r (length xs ≤ i) (λ x. (i < length xs) × HoldsAt (λ y. x.now ≡ y) xs i) → IfSome r (λ x. x.now ≡ get_or xs i x.now) → option_copied r ≡ slice_get xs i
copied xs i r past same = grind (arith, common_steps, slice_get_past, slice_get_read)

noted : (xs : List LogEntry) (gone : ℕ) (entry : LogEntry) → gone ≤ length xs → map entry_in (drop gone (xs ++ entry ∷ [])) ≡ map entry_in (drop gone xs) ++ entry_in entry ∷ []
noted xs gone entry less = ap (map entry_in) (drop-append-le gone xs (entry ∷ []) less) ∙ map-append entry_in (drop gone xs) (entry ∷ [])

dropped_one : (xs : List LogEntry) (gone : ℕ) → map entry_in (drop (gone + 1) xs) ≡ drop 1 (map entry_in (drop gone xs))
dropped_one xs gone = ap (map entry_in) (sym (drop-drop 1 gone xs)) ∙ sym (drop-map entry_in 1 (drop gone xs))

module _ {Z : Type 0} where
  pub full_within : (full : ℕ) (ss : List (Vec LogEntry Z)) → AreSegments full ss → full ≤ length ss
  full_within zero [] h = omega arith
  full_within zero (s ∷ ss) h = omega arith
  full_within (suc full) [] h = absurd h
  full_within (suc full) (s ∷ ss) h = let rest = full_within full ss h.2 in omega arith

  joined_long : (full : ℕ) (ss : List (Vec LogEntry Z)) → AreSegments full ss → length (joined ss) ≡ full * segment
  joined_long zero [] h = refl
  joined_long zero (s ∷ ss) h = let rest = joined_long zero ss h.2 in let ok = s.ok in omega (arith, length-append s.items (joined ss))
  joined_long (suc full) [] h = absurd h
  joined_long (suc full) (s ∷ ss) h = let rest = joined_long full ss h.2 in let ok = s.ok in omega (arith, length-append s.items (joined ss))

  -- the entries that are left
  abbrev pub left_in : List (Vec LogEntry Z) → Vec LogEntry Z → ℕ → List (ℕ × ℕ)
  left_in ss last gone = map entry_in (drop gone (joined ss ++ last.items))

  module _ (ss : List (Vec LogEntry Z)) (full : ℕ) (last : Vec LogEntry Z) (gone : ℕ) (h : IsLog ss full last gone) where
    gone_within : gone ≤ full * segment + vec_len last
    gone_within = grind (arith, common_steps)

    pub counted : full * segment + vec_len last - gone ≡ length (left_in ss last gone)
    counted = grind (arith, common_steps, length-map, length-drop, joined_long, length-append)

    pub bounded : full * segment + vec_len last < 2 ^ 62
    bounded = grind (arith, common_steps, full_within)

    pub empty_if : is_empty (left_in ss last gone) ≡ (vec_len last == 0)
    empty_if = grind (arith, common_steps, counted, ne_eqb)

    pub none_left : vec_len last ≡ 0 → left_in ss last gone ≡ []
    none_left e = let no = h.none e in let n = counted in nil_from_length (left_in ss last gone) (omega arith)

  joined_none : (ss : List (Vec LogEntry Z)) → AreSegments 0 ss → joined ss ≡ []
  joined_none ss h = nil_from_length (joined ss) (let n = joined_long 0 ss h in omega arith)

  -- ---- an entry at its place

  in_full : (full : ℕ) (ss : List (Vec LogEntry Z)) (tail : List LogEntry) (q r : ℕ) (s : Vec LogEntry Z) → AreSegments full ss → q < full → slice_get ss q ≡ Some s → r < segment
      → slice_get (joined ss ++ tail) (q * segment + r) ≡ slice_get s.items r
  in_full zero ss tail q r s h less e lt = absurd (omega arith)
  in_full (suc full) [] tail q r s h less e lt = absurd h
  in_full (suc full) (s' ∷ ss) tail zero r s h less e lt = grind (arith, common_steps, append_assoc, slice_get_before, slice_get_after)
  in_full (suc full) (s' ∷ ss) tail (suc q) r s h less e lt = grind (arith, common_steps, append_assoc, slice_get_before, slice_get_after, in_full full ss tail q r s h.2 (omega arith) e lt)

  module _ (ss : List (Vec LogEntry Z)) (full : ℕ) (last : Vec LogEntry Z) (gone : ℕ) (h : IsLog ss full last gone) where
    at_place : (k : ℕ) → slice_get (left_in ss last gone) k ≡ option_map entry_in (slice_get (joined ss ++ last.items) (gone + k))
    at_place k = slice_get-map entry_in (drop gone (joined ss ++ last.items)) k ∙ ap (option_map entry_in) (slice_get_dropped gone (joined ss ++ last.items) k)

    pub entry_in_full : (k : ℕ) (s : Vec LogEntry Z) → (gone + k) / segment < full → slice_get ss ((gone + k) / segment) ≡ Some s
        → slice_get (left_in ss last gone) k ≡ option_map entry_in (slice_get s.items ((gone + k) % segment))
    entry_in_full k s less e =
        at_place k
        ∙ ap (λ (p : ℕ). option_map entry_in (slice_get (joined ss ++ last.items) p)) (let e : gone + k ≡ (gone + k) / segment * segment + (gone + k) % segment = omega arith in e)
        ∙ ap (option_map entry_in) (in_full full ss last.items ((gone + k) / segment) ((gone + k) % segment) s h.shape less e (omega arith))

    pub entry_in_last : (k : ℕ) → full ≤ (gone + k) / segment → slice_get (left_in ss last gone) k ≡ option_map entry_in (slice_get last.items (gone + k - full * segment))
    entry_in_last k more = grind (arith, common_steps, at_place, joined_long, slice_get_after)

  -- ---- one entry more

  filled : (full : ℕ) (ss : List (Vec LogEntry Z)) (last next : Vec LogEntry Z) → AreSegments full ss → slice_get ss full ≡ Some next → vec_len last ≡ segment → vec_capacity last ≡ segment
      → AreSegments (suc full) (slice_set ss full last) × (vec_len next ≡ 0) × (vec_capacity next ≡ segment) × (joined (slice_set ss full last) ≡ joined ss ++ last.items)
  filled zero [] last next h e n c = absurd (let no : None ≡ Some next = e in cc)
  filled zero (s ∷ ss) last next h e n c = grind (arith, common_steps, joined_none, append-nil)
  filled (suc full) [] last next h e n c = absurd h
  filled (suc full) (s ∷ ss) last next h e n c = grind (arith, common_steps, append_assoc, filled full ss last next h.2 e n c)

  module _ (ss : List (Vec LogEntry Z)) (full : ℕ) (last : Vec LogEntry Z) (gone : ℕ) (h : IsLog ss full last gone) where
    module _ (later : Vec LogEntry Z) (entry : LogEntry) (items : later.items ≡ last.items ++ entry ∷ []) where
      pub noted_here : left_in ss later gone ≡ left_in ss last gone ++ entry_in entry ∷ []
      noted_here = grind (arith, common_steps, append_assoc, noted, gone_within, joined_long, length-append)

    module _ (next : Vec LogEntry Z) (there : slice_get ss full ≡ Some next) (last_full : vec_len last ≡ vec_capacity last) where
      last_room : vec_capacity last ≡ segment
      last_room = grind (arith, common_steps, slice_get_within)

      parts : AreSegments (suc full) (slice_set ss full last) × (vec_len next ≡ 0) × (vec_capacity next ≡ segment) × (joined (slice_set ss full last) ≡ joined ss ++ last.items)
      parts = filled full ss last next h.shape there (last_full ∙ last_room) last_room

      pub next_room : (vec_len next ≡ 0) × (vec_capacity next ≡ segment)
      next_room = (parts.1, parts.2)

      module _ (later : Vec LogEntry Z) (entry : LogEntry) (items : later.items ≡ next.items ++ entry ∷ []) where
        pub noted_next : left_in (slice_set ss full last) later gone ≡ left_in ss last gone ++ entry_in entry ∷ []
        noted_next = grind (arith, common_steps, nil_from_length, parts, noted, joined_long, length-append, gone_within)

        pub log_next : vec_len later ≡ vec_len next + 1 → vec_capacity later ≡ vec_capacity next → IsLog (slice_set ss full last) (full + 1) later gone
        log_next n c = record {
          shape = subst (λ (f : ℕ). AreSegments f (slice_set ss full last)) (let e : suc full ≡ full + 1 = omega arith in e) parts.0;
          few = let few = h.few in let n = length-set ss full last in omega arith;
          room = inr (c ∙ parts.2);
          first = h.first;
          left = λ more none. absurd (omega arith);
          none = λ no. absurd (omega arith);
        }

  -- ---- one entry less

  pub pushed : (full : ℕ) (ss : List (Vec LogEntry Z)) (s : Vec LogEntry Z) → AreSegments full ss → vec_len s ≡ 0 → vec_capacity s ≡ segment
      → AreSegments full (ss ++ s ∷ []) × (joined (ss ++ s ∷ []) ≡ joined ss)
  pushed zero [] s h n c = ((n, c, tt), append-nil s.items ∙ nil_from_length s.items (let ok = s.ok in omega arith))
  pushed zero (s' ∷ ss) s h n c = let rest = pushed zero ss s h.2 n c in ((h.0, h.1, rest.0), ap (λ (xs : List LogEntry). s'.items ++ xs) rest.1)
  pushed (suc full) [] s h n c = absurd h
  pushed (suc full) (s' ∷ ss) s h n c = let rest = pushed full ss s h.2 n c in ((h.0, h.1, rest.0), ap (λ (xs : List LogEntry). s'.items ++ xs) rest.1)

  -- what the first of the full segments has, and what is left without it
  pub first_of : (full : ℕ) (s : Vec LogEntry Z) (ss : List (Vec LogEntry Z)) → AreSegments full (s ∷ ss) → 1 ≤ full
      → (vec_capacity s ≡ segment) × AreSegments (full - 1) ss × (joined ss ≡ drop segment (joined (s ∷ ss)))
  first_of zero s ss h less = absurd (omega arith)
  first_of (suc full) s ss h less = (h.1, subst (λ (f : ℕ). AreSegments f ss) (let e : full ≡ suc full - 1 = omega arith in e) h.2, sym (drop_at s.items (joined ss) segment (let n = h.0 in omega arith)))

  module _ (ss : List (Vec LogEntry Z)) (full : ℕ) (last : Vec LogEntry Z) (gone : ℕ) (h : IsLog ss full last gone) where
    pub dropped_here : left_in ss last (gone + 1) ≡ drop 1 (left_in ss last gone)
    dropped_here = dropped_one (joined ss ++ last.items) gone

    pub dropped_all : (later : Vec LogEntry Z) → later.items ≡ [] → full ≡ 0 → gone + 1 ≡ vec_len last → left_in ss later 0 ≡ drop 1 (left_in ss last gone)
    dropped_all later empty none all =
        ap (map entry_in) (ap (λ (xs : List LogEntry). joined ss ++ xs) empty ∙ append-nil (joined ss) ∙ joined_none ss (subst (λ (f : ℕ). AreSegments f ss) none h.shape))
        ∙ sym (drop_all 1 (left_in ss last gone) (let n = counted ss full last gone h in omega arith))

    pub dropped_first : (rest : List (Vec LogEntry Z)) → joined rest ≡ drop segment (joined ss) → 1 ≤ full → gone + 1 ≡ segment → left_in rest last 0 ≡ drop 1 (left_in ss last gone)
    dropped_first rest e some all =
        ap (λ (xs : List LogEntry). map entry_in (xs ++ last.items)) e
        ∙ ap (map entry_in) (sym (drop-append-le segment (joined ss) last.items (let j = joined_long full ss h.shape in omega arith)))
        ∙ ap (λ (n : ℕ). map entry_in (drop n (joined ss ++ last.items))) (sym all)
        ∙ dropped_here

  -- ---- one segment more

  module _ (ss : List (Vec LogEntry Z)) (full : ℕ) (last : Vec LogEntry Z) (gone : ℕ) (h : IsLog ss full last gone) (s : Vec LogEntry Z) (empty : vec_len s ≡ 0) (room : vec_capacity s ≡ segment) where
    pub log_longer : length ss < 2 ^ 50 → (vec_capacity last ≡ 0 → ⊥) → IsLog (ss ++ s ∷ []) full last gone
    log_longer few some = grind (arith, common_steps, pushed, length_push)

    pub longer_same : left_in (ss ++ s ∷ []) last gone ≡ left_in ss last gone
    longer_same = ap (λ (xs : List LogEntry). map entry_in (drop gone (xs ++ last.items))) (pushed full ss s h.shape empty room).1
