-- A major collection goes on across a minor one, if the remembered fields are logged.
use Rattle.std.proofs.lemmas.Grind.{common_steps}
use Rattle.std.proofs.Common.{◌≡◌, ◌⊎◌, inl, inr, ℕ, ◌<◌, Bool, true, false, List, ◌++◌, length, Option, Some, slice_get, refl, ap, sym, ◌∙◌, subst, arith}
use Rattle.std.specs.Prelude.{IsOk, IsTrue, IsFalse}
use Rattle.std.specs.List.{All}
use Rattle.std.proofs.lemmas.Bool.{cases_Bool}
use Rattle.gc_graph.specs.Correspond.{paired}
use Rattle.gc_words.specs.Word.{words_correspond}
use Rattle.gc_words.specs.Image.{Block, walk, blocks, block_at, header_of, field_in, field_at}
use Rattle.gc_words.proofs.Public.{block_of_header}
use Rattle.gc_nursery.specs.Minor.{is_young, young_blocks, IsStanding, IsMinor}
use Rattle.gc_nursery.specs.Major.{IsUnderWay}
use Rattle.gc_nursery.proofs.Lists.{any_left, any_right, paired_all, found_left, found_right}
use Rattle.gc_nursery.proofs.Fronts.{whole_blocks, young_above}

module _ (size : ℕ) (front after young survivors roots new_roots : List ℕ) (remembered young_pairs : List (ℕ × ℕ)) (standing : IsStanding size front young roots remembered)
    (minor : IsMinor size front after young survivors roots new_roots remembered young_pairs) (replicas : List ℕ) (pairs due : List (ℕ × ℕ)) (old : All (λ p. p.0 < length front) pairs)
    (before : IsUnderWay (length front) front replicas pairs due) where
  not_due : (a i : ℕ) → paired (remembered ++ due) a i ≡ false → (paired remembered a i ≡ false) × (paired due a i ≡ false)
  not_due a i e = grind (arith, common_steps, cases_Bool, any_left, any_right)

  -- the object before, at an old address
  earlier : (a : ℕ) (o : Block) → a < length front → block_at (after ++ survivors) a ≡ Some o → block_at after a ≡ Some o
  earlier a o low found = go (block_at after a) refl
    where
      as_long : length after ≡ length front
      as_long = minor.rewritten.as_long

      walked : IsOk (walk true 0 (length after) survivors)
      walked = subst (λ n. IsOk (walk true 0 n survivors)) (sym as_long) minor.certified.new_walked

      both : blocks (after ++ survivors) ≡ blocks after ++ young_blocks (length after) survivors
      both = whole_blocks size after survivors minor.shaped walked

      go : (q : Option Block) → block_at after a ≡ q → block_at after a ≡ Some o
      go q e = grind (arith, common_steps, both, found_left, young_above, walked, found_right)

  pub under_way : (base : ℕ) → IsUnderWay base (after ++ survivors) replicas pairs (remembered ++ due)
  under_way base = record { each = each }
    where
      each : (a b i v w : ℕ) (o : Block) → IsTrue (paired pairs a b) → block_at (after ++ survivors) a ≡ Some o → IsFalse o.header.raw
          → slice_get o.fields i ≡ Some v → field_at replicas b i ≡ Some w → IsFalse (paired (remembered ++ due) a i) → IsFalse (is_young base v) → IsTrue (words_correspond pairs v w)
      each a b i v w o is found plain get replica idle any_word =
          let there : block_at after a ≡ Some o = earlier a o (paired_all (λ p. p.0 < length front) pairs a b is old) found in
          let first : (c : Block) × (block_at front a ≡ Some c) × (c.header ≡ o.header) = block_of_header front a o.header (sym (minor.rewritten.headers a) ∙ ap header_of there) in
          let rest : (paired remembered a i ≡ false) × (paired due a i ≡ false) = not_due a i idle in
          let word : slice_get first.0.fields i ≡ Some v = sym (ap (λ o. field_in o i) first.1) ∙ sym (minor.rewritten.beside a i rest.0) ∙ ap (λ o. field_in o i) there ∙ get in
          let is_plain : first.0.header.raw ≡ false = ap (λ h. h.raw) first.2 ∙ plain in
          before.each a b i v w first.0 is first.1 is_plain word replica rest.1 (not_remembered (is_young (length front) v) (paired remembered a i) (cases_Bool (is_young (length front) v)) rest.0 (λ y. standing.complete.each a i v first.0 first.1 is_plain word y))
        where
          not_remembered : (x y : Bool) → (x ≡ true) ⊎ (x ≡ false) → y ≡ false → (x ≡ true → y ≡ true) → x ≡ false
          not_remembered x y (inl t) f h = absurd (let u : y ≡ true = h t in let no : true ≡ false = sym u ∙ f in cc)
          not_remembered x y (inr e) f h = e
