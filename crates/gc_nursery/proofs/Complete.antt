-- The write barrier keeps the remembered set complete.
use Rattle.std.proofs.lemmas.Grind.{common_steps}
use Rattle.std.proofs.Common.{◌≡◌, ◌≢◌, inl, inr, ℕ, true, false, ◌==◌, List, length, Some, is_some, slice_get, ap, sym, ◌∙◌, subst, length-set, arith}
use Rattle.std.specs.Prelude.{IsTrue, IsFalse, IsSome, slice_set}
use Rattle.std.proofs.lemmas.Bool.{or_left, or_right, cases_Bool, eqb-true, eq-eqb, and_from}
use Rattle.gc_graph.specs.Correspond.{paired}
use Rattle.gc_words.specs.Layout.{field_place}
use Rattle.gc_words.specs.Image.{Block, block_at, field_in, field_at, with_field_word}
use Rattle.gc_words.specs.Space.{IsSpace}
use Rattle.gc_words.proofs.Public.{field_block, field_beside}
use Rattle.gc_nursery.specs.Minor.{is_young, IsComplete, remember}
use Rattle.gc_nursery.proofs.Lists.{get_set_here, get_set_other}

module _ (size : ℕ) (front : List ℕ) (remembered : List (ℕ × ℕ)) (a i old w : ℕ) (b : Block) (shaped : IsSpace (record { size = size; words = front })) (complete : IsComplete front remembered) (found : block_at front a ≡ Some b) (get : slice_get b.fields i ≡ Some old) where
  abbrev later : List (ℕ × ℕ)
  later = remember (length front) old w a i remembered

  has_field : IsSome (field_at front a i)
  has_field = ap is_some (ap (λ o. field_in o i) found ∙ get)

  keeps : (x j : ℕ) → paired remembered x j ≡ true → paired later x j ≡ true
  keeps x j e = grind (arith, common_steps, or_right)

  adds : is_young (length front) w ≡ true → is_young (length front) old ≡ false → paired later a i ≡ true
  adds young before = grind (arith, common_steps, and_from, or_left, eq-eqb)

  here : IsFalse b.header.raw → is_young (length front) w ≡ true → paired later a i ≡ true
  here plain young = grind (arith, common_steps, cases_Bool, keeps, adds)

  same_object : (j u : ℕ) (c : Block) → c ≡ with_field_word b i w → IsFalse c.header.raw → slice_get c.fields j ≡ Some u → is_young (length front) u ≡ true → paired later a j ≡ true
  same_object j u c is plain e young = grind (arith, common_steps, cases_Bool, eqb-true, get_set_here, here, eq-eqb, keeps, get_set_other)

  pub complete_after : IsComplete (slice_set front (field_place a i) w) (remember (length front) old w a i remembered)
  complete_after = record { each = each_after }
    where
      each_after : (x j u : ℕ) (c : Block) → block_at (slice_set front (field_place a i) w) x ≡ Some c → IsFalse c.header.raw → slice_get c.fields j ≡ Some u → IsTrue (is_young (length (slice_set front (field_place a i) w)) u) → IsTrue (paired later x j)
      each_after x j u c there plain e young = elim (cases_Bool (a == x)) [
        | inl same ↦ (let at : a ≡ x = eqb-true a x same in
            let is : c ≡ with_field_word b i w = (let s : Some c ≡ Some (with_field_word b i w) = sym there ∙ ap (block_at (slice_set front (field_place a i) w)) (sym at) ∙ field_block (record { size = size; words = front }) a i w b shaped has_field found in cc) in
            subst (λ x. paired later x j ≡ true) at (same_object j u c is plain e as_young))
        | inr other ↦ (let differs : a ≢ x = (λ same. (let t : (a == x) ≡ true = eq-eqb a x same in let no : true ≡ false = sym t ∙ other in cc)) in
            keeps x j (complete.each x j u c (sym (field_beside (record { size = size; words = front }) a i w x shaped has_field differs) ∙ there) plain e as_young))
      ]
        where
          as_young : is_young (length front) u ≡ true
          as_young = subst (λ n. is_young n u ≡ true) (length-set front (field_place a i) w) young
