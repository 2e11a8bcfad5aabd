-- Each object of a space keeps its start, its header and its link where a replica is placed behind it or a field is written.
use Rattle.std.proofs.lemmas.Grind.{common_steps}
use Rattle.std.proofs.lemmas.Bool.{cases_Bool, eqb-true, eqb-false, ne_eqb}
use Rattle.std.proofs.Common.{◌≡◌, ℕ, ◌==◌, cond, true, List, [], ◌∷◌, ◌++◌, Some, None, is_some, ap, sym, ◌∙◌, subst, ⊎_elim, arith}
use Rattle.std.specs.Prelude.{IsSome}
use Rattle.gc_words.specs.Image.{Block, blocks, block_in, block_at, header_of, header_at, is_start, field_at}
use Rattle.gc_words.specs.Layout.{field_place, link_place}
use Rattle.gc_words.specs.Space.{SpaceWords, IsSpace, end_of, with_block, with_word}
use Rattle.gc_words.proofs.Public.{CanPlaceBlock, block_placed, field_beside, field_block, link_beside_field, link_placed_beside, link_written, link_written_beside, none_at_end, some_of, block_there}
use Rattle.gc_copy.specs.Internal.Words.{KeepsStarts}

-- what starts goes on starting
pub still_start : (a b : SpaceWords) (p : ℕ) → KeepsStarts a b → is_start a.words p ≡ true → is_start b.words p ≡ true
still_start a b p kept start = grind (arith, common_steps, some_of, kept.headers p start)

pub starts_on : (a b c : SpaceWords) → KeepsStarts a b → KeepsStarts b c → KeepsStarts a c
starts_on a b c first second = record {
  headers = λ p start. second.headers p (still_start a b p first start) ∙ first.headers p start;
  links = λ p start. second.links p (still_start a b p first start) ∙ first.links p start;
}

beside_push : (bs : List (ℕ × Block)) (a x : ℕ) (b : Block) → (a ≡ x → ⊥) → block_in (bs ++ (a, b) ∷ []) x ≡ block_in bs x
beside_push [] a x b other = ap (λ t. cond t (Some b) None) (ne_eqb a x other)
beside_push (entry ∷ bs) a x b other = ap (cond (entry.0 == x) (Some entry.1)) (beside_push bs a x b other)

-- a replica was placed at the end, and its link was written
pub starts_placed : (s : SpaceWords) (b : Block) (name : ℕ) → CanPlaceBlock s b → KeepsStarts s (with_word (with_block s b) (link_place (end_of s)) name)
starts_placed s b name can = record {
  headers = λ p start. ap (λ bs. header_of (block_in bs p)) (linked.1 ∙ one.1) ∙ ap header_of (beside_push (blocks s.words) (end_of s) p b (apart p start));
  links = λ p start. link_written_beside (with_block s b) (end_of s) name p (apart p start) ∙ link_placed_beside s b p can.shaped start;
}
  where
    one : IsSpace (with_block s b) × (blocks (with_block s b).words ≡ blocks s.words ++ (end_of s, b) ∷ [])
    one = block_placed s b can

    linked : IsSpace (with_word (with_block s b) (link_place (end_of s)) name) × (blocks (with_word (with_block s b) (link_place (end_of s)) name).words ≡ blocks (with_block s b).words)
    linked = link_written (with_block s b) (end_of s) name one.0 (ap is_some (block_there s b can))

    apart : (p : ℕ) → is_start s.words p ≡ true → end_of s ≡ p → ⊥
    apart p start same = grind (arith, common_steps, is_some, none_at_end, can.shaped)

-- a field was written
pub starts_written : (s : SpaceWords) (a i w : ℕ) → IsSpace s → IsSome (field_at s.words a i) → KeepsStarts s (with_word s (field_place a i) w)
starts_written s a i w is some = record {
  headers = λ p start. ⊎_elim
      (λ y. (let b = some_of (block_at s.words p) start in
      let at : block_at s.words a ≡ Some b.0 = subst (λ n. block_at s.words n ≡ Some b.0) (sym (eqb-true a p y)) b.1 in
      subst (λ n. header_at (with_word s (field_place a i) w).words n ≡ header_at s.words n) (eqb-true a p y) (ap header_of (field_block s a i w b.0 is some at) ∙ sym (ap header_of at))))
      (λ n. ap header_of (field_beside s a i w p is some (eqb-false a p n)))
      (cases_Bool (a == p));
  links = λ p start. link_beside_field s a i w p is some start;
}
