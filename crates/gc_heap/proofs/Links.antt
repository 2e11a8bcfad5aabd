-- What a command writes keeps the links of all objects that were there.
use Rattle.std.proofs.lemmas.Grind.{common_steps}
use Rattle.std.proofs.Common.{◌≡◌, ℕ, List, true, false, ◌==◌, is_some, sym, ◌∙◌, ap, subst, inl, inr, arith}
use Rattle.std.specs.Prelude.{IsSome}
use Rattle.std.proofs.lemmas.Bool.{eqb-true, eqb-false, cases_Bool}
use Rattle.gc_words.specs.Image.{fresh_block, block_at, is_start, field_at}
use Rattle.gc_words.specs.Spelling.{link_at}
use Rattle.gc_words.specs.Layout.{field_place}
use Rattle.gc_words.specs.Space.{SpaceWords, IsSpace, CanPlace, end_of, with_object, with_word}
use Rattle.gc_words.specs.declared.header.Header.{Header}
use Rattle.gc_words.proofs.Public.{placed_beside, field_beside, link_placed, link_placed_beside, link_beside_field}
use Rattle.gc_heap.specs.Heap.{KeepsLinks}

-- if the objects are the same, so are the starts
differs : (words others : List ℕ) (x : ℕ) → block_at others x ≡ block_at words x → is_start words x ≡ false → is_start others x ≡ true → ⊥
differs words others x same old new = (let no : true ≡ false = sym new ∙ ap is_some same ∙ old in cc)

-- no word changes
pub links_kept : (words : List ℕ) → KeepsLinks words words
links_kept words = grind (arith, common_steps)

pub links_placed : (s : SpaceWords) (h : Header) → CanPlace s h → KeepsLinks s.words (with_object s h).words
links_placed s h can = record {
  stays = λ start there. link_placed_beside s (fresh_block h) start can.shaped there;
  fresh = λ start old new. elim (cases_Bool (end_of s == start)) [
    | inl last ↦ subst (λ x. link_at (with_object s h).words x ≡ 0) (eqb-true (end_of s) start last) (link_placed s (fresh_block h))
    | inr other ↦ absurd (differs s.words (with_object s h).words start (placed_beside s h start can (eqb-false (end_of s) start other)) old new)
  ];
}

pub links_written : (s : SpaceWords) (a i w : ℕ) → IsSpace s → IsSome (field_at s.words a i) → KeepsLinks s.words (with_word s (field_place a i) w).words
links_written s a i w space some = grind (arith, common_steps, link_beside_field, cases_Bool, eqb-true, differs, field_beside, eqb-false)
