-- The row of marks that says where objects start follows each step of the mutator.
use Rattle.std.proofs.Common.{◌≡◌, ◌≢◌, ⊎_elim, ℕ, ◌/◌, ◌%◌, ◌==◌, ◌≤◌, true, false, List, [], ◌∷◌, length, replicate, is_some, ap, sym, ◌∙◌, arith}
use Rattle.std.specs.Prelude.{IsSome}
use Rattle.std.specs.Int.{bit_at}
use Rattle.std.proofs.lemmas.Bool.{cases_Bool, cases_eq}
use Rattle.std.proofs.lemmas.Nat.Bits.{bit_at-zero}
use Rattle.gc_words.specs.Image.{field_at, is_start}
use Rattle.gc_words.specs.Marks.{is_marked}
use Rattle.gc_words.specs.Space.{SpaceWords, IsSpace, CanPlace, end_of, with_field_at, with_link, with_object}
use Rattle.gc_words.specs.declared.header.Header.{Header}
use Rattle.gc_words.proofs.Public.{field_beside, field_block, field_read, header_read, placed_beside, placed_block}
use Rattle.gc_concurrent.specs.Internal.Starts.{TellsStarts}
use Rattle.gc_concurrent.proofs.Starting.{link_start}
use Rattle.gc_concurrent.proofs.Writing.{zero_at}

-- a field is written
field_start : (s : SpaceWords) (a i w : ℕ) → IsSpace s → IsSome (field_at s.words a i) → (k : ℕ) → is_start (with_field_at s a i w).words k ≡ is_start s.words k
field_start s a i w space has k = ⊎_elim
    (λ same. let f = field_read s.words a i space.walked has in
    ap (is_start (with_field_at s a i w).words) (sym same) ∙ ap is_some (field_block s a i w f.block space has f.found) ∙ sym (ap (is_start s.words) (sym same) ∙ ap is_some f.found))
    (λ other. ap is_some (field_beside s a i w k space has other))
    (cases_eq a k)

pub marks_written : (row : List ℕ) (s : SpaceWords) (a i w : ℕ) → IsSpace s → IsSome (field_at s.words a i) → TellsStarts row s.words → TellsStarts row (with_field_at s a i w).words
marks_written row s a i w space has m = λ k. m k ∙ sym (field_start s a i w space has k)

-- a link is written
pub marks_linked : (row : List ℕ) (s : SpaceWords) (a w : ℕ) → IsSpace s → is_start s.words a ≡ true → TellsStarts row s.words → TellsStarts row (with_link s a w).words
marks_linked row s a w space start m = λ k. m k ∙ sym (link_start s a w space start k)

-- an object is made at the end, and marked
pub marks_made : (row row' : List ℕ) (s : SpaceWords) (h : Header) → CanPlace s h → is_marked row' (end_of s) ≡ true → ((other : ℕ) → other ≢ end_of s → is_marked row' other ≡ is_marked row other)
    → TellsStarts row s.words → TellsStarts row' (with_object s h).words
marks_made row row' s h can here others m = λ k. ⊎_elim
    (λ same. ap (is_marked row') (sym same) ∙ here ∙ sym (ap (is_start (with_object s h).words) (sym same) ∙ ap is_some (placed_block s h can)))
    (λ other. others k (λ e. other (sym e)) ∙ m k ∙ sym (ap is_some (placed_beside s h k can other)))
    (cases_eq (end_of s) k)

-- zeros mark nothing
blank : (n k : ℕ) → is_marked (replicate n 0) k ≡ false
unfolding is_marked
blank n k = ap (λ word. bit_at word (k % 64) == 1) (zero_at n (k / 64)) ∙ ap (λ b. b == 1) (bit_at-zero (k % 64))

pub marks_none : (n : ℕ) → TellsStarts (replicate n 0) (0 ∷ [])
marks_none n = λ k. blank n k

-- no object starts behind the words
pub none_behind : (s : SpaceWords) (k : ℕ) → IsSpace s → length s.words ≤ k → is_start s.words k ≡ false
none_behind s k space far = ⊎_elim
    (λ (start : is_start s.words k ≡ true). absurd (let r = header_read s.words k space.walked start in let w = r.within in omega arith))
    (λ none. none)
    (cases_Bool (is_start s.words k))
