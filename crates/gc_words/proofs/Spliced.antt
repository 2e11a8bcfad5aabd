-- Fields that are written in a row: all at once is one by one, and the space stays shaped.
use Rattle.std.proofs.lemmas.Grind.{common_steps}
use Rattle.std.proofs.Common.{◌≡◌, ℕ, suc, ◌+◌, ◌<◌, ◌≤◌, List, [], ◌∷◌, ◌++◌, length, take, drop, refl, sym, ◌∙◌, ap, subst, arith, length-set, length-take, length-drop, append_assoc, append-nil}
use Rattle.std.specs.Prelude.{slice_set, IsSome}
use Rattle.std.proofs.lemmas.List.{take-append-drop, take_more_set, drop-set-lt}
use Rattle.std.proofs.lemmas.Option.{slice_get-get_or}
use Rattle.gc_words.specs.Image.{Block, field_in, field_at}
use Rattle.gc_words.specs.Layout.{field_place}
use Rattle.gc_words.specs.Space.{SpaceWords, IsSpace, HasFields, with_field_at, with_fields}
use Rattle.gc_words.specs.Internal.Walking.{StandsIn}
use Rattle.gc_words.proofs.Starts.{stands_in}
use Rattle.gc_words.proofs.Blocks.{field_block}
use Rattle.gc_words.proofs.Writes.{field_written}

-- ---- one by one

-- a field of the row is there
there_at : (s : SpaceWords) (at first count i : ℕ) → HasFields s at first count → i < first + count → IsSome (field_at s.words at i)
there_at s at first count i has less =
    subst (λ o. IsSome (field_in o i)) (sym has.found) (subst IsSome (sym (slice_get-get_or has.block.fields i 0 (omega (arith, has.long, less)))) refl)

-- the object still has its fields when one is written
has_still : (s : SpaceWords) (at first count i w : ℕ) → IsSpace s → HasFields s at first count → i < first + count → HasFields (with_field_at s at i w) at first count
has_still s at first count i w space has less = record {
  block = record has.block { fields = slice_set has.block.fields i w };
  found = field_block s at i w has.block space (there_at s at first count i has less) has.found;
  long = subst (λ n. first + count ≤ n) (sym (length-set has.block.fields i w)) has.long;
}

-- the fields behind the first one
has_rest : (s : SpaceWords) (at first count : ℕ) → HasFields s at first (suc count) → HasFields s at (suc first) count
has_rest s at first count has = record { block = has.block; found = has.found; long = omega (arith, has.long) }

fields_shaped : (words : List ℕ) (s : SpaceWords) (at first : ℕ) → IsSpace s → HasFields s at first (length words) → IsSpace (with_fields s at first words)
fields_shaped [] s at first space has = space
fields_shaped (w ∷ words) s at first space has =
    let less : first < first + suc (length words) = omega arith in
    fields_shaped words (with_field_at s at first w) at (suc first)
    (field_written s at first w space (there_at s at first (suc (length words)) first has less)).0
    (has_rest _ at first (length words) (has_still s at first (suc (length words)) first w space has less))

-- ---- all at once

-- the row with these words from a place on, one by one
abbrev set_row : List ℕ → ℕ → List ℕ → List ℕ
set_row row p [] = row
set_row row p (w ∷ words) = set_row (slice_set row p w) (suc p) words

row_is : (words row : List ℕ) (p : ℕ) → p + length words ≤ length row → take p row ++ words ++ drop (p + length words) row ≡ set_row row p words
row_is [] row p fits = ap (λ n. take p row ++ [] ++ drop n row) (let e : p + 0 ≡ p = omega arith in e) ∙ (let e : take p row ++ [] ≡ take p row = append-nil (take p row) in ap (λ x. x ++ drop p row) e) ∙ take-append-drop p row
row_is (w ∷ words) row p fits =
    let behind : drop (suc p + length words) (slice_set row p w) ≡ drop (p + length (w ∷ words)) row =
    drop-set-lt (suc p + length words) row p w (omega arith) ∙ ap (λ n. drop n row) (let e : suc p + length words ≡ p + suc (length words) = omega arith in e) in
    ap (λ x. x ++ drop (p + length (w ∷ words)) row) (sym (append_assoc (take p row) (w ∷ []) words))
    ∙ sym (λ i. (ap (λ n. take n (slice_set row p w)) (let e : suc p ≡ p + 1 = omega arith in e) ∙ take_more_set row p w (omega arith)) i ++ words ++ behind i)
    ∙ row_is words (slice_set row p w) (suc p) (subst (λ n. suc p + length words ≤ n) (sym (length-set row p w)) (omega arith))

fields_are : (words : List ℕ) (s : SpaceWords) (at first : ℕ) → record s { words = set_row s.words (field_place at first) words } ≡ with_fields s at first words
fields_are [] s at first = refl
fields_are (w ∷ words) s at first = grind (arith, common_steps, fields_are words (with_field_at s at first w) at (suc first))

-- the fields lie within the words
fields_within : (s : SpaceWords) (at first count : ℕ) → IsSpace s → HasFields s at first count → field_place at first + count ≤ length s.words
fields_within s at first count space has =
    let b : Block = has.block in
    let stands : StandsIn s.words at b = stands_in s.words at b space.walked has.found in
    let fits : at + (b.header.len + 2) ≤ length s.words = stands.fits in
    let all : length b.fields ≡ b.header.len = ap length stands.fields ∙ omega (arith, length-take b.header.len (drop (at + 2) s.words), length-drop (at + 2) s.words) in
    omega (arith, has.long)

-- t is what a caller sees of the fields s
pub fields_seen : (s t : SpaceWords) (at first count p : ℕ) → s ≡ t → IsSpace s → p ≡ field_place at first → HasFields t at first count → p + count ≤ length s.words
fields_seen s t at first count p same space place has = subst (λ p. p + count ≤ length s.words) (sym place) (fields_within s at first count space (subst (λ s. HasFields s at first count) (sym same) has))

pub written_at_once : (s t : SpaceWords) (at first p : ℕ) (words row : List ℕ) → s ≡ t → IsSpace s → p ≡ field_place at first → HasFields t at first (length words)
    → row ≡ take p s.words ++ words ++ drop (p + length words) s.words
    → IsSpace (record s { words = row }) × (record s { words = row } ≡ with_fields t at first words)
written_at_once s t at first p words row same space place has is =
    let own : HasFields s at first (length words) = subst (λ s. HasFields s at first (length words)) (sym same) has in
    let at_place : row ≡ set_row s.words (field_place at first) words =
    is ∙ ap (λ p. take p s.words ++ words ++ drop (p + length words) s.words) place ∙ row_is words s.words (field_place at first) (fields_within s at first (length words) space own) in
    let all : record s { words = row } ≡ with_fields s at first words = ap (λ row. record s { words = row }) at_place ∙ fields_are words s at first in
    (subst IsSpace (sym all) (fields_shaped words s at first space own), all ∙ ap (λ s. with_fields s at first words) same)
