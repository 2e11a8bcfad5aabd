-- An object has the fields that its header says.
use Rattle.std.proofs.lemmas.Grind.{common_steps}
use Rattle.std.proofs.Common.{◌≡◌, ℕ, ◌<◌, ◌≤◌, List, length, Some, None, refl, sym, ◌∙◌, ap, subst, arith}
use Rattle.std.specs.Prelude.{IsOk, IsSome}
use Rattle.std.proofs.lemmas.Option.{slice_get-get_or, slice_get_past}
use Rattle.gc_words.specs.Image.{Block, walk_words, block_at, header_at, field_in, field_at}
use Rattle.gc_words.specs.declared.header.Header.{Header}
use Rattle.gc_words.proofs.Starts.{stands_in}

pub block_of_header : (words : List ℕ) (a : ℕ) (h : Header) → header_at words a ≡ Some h → (b : Block) × (block_at words a ≡ Some b) × (b.header ≡ h)
block_of_header words a h e = grind (arith, common_steps)

counted : (words : List ℕ) (a : ℕ) (h : Header) (b : Block) → IsOk (walk_words words) → block_at words a ≡ Some b → b.header ≡ h → length b.fields ≡ h.len
counted words a h b ok found same = (stands_in words a b ok found).whole.fields ∙ ap (λ (h : Header). h.len) same

pub field_within : (words : List ℕ) (a i : ℕ) (h : Header) → IsOk (walk_words words) → header_at words a ≡ Some h → i < h.len → IsSome (field_at words a i)
field_within words a i h ok e less =
    let b : (b : Block) × (block_at words a ≡ Some b) × (b.header ≡ h) = block_of_header words a h e in
    let count : length b.0.fields ≡ h.len = counted words a h b.0 ok b.1 b.2 in
    subst IsSome (sym (ap (λ o. field_in o i) b.1 ∙ slice_get-get_or b.0.fields i 0 (omega arith))) refl

pub field_past : (words : List ℕ) (a i : ℕ) (h : Header) → IsOk (walk_words words) → header_at words a ≡ Some h → h.len ≤ i → field_at words a i ≡ None
field_past words a i h ok e past = grind (arith, common_steps, block_of_header, counted, slice_get_past)
