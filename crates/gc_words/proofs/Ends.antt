-- Writes leave the end of the objects where it is, and a new object moves it by its words.
use Rattle.std.proofs.lemmas.Grind.{common_steps}
use Rattle.std.proofs.Common.{◌≡◌, ℕ, ◌+◌, ◌-◌, List, length, Some, ◌∙◌, arith, length-set}
use Rattle.std.specs.Prelude.{IsOk}
use Rattle.std.proofs.lemmas.List.{length-map, length-replicate}
use Rattle.gc_words.specs.Word.{field_value}
use Rattle.gc_words.specs.Image.{Block, walk_words, block_at, object_of_block}
use Rattle.gc_words.specs.Space.{SpaceWords, IsSpace, end_of, free_in, with_object, with_word, without_links}
use Rattle.gc_words.specs.declared.header.Header.{Header}
use Rattle.gc_words.proofs.Starts.{stands_in}
use Rattle.gc_words.proofs.Spelled.{length_relinked}

end_placed : (s : SpaceWords) (h : Header) → end_of (with_object s h) ≡ end_of s + (h.len + 2)
end_placed s h = grind (arith, common_steps, length-replicate)

pub free_placed : (s : SpaceWords) (h : Header) → free_in (with_object s h) ≡ free_in s - (h.len + 2)
free_placed s h = let e : end_of (with_object s h) ≡ end_of s + (h.len + 2) = end_placed s h in omega arith

pub end_written : (s : SpaceWords) (place word : ℕ) → end_of (with_word s place word) ≡ end_of s
end_written s place word = length-set s.words place word

pub end_cleared : (s : SpaceWords) → IsSpace s → end_of (without_links s) ≡ end_of s
end_cleared s space = grind (arith, common_steps, length_relinked)

-- an object of the graph has as many fields as its header says
pub fields_counted : (words : List ℕ) (a : ℕ) (b : Block) → IsOk (walk_words words) → block_at words a ≡ Some b → length (object_of_block b).fields ≡ b.header.len
fields_counted words a b ok found = length-map b.fields (field_value b.header) ∙ (stands_in words a b ok found).whole.fields
