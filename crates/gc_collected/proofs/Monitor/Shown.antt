-- The words of objects that lie back to back: headers and links at their places.
-- For the theorem that what the monitor accepts is certified.
use Rattle.std.proofs.Common.{◌≡◌, ℕ, ◌+◌, ◌<◌, ◌≤◌, List, map, length, take, drop, Some, Ok, is_ok, ap, sym, ◌∙◌, arith, []}
use Rattle.std.specs.Prelude.{slice_index}
use Rattle.std.specs.Result.{result_unwrap_or}
use Rattle.gc_graph.specs.Graph.{Object}
use Rattle.gc_words.specs.Word.{header_word, read_header}
use Rattle.gc_words.specs.Image.{walk_words, block_in, block_at}
use Rattle.gc_words.specs.Layout.{fields_place, link_place}
use Rattle.gc_words.specs.Spelling.{spelled}
use Rattle.gc_words.proofs.Public.{walk_spelled, link_spelled, stands_in, written_back}
use Rattle.gc_model.specs.Linked.{object_header, field_word, object_block, block_entry}
use Rattle.gc_model.specs.Members.{In}
use Rattle.gc_model.specs.Belonging.{Laid}
use Rattle.gc_model.proofs.Public.{lookup_laid, laid_out, words_laid, block_found}

-- what the words of a space with these objects are at the object's place
pub record Shows (words : List ℕ) (link : ℕ) (a : ℕ) (o : Object) : Type 0 where
  pub header : read_header (slice_index words a) ≡ Some (object_header o)
  pub link_is : slice_index words (link_place a) ≡ link
  pub word : slice_index words a ≡ header_word (object_header o)
  pub fits : a + (length o.fields + 2) ≤ length words
  pub fields : take (length o.fields) (drop (fields_place a) words) ≡ map (field_word (object_header o)) o.fields

abbrev pub AreSized : List (ℕ × Object) → Type 0
AreSized objects = (e : ℕ × Object) → In e objects → (e.1.kind < 256) × (length e.1.fields < 65536)

pub shown_length : (links : ℕ → ℕ) (objects : List (ℕ × Object)) (end : ℕ) → Laid 1 objects end → length (spelled links (map block_entry objects)) ≡ end
shown_length links objects end h = let e = words_laid links 1 objects end h in omega (arith, e)

pub shown_at : (links : ℕ → ℕ) (objects : List (ℕ × Object)) (end : ℕ) (a : ℕ) (o : Object) → Laid 1 objects end → AreSized objects → In (a, o) objects → Shows (spelled links (map block_entry objects)) (links a) a o
shown_at links objects end a o h sized there =
    let laid = laid_out 1 objects end h sized in
    let walked : walk_words (spelled links (map block_entry objects)) ≡ Ok (map block_entry objects) = walk_spelled (map block_entry objects) links 1 laid in
    let found : block_in (map block_entry objects) a ≡ Some (object_block o) = block_found objects a o (lookup_laid 1 objects end a o h there) in
    let at : block_at (spelled links (map block_entry objects)) a ≡ Some (object_block o) = ap (λ bs. block_in (result_unwrap_or bs []) a) walked ∙ found in
    let s = stands_in (spelled links (map block_entry objects)) a (object_block o) (ap is_ok walked) at in
    record {
      header = s.header;
      link_is = link_spelled (map block_entry objects) links a (object_block o) laid found;
      word = sym (written_back (slice_index (spelled links (map block_entry objects)) a) (object_header o) s.header).1;
      fits = s.fits;
      fields = sym s.fields;
    }
