-- What the code reads of a word is what a mutator sees in the graph.
use Rattle.std.proofs.lemmas.Grind.{common_steps}
use Rattle.std.proofs.Common.{◌≡◌, ℕ, cond, Some, arith}
use Rattle.gc_graph.specs.Graph.{Value, Ref}
use Rattle.gc_graph.specs.Machine.{view_of}
use Rattle.gc_graph.specs.declared.reply.View.TheVariants.{Obj, RawObj}
use Rattle.gc_words.specs.Word.{read_value, value_of}
use Rattle.gc_words.specs.Image.{header_at, objects_of}
use Rattle.gc_words.specs.Space.{SpaceWords, IsSpace}
use Rattle.gc_words.specs.declared.header.Header.{Header}
use Rattle.gc_words.proofs.Public.{fields_counted, block_of_header, object_found}

pub shown : (s : SpaceWords) (a : ℕ) (h : Header) → IsSpace s → header_at s.words a ≡ Some h → view_of (objects_of s.words) (Ref a) ≡ cond h.raw (RawObj h.kind h.len) (Obj h.kind h.len)
shown s a h space e = grind (arith, common_steps, block_of_header, fields_counted, object_found)

-- a word that is read as a value means it
pub meaning : (w : ℕ) (v : Value) → read_value w ≡ Some v → value_of w ≡ v
meaning w v e = grind (arith, common_steps)
