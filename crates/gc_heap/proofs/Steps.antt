-- Commands on a heap of words, as steps of the roomy machine.
use Rattle.std.proofs.lemmas.Grind.{common_steps}
use Rattle.std.proofs.Common.{◌≡◌, ℕ, ◌+◌, ◌-◌, Bool, cond, sym, ◌∙◌, ap, arith}
use Rattle.std.specs.Prelude.{slice_set}
use Rattle.std.proofs.lemmas.Bool.{le-ltb}
use Rattle.gc_graph.specs.Graph.{Value, Ref, set_root, add_object, new_object}
use Rattle.gc_graph.specs.Machine.{Roomy, step, roomy_step, MakesObject}
use Rattle.gc_graph.proofs.Public.{make_object, in_place, with_free}
use Rattle.gc_graph.specs.declared.command.Op.{Op}
use Rattle.gc_graph.specs.declared.reply.Reply.{Reply}
use Rattle.gc_graph.specs.declared.reply.Reply.TheVariants.{Full, Made, Done}
use Rattle.gc_words.specs.Word.{value_of, word_of}
use Rattle.gc_words.specs.Space.{CanPlace, end_of, free_in, with_object}
use Rattle.gc_words.specs.declared.header.Header.{Header}
use Rattle.gc_words.proofs.Public.{graph_root, graph_placed, value_read_back, free_placed}
use Rattle.gc_heap.proofs.Views.{meaning}
use Rattle.gc_heap.specs.Heap.{HeapWords, IsHeap, graph_in, roomy_in}
use Rattle.gc_heap.specs.Commands.{Performs}
use Rattle.gc_heap.proofs.Links.{links_kept}

-- a root takes a word
pub took_root : (h new : HeapWords) (m : ℕ) (op : Op) (p w : ℕ) (v : Value) (reply : Reply) → (MakesObject op → ⊥)
    → step (graph_in h) m op (end_of h.space) ≡ (Done, set_root (graph_in h) p v) → value_of w ≡ v → reply ≡ Done → new ≡ record h { roots = slice_set h.roots p w }
    → Performs h m op reply new
took_root h new m op p w v reply makes_none steps value done after = grind (arith, common_steps, graph_root, in_place, with_free, links_kept)

-- a command that takes the same step as another
pub same_step : (old new : HeapWords) (m : ℕ) (op by : Op) (reply : Reply) → ((s : Roomy) (name : ℕ) → roomy_step s m by name ≡ roomy_step s m op name) → Performs old m by reply new → Performs old m op reply new
same_step old new m op by reply same p = record { step = sym (same (roomy_in old) (end_of old.space)) ∙ p.step; links = p.links; size = p.size; mutators = p.mutators }

-- a new object
abbrev pub with_new : HeapWords → ℕ → Header → HeapWords
with_new h p header = record h { space = with_object h.space header; roots = slice_set h.roots p (word_of (Ref (end_of h.space))) }

new_graph : (h : HeapWords) (p : ℕ) (header : Header) → IsHeap h → CanPlace h.space header
    → graph_in (with_new h p header) ≡ set_root (add_object (graph_in h) (end_of h.space) (new_object header.raw header.kind header.len)) p (Ref (end_of h.space))
new_graph h p header heap can = grind (arith, common_steps, meaning, value_read_back, graph_root, graph_placed)

-- the heap with the object is what the roomy machine leaves
abbrev pub MakesAtEnd : HeapWords → ℕ → Bool → ℕ → ℕ → Reply → HeapWords → Type 0
MakesAtEnd h p raw kind len reply new = (reply, roomy_in new) ≡ make_object (roomy_in h) p raw kind len (end_of h.space)

pub made : (h : HeapWords) (p : ℕ) (raw : Bool) (kind len : ℕ) → IsHeap h → CanPlace h.space (record { raw = raw; kind = kind; len = len }) → MakesAtEnd h p raw kind len Made (with_new h p (record { raw = raw; kind = kind; len = len }))
made h p raw kind len heap can =
    (λ i. (Made, record { graph = new_graph h p (record { raw = raw; kind = kind; len = len }) heap can i; free = free_placed h.space (record { raw = raw; kind = kind; len = len }) i }))
    ∙ sym (ap (λ b. cond b (Full, roomy_in h) (Made, record { graph = set_root (add_object (graph_in h) (end_of h.space) (new_object raw kind len)) p (Ref (end_of h.space)); free = free_in h.space - (len + 2) })) (le-ltb _ _ can.room))
