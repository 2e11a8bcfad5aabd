-- A view shows of an object what its header says.
use Rattle.std.proofs.Common.{◌≡◌, ℕ, cond, Some, ap, ◌∙◌, sym}
use Rattle.gc_graph.specs.Graph.{Value, Ref}
use Rattle.gc_graph.specs.Machine.{view_of}
use Rattle.gc_graph.specs.declared.reply.View.TheVariants.{Obj, RawObj}
use Rattle.gc_words.specs.Word.{value_of}
use Rattle.gc_words.specs.Image.{header_at, objects_of}
use Rattle.gc_words.specs.Space.{SpaceWords, IsSpace}
use Rattle.gc_words.specs.declared.header.Header.{Header}
use Rattle.gc_words.specs.Views.{graph_value}
use Rattle.gc_heap.proofs.Public.{shown}
use Rattle.gc_concurrent.proofs.commands.Commander.view.Goals as goal

-- an object is seen by its header
seen : (s : SpaceWords) (w a : ℕ) (v : Value) (h : Header) → IsSpace s → v ≡ value_of w → v ≡ Ref a → header_at s.words a ≡ Some h → cond h.raw (RawObj h.kind h.len) (Obj h.kind h.len) ≡ view_of (objects_of s.words) (value_of w)
seen s w a v h space read is header = sym (ap (view_of (objects_of s.words)) (sym read ∙ is) ∙ shown s a h space header)

pub returns-then-is_raw-clause-value : goal.returns-then-is_raw-clause-value
returns-then-is_raw-clause-value c =
    (λ i. cond ((sym c.if-is_raw.true ∙ c.is_raw.ensures) i) (RawObj (c.kind-kind.ensures i) (c.len-len.ensures i)) (Obj (c.kind-kind.ensures i) (c.len-len.ensures i)))
    ∙ seen c.args.self.now.mutator.seat.me.0.mine.space c.args.word c.in-Ref.at.0 (graph_value c.value_in.result) c.header-header.result c.args.self.now.sound.space c.value_in.ensures.value (ap graph_value c.in-Ref.is) c.header-header.ensures.value

pub returns-else-is_raw-clause-value : goal.returns-else-is_raw-clause-value
returns-else-is_raw-clause-value c =
    (λ i. cond ((sym c.if-is_raw.false ∙ c.is_raw.ensures) i) (RawObj (c.kind-kind.ensures i) (c.len-len.ensures i)) (Obj (c.kind-kind.ensures i) (c.len-len.ensures i)))
    ∙ seen c.args.self.now.mutator.seat.me.0.mine.space c.args.word c.in-Ref.at.0 (graph_value c.value_in.result) c.header-header.result c.args.self.now.sound.space c.value_in.ensures.value (ap graph_value c.in-Ref.is) c.header-header.ensures.value
