-- A reference shows an object, whether that is raw or not.
use Rattle.std.proofs.lemmas.Grind.{common_steps}
use Rattle.std.proofs.Common.{◌≡◌, ℕ, Bool, cond, Some, sym, ◌∙◌, ap, subst, arith}
use Rattle.gc_graph.specs.Graph.{Ref}
use Rattle.gc_graph.specs.Machine.{view_of}
use Rattle.gc_graph.specs.declared.reply.Reply.TheVariants.{Saw}
use Rattle.gc_graph.specs.declared.reply.View.TheVariants.{Obj, RawObj}
use Rattle.gc_words.specs.Word.{value_of}
use Rattle.gc_words.specs.Image.{Block, block_at, header_of, objects_of}
use Rattle.gc_words.specs.Closed.{RefersToStart}
use Rattle.gc_words.specs.Views.{graph_value}
use Rattle.gc_words.proofs.Public.{some_of}
use Rattle.gc_heap.specs.Commands.{fetched_of}
use Rattle.gc_heap.specs.declared.taken.Fetched.TheVariants.{Object}
use Rattle.gc_heap.proofs.Views.{shown}
use Rattle.gc_heap.proofs.reading.fetched.Goals as goal

raw_or_not : (raw : Bool) (kind len : ℕ) → fetched_of (Saw (cond raw (RawObj kind len) (Obj kind len))) ≡ Object
raw_or_not raw kind len = grind (arith, common_steps)

pub returns-in-Ref : goal.returns-in-Ref
returns-in-Ref c =
    let words = c.args.space.now.words in
    let a : ℕ = c.in-Ref.field-0.0 in
    let value : value_of c.args.word ≡ Ref a = sym c.value_in.ensures.value ∙ ap graph_value c.in-Ref.is in
    let b : (b : Block) × (block_at words a ≡ Some b) = some_of (block_at words a) (subst (RefersToStart words) value c.requires.word.start) in
    sym (ap (λ v. fetched_of (Saw (view_of (objects_of words) v))) value
    ∙ ap (λ view. fetched_of (Saw view)) (shown c.args.space.now a b.0.header c.requires.shaped (ap header_of b.1))
    ∙ raw_or_not b.0.header.raw b.0.header.kind b.0.header.len)
