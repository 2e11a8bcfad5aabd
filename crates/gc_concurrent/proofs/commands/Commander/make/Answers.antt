-- The object at the end, with a reference to it in the root, is what the machine makes.
use Rattle.std.proofs.Common.{◌≡◌, ◌*◌, sym, ap, ◌∙◌, arith, subst}
use Rattle.std.specs.Prelude.{slice_set}
use Rattle.gc_words.specs.Space.{SpaceWords, CanPlace, with_object, end_of}
use Rattle.gc_words.specs.declared.header.Header.{Header}
use Rattle.gc_graph.specs.Graph.{Ref}
use Rattle.gc_heap.specs.Heap.{HeapWords, IsHeap, graph_in, roomy_in}
use Rattle.gc_heap.proofs.Public.{made_heap, with_new, made, meaning}
use Rattle.gc_model.specs.Belonging.{RefersTo}
use Rattle.gc_model.specs.Carried.{LeadsOnlyTo}
use Rattle.gc_concurrent.specs.Ends.{Beginning, one_heap}
use Rattle.gc_concurrent.specs.Unreachable.{MayBeCopied}
use Rattle.gc_concurrent.proofs.Keeping.{behind_kept, made_leads}
use Rattle.gc_graph.proofs.Public.{make_object}
use Rattle.gc_graph.specs.Machine.{Roomy}
use Rattle.gc_graph.specs.declared.reply.Reply.{Reply}
use Rattle.gc_graph.specs.declared.reply.Reply.TheVariants.{Made}
use Rattle.gc_concurrent.specs.Heaps.{heap_of}
use Rattle.gc_concurrent.proofs.commands.Commander.make.Goals as goal
use Rattle.gc_concurrent.proofs.commands.Commander.make.Goals.{After-encode}

abbrev header : After-encode → Header
header c = record { raw = c.args.raw; kind = c.args.kind; len = c.args.len }

abbrev before : After-encode → HeapWords
before c = heap_of c.args.self.now.mutator.seat.me.0.mine c.args.self.now.roots.items

abbrev left : After-encode → HeapWords
left c = heap_of c.place-at.new.self.seat.me.0.mine (slice_set c.args.self.now.roots.items c.args.place c.encode.result)

can : (c : After-encode) → CanPlace c.args.self.now.mutator.seat.me.0.mine.space (header c)
can c = record { shaped = c.args.self.now.sound.space; header = record { kind = omega arith; len = omega arith }; room = let e = c.args.self.now.ended in let z = c.args.self.now.mutator.sized in omega arith }

after : (c : After-encode) → with_new (before c) c.args.place (header c) ≡ left c
after c =
    let space = c.place-at.ensures.words ∙ ap (with_object c.args.self.now.mutator.seat.me.0.mine.space) c.header_of.ensures in
    let word = c.encode.ensures.word ∙ ap (λ n. 2 * n) c.place-at.ensures.at in
    λ i. record { space = sym space i; roots = slice_set c.args.self.now.roots.items c.args.place (sym word i); mutators = 1 }

pub invariant_of-self-clause-sound : goal.invariant_of-self-clause-sound
invariant_of-self-clause-sound c = let e = (goal.at.invariant_of-self-clause-sound c).After-encode in subst IsHeap (after e) (made_heap (before e) c.args.place (header e) c.args.self.now.sound (can e))

pub returns-clause-step : goal.returns-clause-step
returns-clause-step c = let e = (goal.at.returns-clause-step c).After-encode in
    subst (λ (h : HeapWords). ◌≡◌ {A = Reply × Roomy} (Made, roomy_in h) (make_object (roomy_in (before e)) c.args.place c.args.raw c.args.kind c.args.len (end_of c.args.self.now.mutator.seat.me.0.mine.space))) (after e)
    (made (before e) c.args.place c.args.raw c.args.kind c.args.len c.args.self.now.sound (can e))

pub invariant_of-self-clause-leads : goal.invariant_of-self-clause-leads
invariant_of-self-clause-leads c =
    let e = (goal.at.invariant_of-self-clause-leads c).After-encode in
    let began : Beginning = c.args.self.now.mutator.seat.me.0.mine.base in
    let space : SpaceWords = c.args.self.now.mutator.seat.me.0.mine.space in
    let low = c.args.self.now.behind in
    subst (λ (x : Beginning × SpaceWords). LeadsOnlyTo (MayBeCopied x.0) (graph_in (one_heap x.1 (slice_set c.args.self.now.roots.items c.args.place c.encode.result))))
    (λ i. (sym c.place-at.ensures.base i, sym (c.place-at.ensures.words ∙ ap (with_object space) c.header_of.ensures) i))
    (made_leads (MayBeCopied began) space c.args.self.now.roots.items c.args.place c.encode.result (header e) (can e) c.args.self.now.leads
    (subst (RefersTo (MayBeCopied began)) (sym (meaning c.encode.result (Ref c.place-at.result.0) c.encode.ensures.read_back)) (behind_kept began c.place-at.result.0 (let at = c.place-at.ensures.at in omega arith))))
