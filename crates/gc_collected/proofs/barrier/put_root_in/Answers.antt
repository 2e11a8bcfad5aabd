-- A put while no collection is open: the heap is all, and the monitor is told nothing.
use Rattle.std.proofs.lemmas.Grind.{common_steps}
use Rattle.std.proofs.Common.{◌≡◌, None, refl, subst, sym, arith}
use Rattle.std.specs.Option.{option_map}
use Rattle.gc_graph.specs.declared.command.Op.TheVariants.{Put}
use Rattle.gc_heap.specs.Places.{root_at}
use Rattle.gc_model.specs.Steps.{mutate}
use Rattle.gc_copy.specs.Words.{collection_in, state_of}
use Rattle.gc_copy.proofs.Public.{idle_left, still_unlinked}
use Rattle.gc_collected.specs.Internal.CollectedHeap.{Fits}
use Rattle.gc_collected.proofs.Followed.{closed_put}
use Rattle.gc_collected.proofs.barrier.put_root_in.Goals as goal
use Rattle.gc_collected.proofs.barrier.put_root_in.Goals.{After-put_root}

none : (c : After-put_root) → c.args.collection.now ≡ None
none c = grind (arith, common_steps, c.requires.open)

pub returns-then-not-is_open-clause-step : goal.returns-then-not-is_open-clause-step
returns-then-not-is_open-clause-step c =
    subst (λ o. mutate (state_of c.args.heap.now (option_map collection_in o)) c.args.m (Put (root_at c.args.s) c.args.i (root_at c.args.t)) ≡ (c.put_root.result, state_of c.put_root.new.self (option_map collection_in o))) (sym (none (goal.at.returns-then-not-is_open-clause-step c).After-put_root))
    (idle_left c.args.heap.now c.put_root.new.self c.args.m (Put (root_at c.args.s) c.args.i (root_at c.args.t)) c.put_root.result c.space.ensures.sound (c.put_root.ensures.performs c.args.m))

pub returns-then-not-is_open-clause-fits : goal.returns-then-not-is_open-clause-fits
returns-then-not-is_open-clause-fits c = λ epoch fits.
    let is = none (goal.at.returns-then-not-is_open-clause-fits c).After-put_root in
    subst (λ o. Fits epoch c.put_root.new.self o) (sym is) (still_unlinked epoch c.args.heap.now c.put_root.new.self c.args.m (Put (root_at c.args.s) c.args.i (root_at c.args.t)) c.put_root.result (c.put_root.ensures.performs c.args.m) (subst (λ o. Fits epoch c.args.heap.now o) is fits))

pub returns-then-not-is_open-clause-mutators : goal.returns-then-not-is_open-clause-mutators
returns-then-not-is_open-clause-mutators c = (c.put_root.ensures.performs c.args.m).mutators

pub returns-then-not-is_open-clause-follows : goal.returns-then-not-is_open-clause-follows
returns-then-not-is_open-clause-follows c = closed_put c.args.heap.now c.put_root.new.self c.args.collection.now c.args.m (Put (root_at c.args.s) c.args.i (root_at c.args.t)) c.put_root.result c.args.watch.now (none (goal.at.returns-then-not-is_open-clause-follows c).After-put_root) refl c.space.ensures.sound (c.put_root.ensures.performs c.args.m)
