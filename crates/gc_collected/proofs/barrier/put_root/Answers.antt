-- A `Put` that writes nothing tells the monitor nothing; else the monitor is told of the field that was logged.
use Rattle.std.proofs.Common.{◌≡◌, [], ℕ, Option, refl, sym, ap, subst, ◌∙◌}
use Rattle.std.specs.Option.{option_map, option_to_list}
use Rattle.gc_graph.specs.declared.command.Op.TheVariants.{Put}
use Rattle.gc_heap.specs.Heap.{graph_in}
use Rattle.gc_heap.specs.Places.{root_at}
use Rattle.gc_model.specs.Members.{In}
use Rattle.gc_model.specs.Steps.{written}
use Rattle.gc_copy.specs.Entries.{entry_in}
use Rattle.gc_copy.specs.Words.{open_state}
use Rattle.gc_copy.specs.declared.log.LogEntry.{LogEntry}
use Rattle.gc_collected.proofs.Monitor.Follows.{follows_put, follows_quiet}
use Rattle.gc_collected.proofs.Monitor.Ran.{ran_one}
use Rattle.gc_collected.specs.Internal.Beside.{AreOld}
use Rattle.gc_collected.proofs.barrier.put_root.Goals as goal

pub returns-in_default-clause-follows : goal.returns-in_default-clause-follows
returns-in_default-clause-follows c =
    let s = open_state c.args.heap.now c.args.collection.now in
    let none : [] ≡ written (graph_in c.args.heap.now) c.args.m (Put (root_at c.args.s) c.args.i (root_at c.args.t)) c.put_root-reply.result.0 = ap (λ (o : Option LogEntry). option_to_list (option_map entry_in o)) (sym c.in_default.is) ∙ c.put_root-reply.ensures.entry in
    follows_quiet s (open_state c.put_root-reply.new.heap c.put_root-reply.new.self) c.args.watch.now _ c.are_shown.ensures.opened
    (ran_one s (open_state c.put_root-reply.new.heap c.put_root-reply.new.self) c.args.m (Put (root_at c.args.s) c.args.i (root_at c.args.t)) c.put_root-reply.result.0 c.put_root-reply.ensures.step refl)
    (λ a i w. subst (λ ws. In {X = ℕ × ℕ} (a, i) ws) (sym none) w)

pub returns-clause-follows : goal.returns-clause-follows
returns-clause-follows c =
    let s = open_state c.args.heap.now c.args.collection.now in
    let s' = open_state c.put_root-reply.new.heap c.put_root-reply.new.self in
    let words = c.words.ensures.value ∙ ap (λ x. x.words) c.space.ensures.value in
    follows_put s s' c.args.m c.in-Some.entry.object.0 c.in-Some.entry.field (Put (root_at c.args.s) c.args.i (root_at c.args.t)) c.put_root-reply.result.0 c.words.result.now c.args.watch.now c.written.new.self
    c.are_shown.ensures.opened c.are_shown-2.ensures.opened c.are_shown-2.ensures.heap c.requires.mutator c.put_root-reply.ensures.step refl
    (ap (λ (o : Option LogEntry). option_to_list (option_map entry_in o)) (sym c.in-Some.is) ∙ c.put_root-reply.ensures.entry)
    (λ e. cc) (subst (AreOld s') (sym words) c.are_shown-2.ensures.old) c.written.ensures.stays c.written.ensures.wrote
