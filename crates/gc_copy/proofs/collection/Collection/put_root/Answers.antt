-- The field that the code finds and logs is the one that the `Put` writes, and there is none if the `Put` writes nothing.
use Rattle.std.proofs.Common.{◌≡◌, [], ◌∷◌, Some, None, sym}
use Rattle.std.specs.Option.{option_map}
use Rattle.gc_graph.specs.declared.command.Op.TheVariants.{Put}
use Rattle.gc_heap.specs.Heap.{graph_in}
use Rattle.gc_heap.specs.Places.{root_at}
use Rattle.gc_model.specs.Steps.{written}
use Rattle.gc_copy.specs.Entries.{entry_in}
use Rattle.gc_copy.specs.Words.{collection_in}
use Rattle.gc_copy.proofs.Mutating.{nothing_noted, mutate_is, wrote, nothing_belongs, one_but}
use Rattle.gc_copy.proofs.collection.Collection.put_root.Goals as goal

none_written : (c : goal.In_default) → written (graph_in c.args.heap.now) c.args.m (Put (root_at c.args.s) c.args.i (root_at c.args.t)) c.put_root-reply.result ≡ []
none_written c = wrote (graph_in c.args.heap.now) c.args.m (Put (root_at c.args.s) c.args.i (root_at c.args.t)) c.put_root-reply.result (option_map entry_in c.put_field-put.result) None (c.put_field-put.ensures c.args.m (root_at c.args.t)) c.in_default.ensures

one_written : (c : goal.After-note) → written (graph_in c.args.heap.now) c.args.m (Put (root_at c.args.s) c.args.i (root_at c.args.t)) c.put_root-reply.result ≡ (c.in-Some.entry.object.0, c.in-Some.entry.field) ∷ []
one_written c = wrote (graph_in c.args.heap.now) c.args.m (Put (root_at c.args.s) c.args.i (root_at c.args.t)) c.put_root-reply.result (option_map entry_in c.put_field-put.result) (Some (c.in-Some.entry.object.0, c.in-Some.entry.field)) (c.put_field-put.ensures c.args.m (root_at c.args.t)) c.in-Some.ensures

pub returns-in_default-clause-step : goal.returns-in_default-clause-step
returns-in_default-clause-step c =
    mutate_is c.args.heap.now c.put_root-reply.new.self c.args.self.now c.args.self.now c.args.m (Put (root_at c.args.s) c.args.i (root_at c.args.t)) c.put_root-reply.result [] c.space.ensures.sound (c.put_root-reply.ensures.performs c.args.m).size (c.put_root-reply.ensures.performs c.args.m).mutators (c.put_root-reply.ensures.performs c.args.m).step
    (none_written c) (sym (nothing_noted (collection_in c.args.self.now) c.args.m))

pub returns-in_default-clause-belongs : goal.returns-in_default-clause-belongs
returns-in_default-clause-belongs c =
    nothing_belongs c.args.heap.now c.put_root-reply.new.self c.args.self.now c.args.m (Put (root_at c.args.s) c.args.i (root_at c.args.t)) c.put_root-reply.result c.requires.belongs (c.put_root-reply.ensures.performs c.args.m).links (c.put_root-reply.ensures.performs c.args.m).mutators (c.put_root-reply.ensures.performs c.args.m).step (none_written c)

pub returns-clause-step : goal.returns-clause-step
returns-clause-step c =
    mutate_is c.args.heap.now c.put_root-reply.new.self c.args.self.now c.note.new.self c.args.m (Put (root_at c.args.s) c.args.i (root_at c.args.t)) c.put_root-reply.result ((c.in-Some.entry.object.0, c.in-Some.entry.field) ∷ []) c.space.ensures.sound (c.put_root-reply.ensures.performs c.args.m).size
    (c.put_root-reply.ensures.performs c.args.m).mutators (c.put_root-reply.ensures.performs c.args.m).step (one_written c) c.note.ensures.collection

pub returns-clause-belongs : goal.returns-clause-belongs
returns-clause-belongs c =
    let one = one_but c.args.heap.now c.put_root-reply.new.self c.args.self.now c.args.m (Put (root_at c.args.s) c.args.i (root_at c.args.t)) c.put_root-reply.result c.in-Some.entry.object.0 c.in-Some.entry.field c.requires.belongs (c.put_root-reply.ensures.performs c.args.m).links (c.put_root-reply.ensures.performs c.args.m).mutators (c.put_root-reply.ensures.performs c.args.m).step (one_written c) in
    c.note.ensures.belongs c.put_root-reply.new.self one.1 one.0

pub returns-in_default-clause-entry : goal.returns-in_default-clause-entry
returns-in_default-clause-entry c = sym (none_written c)

pub returns-clause-entry : goal.returns-clause-entry
returns-clause-entry c = sym (one_written c)

pub returns-in_default-clause-mutators : goal.returns-in_default-clause-mutators
returns-in_default-clause-mutators c = (c.put_root-reply.ensures.performs c.args.m).mutators

pub returns-clause-mutators : goal.returns-clause-mutators
returns-clause-mutators c = (c.put_root-reply.ensures.performs c.args.m).mutators
