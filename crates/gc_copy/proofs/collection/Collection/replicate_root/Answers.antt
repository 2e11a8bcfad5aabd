-- The target of the found root has no replica yet, and if there is no room to place one, the model's step lacks room too.
use Rattle.std.proofs.Common.{flat_map, sym, ◌∙◌, rules, ap, subst}
use Rattle.std.specs.Option.{option_map}
use Rattle.gc_copy.specs.declared.collection.roots.MissingRoot.{MissingRoot}
use Rattle.gc_graph.specs.Graph.{names_of}
use Rattle.gc_heap.specs.Heap.{graph_in}
use Rattle.gc_model.specs.State.{State}
use Rattle.gc_copy.specs.Words.{IsCollection, collection_in}
use Rattle.gc_model.specs.declared.step.Step.TheVariants as steps
use Rattle.gc_model.specs.declared.step.StepReply.{StepReply}
use Rattle.gc_model.proofs.Public.{unreplicated_some}
use Rattle.gc_copy.proofs.collection.Collection.replicate_root.Goals as goal

pub place_replica-requires-clause-missing : goal.place_replica-requires-clause-missing
place_replica-requires-clause-missing c = (unreplicated_some (collection_in c.args.self.now) (flat_map names_of (graph_in c.args.heap.now).roots) c.in-Some.missing.target.0 (sym c.requires.first ∙ ap (option_map (λ (r : MissingRoot). r.target.0)) c.in-Some.is)).0

pub returns-in-Err-clause-step : goal.returns-in-Err-clause-step
returns-in-Err-clause-step c = search rules

pub returns-in-Err-clause-room : goal.returns-in-Err-clause-room
returns-in-Err-clause-room c larger same =
    c.new_spaces_have_room.ensures c.args.heap.now c.args.self.now steps.Roots c.space.ensures.sound (subst IsCollection c.self.view_is c.self.invariant.0) c.requires.belongs larger
    (ap (λ (next : StepReply × State). next.0) (returns-in-Err-clause-step c))
