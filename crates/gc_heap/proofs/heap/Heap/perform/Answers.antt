-- The command on the roots at the places of its slots takes the same step.
use Rattle.std.proofs.Common.{ap, sym, ◌∙◌}
use Rattle.gc_graph.specs.Machine.{roomy_step}
use Rattle.gc_graph.specs.declared.command.Op.TheVariants.{Get, Look, Move, New, NewRaw, Nil, Num, Put, Same}
use Rattle.gc_heap.specs.Places.{root_at}
use Rattle.gc_heap.proofs.Steps.{same_step}
use Rattle.gc_heap.proofs.heap.Heap.perform.Goals as goal

pub returns-in-New-clause-performs : goal.returns-in-New-clause-performs
returns-in-New-clause-performs c =
    same_step c.args.self.now c.new_at_root.new.self c.args.m c.args.op.now (New (root_at c.place.result) c.in-New.kind c.in-New.len) c.new_at_root.result (λ s name. (λ k. roomy_step s c.args.m (New (root_at (c.place.ensures.place k)) c.in-New.kind c.in-New.len) name) ∙ ap (λ op. roomy_step s c.args.m op name) (sym c.in-New.is)) (c.new_at_root.ensures.performs c.args.m)

pub returns-in-NewRaw-clause-performs : goal.returns-in-NewRaw-clause-performs
returns-in-NewRaw-clause-performs c =
    same_step c.args.self.now c.new_raw_at_root.new.self c.args.m c.args.op.now (NewRaw (root_at c.place-in-NewRaw.result) c.in-NewRaw.kind c.in-NewRaw.len) c.new_raw_at_root.result (λ s name. (λ k. roomy_step s c.args.m (NewRaw (root_at (c.place-in-NewRaw.ensures.place k)) c.in-NewRaw.kind c.in-NewRaw.len) name) ∙ ap (λ op. roomy_step s c.args.m op name) (sym c.in-NewRaw.is)) (c.new_raw_at_root.ensures.performs c.args.m)

pub returns-in-Num-clause-performs : goal.returns-in-Num-clause-performs
returns-in-Num-clause-performs c =
    same_step c.args.self.now c.num_root.new.self c.args.m c.args.op.now (Num (root_at c.place-in-Num.result) c.in-Num.n) c.num_root.result (λ s name. (λ k. roomy_step s c.args.m (Num (root_at (c.place-in-Num.ensures.place k)) c.in-Num.n) name) ∙ ap (λ op. roomy_step s c.args.m op name) (sym c.in-Num.is)) (c.num_root.ensures.performs c.args.m)

pub returns-in-Nil-clause-performs : goal.returns-in-Nil-clause-performs
returns-in-Nil-clause-performs c =
    same_step c.args.self.now c.nil_root.new.self c.args.m c.args.op.now (Nil (root_at c.place-in-Nil.result)) c.nil_root.result (λ s name. (λ k. roomy_step s c.args.m (Nil (root_at (c.place-in-Nil.ensures.place k))) name) ∙ ap (λ op. roomy_step s c.args.m op name) (sym c.in-Nil.is)) (c.nil_root.ensures.performs c.args.m)

pub returns-in-Move-clause-performs : goal.returns-in-Move-clause-performs
returns-in-Move-clause-performs c =
    same_step c.args.self.now c.copy_root.new.self c.args.m c.args.op.now (Move (root_at c.place-in-Move.result) (root_at c.place-in-Move-2.result)) c.copy_root.result (λ s name. (λ k. roomy_step s c.args.m (Move (root_at (c.place-in-Move.ensures.place k)) (root_at (c.place-in-Move-2.ensures.place k))) name) ∙ ap (λ op. roomy_step s c.args.m op name) (sym c.in-Move.is)) (c.copy_root.ensures.performs c.args.m)

pub returns-in-Get-clause-performs : goal.returns-in-Get-clause-performs
returns-in-Get-clause-performs c =
    same_step c.args.self.now c.get_root.new.self c.args.m c.args.op.now (Get (root_at c.place-in-Get.result) (root_at c.place-in-Get-2.result) c.in-Get.i) c.get_root.result (λ s name. (λ k. roomy_step s c.args.m (Get (root_at (c.place-in-Get.ensures.place k)) (root_at (c.place-in-Get-2.ensures.place k)) c.in-Get.i) name) ∙ ap (λ op. roomy_step s c.args.m op name) (sym c.in-Get.is)) (c.get_root.ensures.performs c.args.m)

pub returns-in-Put-clause-performs : goal.returns-in-Put-clause-performs
returns-in-Put-clause-performs c =
    same_step c.args.self.now c.put_root.new.self c.args.m c.args.op.now (Put (root_at c.place-in-Put.result) c.in-Put.i (root_at c.place-in-Put-2.result)) c.put_root.result (λ s name. (λ k. roomy_step s c.args.m (Put (root_at (c.place-in-Put.ensures.place k)) c.in-Put.i (root_at (c.place-in-Put-2.ensures.place k))) name) ∙ ap (λ op. roomy_step s c.args.m op name) (sym c.in-Put.is)) (c.put_root.ensures.performs c.args.m)

pub returns-in-Same-clause-performs : goal.returns-in-Same-clause-performs
returns-in-Same-clause-performs c =
    same_step c.args.self.now c.args.self.now c.args.m c.args.op.now (Same (root_at c.place-in-Same.result) (root_at c.place-in-Same-2.result)) c.same_root.result (λ s name. (λ k. roomy_step s c.args.m (Same (root_at (c.place-in-Same.ensures.place k)) (root_at (c.place-in-Same-2.ensures.place k))) name) ∙ ap (λ op. roomy_step s c.args.m op name) (sym c.in-Same.is)) (c.same_root.ensures.performs c.args.m)

pub returns-in-Look-clause-performs : goal.returns-in-Look-clause-performs
returns-in-Look-clause-performs c =
    same_step c.args.self.now c.args.self.now c.args.m c.args.op.now (Look (root_at c.place-in-Look.result)) c.look_root.result (λ s name. (λ k. roomy_step s c.args.m (Look (root_at (c.place-in-Look.ensures.place k))) name) ∙ ap (λ op. roomy_step s c.args.m op name) (sym c.in-Look.is)) (c.look_root.ensures.performs c.args.m)
