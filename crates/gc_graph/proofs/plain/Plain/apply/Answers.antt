-- By cases of the commands: the reply and the new graph are the machine's, and the number of roots stays.
use Rattle.std.proofs.lemmas.Grind.{common_steps}
use Rattle.std.proofs.Common.{true, false, refl, arith}
use Rattle.gc_graph.specs.Records.{graph_of, plain_value}
use Rattle.gc_graph.specs.declared.command.Op.TheVariants.{Get, Put}
use Rattle.gc_graph.proofs.Stepping.{answered_roots, answered, seen, kept, new_answered_if_ok, got_step, put_step}
use Rattle.gc_graph.proofs.plain.Plain.apply.Goals as goal

pub returns-in-Num-clause-ok : goal.returns-in-Num-clause-ok
returns-in-Num-clause-ok c = grind (arith, common_steps, answered)

pub returns-in-Nil-clause-ok : goal.returns-in-Nil-clause-ok
returns-in-Nil-clause-ok c = grind (arith, common_steps, answered)

pub returns-in-Move-clause-ok : goal.returns-in-Move-clause-ok
returns-in-Move-clause-ok c = grind (arith, common_steps, answered)

pub returns-in-Get-clause-ok : goal.returns-in-Get-clause-ok
returns-in-Get-clause-ok c = grind (arith, common_steps, answered, got_step)

pub invariant_of-self-in-Get : goal.invariant_of-self-in-Get
invariant_of-self-in-Get c =
    kept c.self-in-Get.inside _ c.args.m (Get c.in-Get.d c.in-Get.s c.in-Get.i) c.get.result (λ none. none) refl refl
    (got_step (graph_of c.self-in-Get.inside.objects) c.args.m c.in-Get.d c.in-Get.s c.in-Get.i c.place-in-Get-2.result c.place-in-Get.result (plain_value c.root-target.result) _ _
    c.place-in-Get-2.ensures.value c.place-in-Get.ensures.value c.root-target.ensures c.get.ensures)
    c.self-in-Get.invariant

pub returns-in-Put-clause-ok : goal.returns-in-Put-clause-ok
returns-in-Put-clause-ok c = grind (arith, common_steps, answered, put_step)

pub invariant_of-self-in-Put : goal.invariant_of-self-in-Put
invariant_of-self-in-Put c =
    kept c.self-in-Put.inside _ c.args.m (Put c.in-Put.s c.in-Put.i c.in-Put.t) c.put.result (λ none. none) refl refl
    (put_step (graph_of c.self-in-Put.inside.objects) c.args.m c.in-Put.s c.in-Put.t c.in-Put.i c.place-in-Put.result c.place-in-Put-2.result (plain_value c.root-target-in-Put.result) (plain_value c.root-value-in-Put.result) _ _
    c.place-in-Put.ensures.value c.place-in-Put-2.ensures.value c.root-target-in-Put.ensures c.root-value-in-Put.ensures c.put.ensures)
    c.self-in-Put.invariant

pub returns-in-Same-clause-ok : goal.returns-in-Same-clause-ok
returns-in-Same-clause-ok c = grind (arith, common_steps, seen)

pub returns-in-Look-clause-ok : goal.returns-in-Look-clause-ok
returns-in-Look-clause-ok c = grind (arith, common_steps, seen)

pub returns-in-New-clause-ok : goal.returns-in-New-clause-ok
returns-in-New-clause-ok c = new_answered_if_ok c.make.result _ _ c.args.m c.in-New.d c.place.result false c.in-New.kind c.in-New.len _ c.in-New.is c.place.ensures.value c.make.ensures.ok

pub returns-in-NewRaw-clause-ok : goal.returns-in-NewRaw-clause-ok
returns-in-NewRaw-clause-ok c = new_answered_if_ok c.make-in-NewRaw.result _ _ c.args.m c.in-NewRaw.d c.place-in-NewRaw.result true c.in-NewRaw.kind c.in-NewRaw.len _ c.in-NewRaw.is c.place-in-NewRaw.ensures.value c.make-in-NewRaw.ensures.ok

pub returns-in-Num-clause-mutators : goal.returns-in-Num-clause-mutators
returns-in-Num-clause-mutators c = answered_roots _ _ _ _ _ (returns-in-Num-clause-ok c)

pub returns-in-Nil-clause-mutators : goal.returns-in-Nil-clause-mutators
returns-in-Nil-clause-mutators c = answered_roots _ _ _ _ _ (returns-in-Nil-clause-ok c)

pub returns-in-Move-clause-mutators : goal.returns-in-Move-clause-mutators
returns-in-Move-clause-mutators c = answered_roots _ _ _ _ _ (returns-in-Move-clause-ok c)

pub returns-in-Get-clause-mutators : goal.returns-in-Get-clause-mutators
returns-in-Get-clause-mutators c = answered_roots _ _ _ _ _ (returns-in-Get-clause-ok c)

pub returns-in-Put-clause-mutators : goal.returns-in-Put-clause-mutators
returns-in-Put-clause-mutators c = answered_roots _ _ _ _ _ (returns-in-Put-clause-ok c)

pub returns-in-New-clause-mutators : goal.returns-in-New-clause-mutators
returns-in-New-clause-mutators c = grind (arith, common_steps, returns-in-New-clause-ok, answered_roots)

pub returns-in-NewRaw-clause-mutators : goal.returns-in-NewRaw-clause-mutators
returns-in-NewRaw-clause-mutators c = grind (arith, common_steps, returns-in-NewRaw-clause-ok, answered_roots)
