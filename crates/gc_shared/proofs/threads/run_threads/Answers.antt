-- Seats that played their scripts and agree with the history show that the history is of these scripts and turns.
use Rattle.std.proofs.Common.{List, ap, ◌∙◌, subst}
use Rattle.std.specs.declared.vec.Vec.{Vec}
use Rattle.std.specs.declared.alloc.Global.{Global}
use Rattle.gc_graph.specs.declared.command.Op.{Op}
use Rattle.gc_shared.specs.Seats.{Opening}
use Rattle.gc_shared.specs.Internal.Scripts.{HaveEnded}
use Rattle.gc_shared.proofs.RunHistory.{has_run}
use Rattle.gc_shared.proofs.threads.run_threads.Goals as goal

pub returns-in-Ok : goal.returns-in-Ok
returns-in-Ok g c =
    let scripts = c.args.scripts in
    let seats = c.in_ok-ended.field-0.items in
    let ended : HaveEnded scripts.items c.args.turns seats = subst (λ (l : List (Vec Op Global)). HaveEnded l c.args.turns seats) c.as_slice.ensures.value c.in_ok-ended.ensures in
    let is = c.in_ok-shared.ensures.opening ∙ ap (λ n. let o : Opening = record { size = c.args.size; mutators = n; collectors = 1 } in o) (c.len-mutators.ensures ∙ scripts.ok.0) in
    has_run c.args.size scripts.items c.args.turns seats c.in_ok-shared.shared c.in-Ok.world is ended c.in-Ok.ensures.ok
