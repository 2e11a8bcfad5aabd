-- A step that does not flip moves no replica.
use Rattle.std.proofs.Common.{Some, None}
use Rattle.gc_roots.proofs.Twins.{step_keeps, begun_keeps}
use Rattle.gc_roots.proofs.laws.steps_keep_twins.Goals as goal

pub returns-clause-steps : goal.returns-clause-steps
returns-clause-steps c row s o step is other k = step_keeps row s o step is other k

pub returns-clause-ends : goal.returns-clause-ends
returns-clause-ends c row s o k = begun_keeps row s (Some o) k

pub returns-clause-gives_up : goal.returns-clause-gives_up
returns-clause-gives_up c row s k = begun_keeps row s None k
