-- A field that takes nothing is not logged.
use Rattle.std.proofs.Common.{sym, subst}
use Rattle.gc_collected.specs.Internal.Given.{field_given}
use Rattle.gc_collected.specs.Internal.Together.{Logs}
use Rattle.gc_collected.proofs.Together.{noted_none}
use Rattle.gc_collected.proofs.giving.note_one.Goals as goal

pub returns-in-Nil-clause-logs : goal.returns-in-Nil-clause-logs
returns-in-Nil-clause-logs c = subst (λ x. Logs c.args.collection.now c.args.m (field_given c.args.object.0 c.args.i x) c.args.collection.now) (sym c.in-Nil.is) (noted_none c.args.collection.now c.args.m)
