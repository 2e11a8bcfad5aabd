-- Each word of a done row is a twin, or 0 beside a root that is nil.
use Rattle.gc_roots.proofs.Turns.{new_roots, no_target}
use Rattle.gc_roots.proofs.laws.a_done_row_is_the_new_roots.Goals as goal

pub returns-clause-words : goal.returns-clause-words
returns-clause-words c row s o is k done slots = new_roots row s o is k done slots

pub returns-clause-known : goal.returns-clause-known
returns-clause-known c row s o is k done slots = no_target row s o is k done slots
