-- A fresh collection has no replica, a command changes one field of an object at most, and a log entry covers that field.
use Rattle.std.proofs.Common.{rules}
use Rattle.gc_model.proofs.Steps.{begun_belongs}
use Rattle.gc_model.proofs.StateLaws.{heap_kept, command_kept, field_there, notes}
use Rattle.gc_model.proofs.laws.belonging_stays.Goals as goal

pub returns : goal.returns
returns = search (rules, begun_belongs, heap_kept, command_kept, field_there, notes)
