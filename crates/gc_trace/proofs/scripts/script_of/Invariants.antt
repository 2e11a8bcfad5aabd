-- So far, the script has the mutator's commands from the events before this one.
use Rattle.std.proofs.Common.{◌≡◌, take}
use Rattle.gc_model.specs.Runs.{commands_of}
use Rattle.gc_trace.proofs.scripts.script_of.Given as goal

abbrev pub invariant-loop-event : goal.invariant-loop-event
invariant-loop-event l = l.script.items ≡ commands_of l.m (take l.event-index l.events)
