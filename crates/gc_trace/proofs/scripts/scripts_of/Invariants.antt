-- So far, there is a script for each mutator before this one.
use Rattle.std.proofs.Common.{◌≡◌, map}
use Rattle.gc_trace.specs.Scripts.{scripts}
use Rattle.gc_trace.proofs.scripts.scripts_of.Given as goal

abbrev pub invariant-loop-m : goal.invariant-loop-m
invariant-loop-m l = map (λ script. script.items) l.scripts.items ≡ scripts l.m l.trace.events.items
