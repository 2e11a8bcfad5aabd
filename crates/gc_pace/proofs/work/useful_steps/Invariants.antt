-- So many useful steps were performed, the last got this reply, none was enough, and so many looks were taken.
use Rattle.std.proofs.Common.{◌≡◌, ◌+◌, ◌-◌, ◌≤◌, true}
use Rattle.std.specs.Prelude.{IfSome}
use Rattle.gc_pace.specs.Beside.{HaveRooms}
use Rattle.gc_pace.specs.Internal.Performed.{CountedBy, HasDone, steps_in}
use Rattle.gc_pace.specs.Work.{HaveFewLooks, goes_on, is_flip}
use Rattle.gc_pace.proofs.work.useful_steps.Given as goal

abbrev pub invariant-loop-units : goal.invariant-loop-units
invariant-loop-units g l = record {
  done : HasDone (g.P.Performs.short l.performs) l.fn.size l.fn.heap l.heap l.done.run;
  on : IfSome l.done.run (λ run. (goes_on run.reply ≡ true) × g.P.Performs.short l.performs l.heap.core run.reply);
  rooms : IfSome l.done.run (λ run. HaveRooms l.fn.size l.fn.heap.core l.fn.heap.beside (is_flip run.reply) l.heap.beside.rooms);
  pair : l.heap.beside.pair ≡ l.fn.heap.beside.pair;
  looked : l.heap.roots_left + l.done.looks ≤ l.fn.heap.roots_left;
  steps : steps_in l.done.run ≤ l.units;
  units : CountedBy l.fn.looks_as l.done.looks (steps_in l.done.run) l.units;
  few : HaveFewLooks l.fn.looks_as l.units l.done.looks;
  within : l.units ≤ l.most;
}

abbrev pub decreases-loop-units : goal.decreases-loop-units
decreases-loop-units g l = l.most - l.units
