-- All numbers are those of slots exactly if the remaining ones are.
use Rattle.std.proofs.Common.{◌↔◌, ◌<◌, drop}
use Rattle.std.specs.List.{AllByRecursion}
use Rattle.gcflip_heap_c.specs.Slots.{slot_numbers}
use Rattle.gcflip_heap_c.proofs.slots.are_slots.Given as goal

-- all numbers are those of slots if the remaining ones are
abbrev pub invariant-loop-number : goal.invariant-loop-number
invariant-loop-number l = AllByRecursion (λ n. n < slot_numbers) l.numbers ↔ AllByRecursion (λ n. n < slot_numbers) (drop l.number-index l.numbers)
