-- A seat that plays one more command of its script has played that much of it.
use Rattle.std.proofs.lemmas.Grind.{common_steps}
use Rattle.std.proofs.Common.{◌≡◌, ℕ, ◌+◌, ◌<◌, List, length, take, map, get_or, arith}
use Rattle.std.proofs.lemmas.List.{take_more, map-append}
use Rattle.gc_graph.specs.declared.command.Op.{Op}
use Rattle.gc_model.specs.declared.event.Event.TheVariants.{Mutate}
use Rattle.gc_model.specs.declared.event.Answer.{Answer}
use Rattle.gc_shared.specs.declared.seat.Receipt.{Receipt}
use Rattle.gc_shared.specs.Seats.{SeatValue, AddsReceipt}
use Rattle.gc_shared.specs.Internal.Scripts.{events_on}

-- one more command of the script was performed
pub played_more : {Can : Receipt → Type 0} (m : ℕ) (script : List Op) (n : ℕ) (op : Op) (s t : SeatValue) (a : Answer) → n < length script → op ≡ get_or script n op → AddsReceipt Can s t (Mutate s.number op) a → s.number ≡ m → events_on s ≡ map (Mutate m) (take n script) → (t.number ≡ m) × (events_on t ≡ map (Mutate m) (take (n + 1) script))
played_more m script n op s t a lt at adds same events = grind (arith, common_steps, take_more, map-append)
