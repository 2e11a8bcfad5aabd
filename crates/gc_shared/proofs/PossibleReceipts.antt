-- The receipt for the last event of a history.
use Rattle.std.proofs.lemmas.Grind.{common_steps}
use Rattle.std.proofs.Common.{◌≡◌, ℕ, ◌-◌, List, [], ◌∷◌, ◌++◌, length, subst, arith}
use Rattle.gc_model.specs.declared.event.Event.{Event}
use Rattle.gc_model.specs.declared.event.Answer.{Answer}
use Rattle.gc_world.specs.declared.entry.Entry.{Entry}
use Rattle.gc_world.specs.History.{IsHistory}
use Rattle.gc_world.specs.World.{Past, entry_of}
use Rattle.gc_shared.specs.declared.seat.Receipt.{Receipt}
use Rattle.gc_shared.specs.Seats.{IsPossibleIn, receipt}

-- `made` is the world after the event, as the clause of the call states it
pub last_is_possible : (new made : Past) (earlier : List Entry) (event : Event) (answer : Answer) (history : List Entry) → new ≡ made
    → made.entries ≡ earlier ++ entry_of event answer ∷ [] → history ≡ new.entries → IsHistory new.size new.mutators new.entries → IsPossibleIn new.size new.mutators (receipt (length history - 1) event answer)
last_is_possible new made earlier event answer history is more all legal = grind (arith, common_steps)

-- the same for an equal size and number of mutators
pub possible_along : (s m size mutators : ℕ) (r : Receipt) → s ≡ size → m ≡ mutators → IsPossibleIn s m r → IsPossibleIn size mutators r
possible_along s m size mutators r a b h = subst (λ n. IsPossibleIn n mutators r) a (subst (λ n. IsPossibleIn s n r) b h)
