-- A heap that was opened with extra roots is well formed, and so is every state that a run leads it to.
use Rattle.std.proofs.lemmas.Grind.{common_steps}
use Rattle.std.proofs.Common.{◌≤◌, List, refl, arith}
use Rattle.std.proofs.lemmas.List.{length-replicate}
use Rattle.gc_heap.specs.declared.options.HeapOptions.{HeapOptions}
use Rattle.gc_model.specs.Runs.{AreRootEvents, state_after}
use Rattle.gc_model.specs.declared.event.Event.{Event}
use Rattle.gc_model.specs.Belonging.{IsState}
use Rattle.gc_copy.specs.Opening.{opening_state_with}
use Rattle.gc_model.proofs.Public.{in_replicate, root_events_keep}

pub opening_with_ok : (options : HeapOptions) → 1 ≤ options.size → options.size ≤ 4294967295 → IsState (opening_state_with options)
opening_with_ok options low high = grind (arith, common_steps, in_replicate, length-replicate)

pub root_run_ok : (options : HeapOptions) (events : List Event) → 1 ≤ options.size → options.size ≤ 4294967295 → AreRootEvents options.mutators events → IsState (state_after (opening_state_with options) events)
root_run_ok options events low high r = (root_events_keep options.mutators events (opening_state_with options) (record { ok = opening_with_ok options low high; count = refl }) r).ok
