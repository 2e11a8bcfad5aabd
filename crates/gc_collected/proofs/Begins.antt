-- A monitor that has room for both spaces of a collection goes on following a heap in which that begins.
use Rattle.std.proofs.Common.{◌≡◌, ◌⊎◌, ⊎_elim, ◌<◌, ◌≤◌, ℕ, false, Option, Some, None, ap, sym, ◌∙◌, subst, arith}
use Rattle.gc_model.specs.State.{Collection, State, heap_end}
use Rattle.gc_model.specs.Steps.{fresh_collection, with_collection}
use Rattle.gc_model.specs.Belonging.{IsSpaceGraph}
use Rattle.gc_monitor.specs.Tables.{Tables, watch_of}
use Rattle.gc_monitor.specs.Watch.{Watch}
use Rattle.gc_monitor.proofs.Public.{opening_watch}
use Rattle.gc_collected.specs.Internal.Beside.{GoesBeside}
use Rattle.gc_collected.specs.Internal.Follows.{Follows}
use Rattle.gc_collected.specs.Internal.KnownRoots.{KnowsRoots}
use Rattle.gc_collected.specs.Internal.Knows.{Knows, open_or_fresh}
use Rattle.gc_collected.specs.Internal.Stays.{GoesAlong}
use Rattle.gc_collected.specs.declared.known.KnownRoots.{KnownRoots}
use Rattle.gc_roots.specs.Twins.{RootRow, KeepsTwins, begun as begun_row}
use Rattle.gc_roots.proofs.Public.{begun_keeps}
use Rattle.gc_collected.proofs.Monitor.EndsKnown.{begun_known}
use Rattle.gc_collected.proofs.Monitor.Stays.{begun}

module _ (s : State) (t after : Tables) (closed : s.collection ≡ None) (heap : IsSpaceGraph s.size s.heap.free s.heap.graph) (n : ℕ) (more : after ≡ record t { room = after.room }) (room : (t.room ≡ 0) ⊎ (n ≤ after.room)) (old_fits : s.size ≤ n) (f : Follows s t) where
  knows : Knows s (fresh_collection s.mutators 1) t
  knows = subst (λ o. Knows s (open_or_fresh s o) t) closed f.knows

  watched : watch_of after ≡ opening_watch (heap_end s)
  watched = ap watch_of more ∙ subst (λ o. GoesBeside s o (watch_of t)) closed f.goes

  found : after.lost ≡ false
  found = ap (λ (x : Tables). x.lost) more ∙ f.found

  low : 1 ≤ s.size
  low = let less : s.heap.free < s.size = heap.room in omega arith

  roomy : n ≤ after.room
  roomy = let old : s.size ≤ t.room = f.knows.old_room in let some : 1 ≤ s.size = low in ⊎_elim (λ none. omega (arith, none)) (λ high. high) room

  pub follows_begun : (s' : State) (size : ℕ) → s' ≡ with_collection s (Some (fresh_collection s.mutators size)) → size ≤ n → Follows s' after
  follows_begun s' size is new_fits =
      let high : n ≤ after.room = roomy in
      let k = begun_known s 1 size t after more (omega arith) (omega arith) knows in
      subst (λ (x : State). Follows x after) (sym is) (record {
        found = found;
        goes = subst (λ (w : Watch). GoesAlong s.heap.graph.objects (heap_end s) (fresh_collection s.mutators size) w) (sym watched) (begun s.heap.graph.objects (heap_end s) s.mutators size);
        knows = record { agree = k.agree; due = k.due; marks = k.marks; old_room = k.old_room; new_room = k.new_room };
      })

-- no root is known to have a replica
pub begun_knows : (known now : KnownRoots) (s : State) (o : Option Collection) → now.slots ≡ 0 → now.twins ≡ begun_row known.twins → KnowsRoots known s → KnowsRoots now (with_collection s o)
begun_knows known now s o slots twins k = record {
  slots_high = omega (arith, slots);
  slots = λ p less. absurd (omega (arith, less, slots));
  keeps = subst (λ (row : RootRow). KeepsTwins row (with_collection s o)) (sym twins) (begun_keeps known.twins s o k.keeps);
}
