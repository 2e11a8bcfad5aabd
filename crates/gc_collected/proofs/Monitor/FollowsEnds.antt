-- A monitor goes on following a heap: a collection is given up, or ends in a flip.
-- For the theorem that the monitor follows its heap.
use Rattle.std.proofs.lemmas.Grind.{common_steps}
use Rattle.std.proofs.Common.{◌≡◌, ◌<◌, ◌≤◌, false, length, Option, Some, None, refl, ap, sym, ◌∙◌, subst, arith}
use Rattle.std.specs.Prelude.{IfSome}
use Rattle.std.specs.Option.{option_map_or}
use Rattle.std.proofs.lemmas.List.{length-map, length-replicate}
use Rattle.gc_model.specs.State.{Collection, State, heap_end}
use Rattle.gc_model.specs.Steps.{collect, flipped, fresh_collection, step_idle, step_in, with_collection}
use Rattle.gc_model.specs.Belonging.{IsSpaceGraph, IsOpened}
use Rattle.gc_model.specs.declared.step.Step.TheVariants as steps
use Rattle.gc_model.specs.declared.step.StepReply.{StepReply}
use Rattle.gc_model.proofs.Public.{begun_belongs}
use Rattle.gc_monitor.specs.Events.{Freed, flipped_tables}
use Rattle.gc_monitor.specs.Tables.{Tables, watch_of}
use Rattle.gc_monitor.proofs.Public.{opening_watch}
use Rattle.gc_collected.specs.Internal.Beside.{GoesBeside}
use Rattle.gc_collected.specs.Internal.Knows.{Knows, KnowsAll, open_or_fresh}
use Rattle.gc_collected.specs.Internal.Follows.{Follows}
use Rattle.gc_collected.proofs.Monitor.EndsKnown.{dropped_known, flipped_known}
use Rattle.gc_collected.proofs.Monitor.Events.{Goes}

seen : (s : State) (t : Tables) (o : Option Collection) → GoesBeside s o (watch_of t) → length t.olds ≡ heap_end s
seen s t o goes = grind (arith, common_steps)

pub follows_dropped : (s s' : State) (reply : StepReply) (t after : Tables) → IsSpaceGraph s.size s.heap.free s.heap.graph → IfSome s.collection (IsOpened s) → collect s steps.Drop ≡ (reply, s') → (t.lost ≡ false → after.lost ≡ false) → (after.lost ≡ false → Freed t after) → Follows s t → Follows s' after
follows_dropped s s' reply t after heap is_open said stays freed f = go s.collection refl said
  where
    found : after.lost ≡ false
    found = stays f.found

    some_room : 1 ≤ t.room
    some_room = let old_room : s.size ≤ t.room = f.knows.old_room in let less : s.heap.free < s.size = heap.room in omega arith

    goes : watch_of after ≡ opening_watch (heap_end s)
    goes =
        let free = freed found in
        let olds : length after.olds ≡ heap_end s = free.count ∙ seen s t s.collection f.goes in
        ap watch_of free.rest ∙ (λ i. record (opening_watch (heap_end s)) { old_seen = olds i })

    is_fresh : s' ≡ with_collection s None → Knows s (fresh_collection s.mutators 1) after → Follows s' after
    is_fresh is k = subst (λ (x : State). Follows x after) (sym is) (record { found = found; goes = goes; knows = record { agree = k.agree; due = k.due; marks = k.marks; old_room = k.old_room; new_room = k.new_room } })

    go : (o : Option Collection) → s.collection ≡ o → option_map_or (λ (c : Collection). step_in s c steps.Drop) o (step_idle s steps.Drop) ≡ (reply, s') → Follows s' after
    go None e u = is_fresh (sym (ap (λ (x : StepReply × State). x.1) u) ∙ ap (with_collection s) e) (nothing_freed e)
      where
        beside : s.collection ≡ None → watch_of t ≡ opening_watch (heap_end s)
        beside e = subst (λ o. GoesBeside s o (watch_of t)) e f.goes

        known : Knows s (fresh_collection s.mutators 1) t
        known = subst (λ o. Knows s (open_or_fresh s o) t) e f.knows

        -- no replica was there
        nothing_freed : s.collection ≡ None → Knows s (fresh_collection s.mutators 1) after
        nothing_freed e = grind (arith, common_steps, beside, known, found, begun_belongs, length-replicate, dropped_known, length-map, some_room)
    go (Some c) e u = is_fresh (sym (ap (λ (x : StepReply × State). x.1) u))
        (dropped_known s c t after heap (subst (λ (o : Option Collection). IfSome o (IsOpened s)) e is_open) (subst (λ o. GoesBeside s o (watch_of t)) e f.goes) (subst (λ o. Knows s (open_or_fresh s o) t) e f.knows) some_room (freed found))

pub follows_flipped : (s s' : State) (c : Collection) (t after : Tables) → IsSpaceGraph s.size s.heap.free s.heap.graph → s.collection ≡ Some c → IsOpened s c → s' ≡ flipped s c → (t.lost ≡ false → after.lost ≡ false) → (after.lost ≡ false → after ≡ flipped_tables t) → Follows s t → Follows s' after
follows_flipped s s' c t after heap first opened is stays flips f = subst (λ (x : State). Follows x after) (sym is) (record {
  found = found;
  goes = goes;
  knows = subst (KnowsAll (flipped s c)) (sym (flips found)) (flipped_known s c t opened known some_room);
})
  where
    found : after.lost ≡ false
    found = stays f.found

    some_room : 1 ≤ t.room
    some_room = let old_room : s.size ≤ t.room = f.knows.old_room in let less : s.heap.free < s.size = heap.room in omega arith

    known : Knows s c t
    known = subst (λ o. Knows s (open_or_fresh s o) t) first f.knows

    beside : Goes s c (watch_of t)
    beside = subst (λ o. GoesBeside s o (watch_of t)) first f.goes

    goes : watch_of after ≡ opening_watch (heap_end (flipped s c))
    goes = grind (arith, common_steps, flips, found, beside)
