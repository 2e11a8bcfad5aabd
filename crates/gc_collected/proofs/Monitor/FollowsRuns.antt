-- A monitor goes on following a heap: runs of scans.
-- For the theorem that the monitor follows its heap.
use Rattle.std.proofs.Common.{◌≡◌, ℕ, false, List, Option, Some, ap, sym, ◌∙◌, subst}
use Rattle.std.specs.Prelude.{IfSome}
use Rattle.gc_model.specs.State.{Collection, State}
use Rattle.gc_model.specs.Belonging.{IsSpaceGraph, IsOpened}
use Rattle.gc_model.specs.declared.step.Step.TheVariants as steps
use Rattle.gc_model.specs.declared.step.StepReply.{StepReply}
use Rattle.gc_copy.specs.StepRuns.{repeated, IsScanRun}
use Rattle.gc_monitor.specs.Runs.{PlacedAll, CanPlaceAll, LookedAll, CanLookAll}
use Rattle.gc_monitor.specs.Tables.{Tables, watch_of}
use Rattle.gc_collected.specs.Internal.Beside.{AreOld, GoesBeside, heap_words, replica_words}
use Rattle.gc_collected.specs.Internal.Follows.{Follows}
use Rattle.gc_collected.specs.Internal.Knows.{Knows, open_or_fresh}
use Rattle.gc_copy.proofs.Public.{having, scanned_on, scans_are}
use Rattle.gc_collected.proofs.Monitor.Events.{Goes}
use Rattle.gc_collected.proofs.Monitor.Followed.{run_followed, run_looked, run_placed}
use Rattle.gc_collected.proofs.Monitor.FollowsSteps.{on_with, reread}

-- the state with its own collection
own : (s : State) (c : Collection) → s.collection ≡ Some c → s ≡ having s c
own s c is = ap (λ (o : Option Collection). record s { collection = o }) is

-- the state after a run of scans of an open collection
ran : (s s' : State) (c : Collection) (until n : ℕ) (reply : StepReply) → s.collection ≡ Some c → IsScanRun until n s s' reply → s' ≡ having s (scanned_on s n c)
ran s s' c until n reply is run = run.state ∙ (ap (repeated steps.Scan n) (own s c is) ∙ scans_are s n c)

module _ (s s' : State) (c d : Collection) (until n : ℕ) (reply : StepReply) (old words : List ℕ) (heap : IsSpaceGraph s.size s.heap.free s.heap.graph) (is_open : IfSome s.collection (IsOpened s))
    (first : s.collection ≡ Some c) (there : s'.collection ≡ Some d) (run : IsScanRun until n s s' reply) (olds : AreOld s' old) (are : words ≡ replica_words d) (t mid after : Tables) (f : Follows s t) where
  is : s' ≡ having s (scanned_on s n c)
  is = ran s s' c until n reply first run

  same : scanned_on s n c ≡ d
  same = (let e : Some (scanned_on s n c) ≡ Some d = sym (ap (λ (x : State). x.collection) is) ∙ there in cc)

  old_is : old ≡ heap_words olds.0 s
  old_is = olds.2 ∙ ap (heap_words olds.0) is

  new_is : words ≡ replica_words (scanned_on s n c)
  new_is = are ∙ ap replica_words (sym same)

  opened : IsOpened s c
  opened = subst (λ (o : Option Collection). IfSome o (IsOpened s)) first is_open

  goes : Goes s c (watch_of t)
  goes = subst (λ o. GoesBeside s o (watch_of t)) first f.goes

  knows : Knows s c t
  knows = subst (λ o. Knows s (open_or_fresh s o) t) first f.knows

  pub follows_run : (t.lost ≡ false → CanPlaceAll old words t → mid.lost ≡ false) → (mid.lost ≡ false → PlacedAll old words t mid)
      → (mid.lost ≡ false → CanLookAll old words c.scan_place c.scan_field d.scan_place d.scan_field mid → after.lost ≡ false)
      → (after.lost ≡ false → LookedAll old words c.scan_place c.scan_field d.scan_place d.scan_field mid after) → Follows s' after
  follows_run stays placed stays' looked =
      let found : mid.lost ≡ false = stays f.found (reread (λ o w. CanPlaceAll o w t) (sym old_is) (sym new_is) (run_placed s c n t olds.0 heap opened goes knows)) in
      let told : PlacedAll (heap_words olds.0 s) (replica_words (scanned_on s n c)) t mid = reread (λ o w. PlacedAll o w t mid) old_is new_is (placed found) in
      let can = reread (λ o w. CanLookAll o w c.scan_place c.scan_field (scanned_on s n c).scan_place (scanned_on s n c).scan_field mid) (sym old_is) (sym new_is) (run_looked s c n t olds.0 heap opened goes knows mid told) in
      let lost : after.lost ≡ false = stays' found (subst (λ (x : Collection). CanLookAll old words c.scan_place c.scan_field x.scan_place x.scan_field mid) same can) in
      let seen = subst (λ (x : Collection). LookedAll old words c.scan_place c.scan_field x.scan_place x.scan_field mid after) (sym same) (looked lost) in
      let both = run_followed s c n t olds.0 heap opened goes knows mid told after (reread (λ o w. LookedAll o w c.scan_place c.scan_field (scanned_on s n c).scan_place (scanned_on s n c).scan_field mid after) old_is new_is seen) in
      on_with s s' (scanned_on s n c) after is lost both.0 both.1
