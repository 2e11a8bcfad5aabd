-- A scan may follow those that were performed, and the replica at the scan pointer is the same.
use Rattle.std.proofs.Common.{◌≡◌, ◌<◌, ◌-◌, Some}
use Rattle.gc_words.specs.Image.{header_at}
use Rattle.gc_words.specs.Spelling.{link_at}
use Rattle.gc_copy.specs.Words.{open_state, BelongsTo}
use Rattle.gc_model.specs.declared.step.Step.TheVariants.{Scan}
use Rattle.gc_copy.specs.StepRuns.{ScansOn}
use Rattle.gc_copy.proofs.StepRuns.{IsRepeating}
use Rattle.gc_copy.proofs.collection.Collection.scan_replica.Given as goal

-- a scan may follow those that were performed, and the replica at the scan pointer is the same
abbrev pub invariant-loop-original : goal.invariant-loop-original
invariant-loop-original l = IsRepeating Scan (ScansOn l.until) l.steps (open_state l.fn.heap l.fn.self) (open_state l.heap l.self)
    × (l.steps < l.most)
    × BelongsTo l.heap l.self
    × (l.self.epoch ≡ l.fn.self.epoch)
    × (l.heap.mutators ≡ l.fn.heap.mutators)
    × (header_at l.self.space.words l.self.scan_place ≡ Some l.header)
    × (link_at l.self.space.words l.self.scan_place ≡ l.original.0)

abbrev pub decreases-loop-original : goal.decreases-loop-original
decreases-loop-original l = l.most - l.steps
