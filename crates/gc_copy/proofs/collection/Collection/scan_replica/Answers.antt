-- A turn makes the run one scan longer.
use Rattle.std.proofs.Common.{rules, ◌≡◌, ℕ, suc, ◌+◌, ◌<◌, true, false, is_some, ap, sym, ◌∙◌, subst, arith}
use Rattle.std.specs.Prelude.{◌^◌}
use Rattle.gc_words.specs.Image.{header_at, is_start}
use Rattle.gc_words.specs.Space.{end_of}
use Rattle.gc_words.specs.Spelling.{link_at}
use Rattle.gc_words.proofs.Public.{block_of_header}
use Rattle.gc_model.specs.State.{new_end}
use Rattle.gc_model.specs.Steps.{scan_done}
use Rattle.gc_model.specs.declared.step.Step.TheVariants.{Scan}
use Rattle.gc_model.specs.declared.step.StepReply.TheVariants.{Scanned, NoRoom}
use Rattle.gc_copy.specs.StepRuns.{IsScanRun, ScansOn}
use Rattle.gc_copy.specs.contracts.collection.Collection.{the_view}
use Rattle.gc_copy.specs.Words.{CollectionWords, IsCollection, BelongsTo, collection_in, open_state}
use Rattle.gc_copy.proofs.Scanning.{left_at_start, small, start}
use Rattle.gc_copy.proofs.StepRuns.{IsRepeating, repeats_last, repeats_longer}
use Rattle.gc_copy.proofs.Spaces.{new_end_is}
use Rattle.gc_copy.proofs.Starts.{still_start}
use Rattle.gc_copy.proofs.collection.Collection.scan_replica.Goals as goal
use Rattle.gc_copy.proofs.collection.Collection.scan_replica.Goals.{After-self, Else-end-until}

-- the collection belongs to the heap, and is not scanned to its end
scanning : (c : After-self) → IsCollection (the_view c.self.inside) × BelongsTo c.args.heap.now (the_view c.self.inside) × (scan_done (collection_in (the_view c.self.inside)) ≡ false)
scanning c = (c.self.invariant.0, subst (BelongsTo c.args.heap.now) (sym c.self.view_is) c.requires.belongs, ap (λ (y : CollectionWords). scan_done (collection_in y)) c.self.view_is ∙ c.requires.left)

pub header-header-requires : goal.header-header-requires
header-header-requires c = start c.args.heap.now _ (scanning (goal.at.header-header-requires c).After-self)

pub overflow_cast-original : goal.overflow_cast-original
overflow_cast-original c =
    let fits : c.link.result < 2 ^ 32 = subst (λ n. n < 2 ^ 32) (sym c.link.ensures) (small c.args.heap.now _ (scanning (goal.at.overflow_cast-original c).After-self)) in
    search rules

-- one scan more
one_more : (n : ℕ) → suc n ≡ n + 1
one_more n = omega arith

pub returns-in_default-clause-run : goal.returns-in_default-clause-run
returns-in_default-clause-run c =
    subst (λ n. IsScanRun c.args.until n (open_state c.args.heap.now c.args.self.now) (open_state c.scan_next.new.heap c.scan_next.new.self) NoRoom) (one_more c.loop-original.steps)
    (repeats_last Scan (ScansOn c.args.until) (open_state c.args.heap.now c.args.self.now) (open_state c.loop-original.heap c.loop-original.self) (open_state c.scan_next.new.heap c.scan_next.new.self) c.loop-original.steps NoRoom c.loop-original.invariant.0 c.in_default.ensures.full)

pub returns-then-steps-most-clause-run : goal.returns-then-steps-most-clause-run
returns-then-steps-most-clause-run c =
    subst (λ n. IsScanRun c.args.until n (open_state c.args.heap.now c.args.self.now) (open_state c.scan_next.new.heap c.scan_next.new.self) Scanned) (one_more c.loop-original.steps)
    (repeats_last Scan (ScansOn c.args.until) (open_state c.args.heap.now c.args.self.now) (open_state c.loop-original.heap c.loop-original.self) (open_state c.scan_next.new.heap c.scan_next.new.self) c.loop-original.steps Scanned c.loop-original.invariant.0 c.in-Ok.ensures.scanned)

module _ (c : Else-end-until) where
  -- the replica at the scan pointer starts there
  start_before : is_start c.loop-original.self.space.words c.loop-original.self.scan_place ≡ true
  start_before = let b = block_of_header c.loop-original.self.space.words c.loop-original.self.scan_place c.header-header.result c.loop-original.invariant.5 in ap is_some b.1

  -- and still does
  start_after : is_start c.scan_next.new.self.space.words c.scan_next.new.self.scan_place ≡ true
  start_after = subst (λ n. is_start c.scan_next.new.self.space.words n ≡ true) (sym c.in-Ok.ensures.place) (still_start c.loop-original.self.space c.scan_next.new.self.space _ c.in-Ok.ensures.starts start_before)

  -- so something is left to scan, and the new space ends before the bound
  scans_on : ScansOn c.args.until (open_state c.scan_next.new.heap c.scan_next.new.self)
  scans_on =
      let is = subst IsCollection c.self-in-loop-original-2.view_is c.self-in-loop-original-2.invariant.0 in
      let end : c.end.result ≡ new_end (collection_in c.scan_next.new.self) = c.end.ensures.value ∙ ap (λ (y : CollectionWords). end_of y.space) c.self-in-loop-original-2.view_is ∙ sym (new_end_is c.scan_next.new.self is.space) in
      (left_at_start c.scan_next.new.self is start_after, subst (λ n. n < c.args.until) end c.if-end-until.false)

pub loop-original-preserved : goal.loop-original-preserved
loop-original-preserved c =
    let at = (goal.at.loop-original-preserved c).Else-end-until in (
      subst (λ n. IsRepeating Scan (ScansOn c.args.until) n (open_state c.args.heap.now c.args.self.now) (open_state c.scan_next.new.heap c.scan_next.new.self)) (one_more c.loop-original.steps)
          (repeats_longer Scan (ScansOn c.args.until) (open_state c.args.heap.now c.args.self.now) (open_state c.loop-original.heap c.loop-original.self) (open_state c.scan_next.new.heap c.scan_next.new.self) c.loop-original.steps Scanned c.loop-original.invariant.0
          c.in-Ok.ensures.scanned (λ no. cc) (scans_on at)),
      omega (arith, c.if-steps-most.false, c.loop-original.invariant.1),
      c.in-Ok.ensures.belongs,
      c.in-Ok.ensures.epoch ∙ c.loop-original.invariant.3,
      c.in-Ok.ensures.mutators ∙ c.loop-original.invariant.4,
      ap (header_at c.scan_next.new.self.space.words) c.in-Ok.ensures.place ∙ c.in-Ok.ensures.starts.headers _ (start_before at) ∙ c.loop-original.invariant.5,
      ap (link_at c.scan_next.new.self.space.words) c.in-Ok.ensures.place ∙ c.in-Ok.ensures.starts.links _ (start_before at) ∙ c.loop-original.invariant.6,
    )

pub returns-clause-belongs : goal.returns-clause-belongs
returns-clause-belongs c = c.pass.ensures.belongs c.loop-original.heap c.loop-original.invariant.2
