-- A worked example of a report.
use Rattle.std.specs.Prelude.{◌≡◌, List, [], ◌∷◌, codes}
use Rattle.gc_graph.specs.Slots.{own_slot}
use Rattle.gc_graph.specs.declared.command.Op.TheVariants as ops
use Rattle.gc_model.specs.Runs.{answers, state_after}
use Rattle.gc_model.specs.declared.event.Event.{Event}
use Rattle.gc_model.specs.declared.event.Event.TheVariants.{Mutate, Collect}
use Rattle.gc_model.specs.State.{opening_state}
use Rattle.gc_model.specs.declared.step.Step.TheVariants as steps
use Rattle.gc_trace.specs.Report.{report_of, report_text}

-- one of two objects survives the collection, so that a third one fits
abbrev pub collect_when_full : List Event
collect_when_full = Mutate 0 (ops.New (own_slot 0) 1 2) ∷ Mutate 0 (ops.New (own_slot 0) 1 2) ∷ Mutate 0 (ops.New (own_slot 1) 0 0) ∷ Collect steps.Begin ∷ Collect steps.Roots ∷ Collect steps.Scan
    ∷ Collect steps.Scan ∷ Collect steps.Scan ∷ Collect steps.Scan ∷ Collect steps.Roots ∷ Collect steps.Flip ∷ Mutate 0 (ops.New (own_slot 1) 0 0) ∷ []

pub record ReportRows : Type 0 where
  pub collected : report_text (report_of (answers (opening_state 9 1) collect_when_full) (state_after (opening_state 9 1) collect_when_full))
      ≡ codes "events 12\nmade 3\nfull 1\nbegun 1\ncopied 1\nscanned 2\napplied 0\nflips 1\npairs 1\ndropped 0\nrefused 0\nend 7\nfree 2\n"
