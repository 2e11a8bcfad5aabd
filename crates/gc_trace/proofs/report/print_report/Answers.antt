-- Each count adds its line to the printed text, and all of them are the report's text.
use Rattle.std.proofs.Common.{refl, [], ◌∷◌, ◌++◌, ◌∙◌, ap, map, List, ℕ}
use Rattle.std.specs.List.{flat_map, zip}
use Rattle.std.specs.Fmt.{decimal}
use Rattle.gc_text.specs.Lines.{line}
use Rattle.gc_trace.specs.Report.{report_names, report_counts}
use Rattle.gc_trace.proofs.ReportLines.{◌⨾◌, Grows, grown}
use Rattle.gc_trace.proofs.report.print_report.Goals as goal

pub returns : goal.returns
returns c =
    let report = c.args.report.now in
    let lines = map (λ (p : List ℕ × ℕ). p.0 ∷ decimal p.1 ∷ []) (zip report_names (report_counts report ++ report.end ∷ report.free ∷ [])) in
    let grows : Grows c.args.printer.now lines c.print_count-13.new.printer =
    c.print_count.ensures.text ⨾ c.print_count-2.ensures.text ⨾ c.print_count-3.ensures.text ⨾ c.print_count-4.ensures.text ⨾ c.print_count-5.ensures.text
    ⨾ c.print_count-6.ensures.text ⨾ c.print_count-7.ensures.text ⨾ c.print_count-8.ensures.text ⨾ c.print_count-9.ensures.text ⨾ c.print_count-10.ensures.text
    ⨾ c.print_count-11.ensures.text ⨾ c.print_count-12.ensures.text ⨾ c.print_count-13.ensures.text ⨾ refl in
    grown c.args.printer.now lines c.print_count-13.new.printer grows ∙ ap (λ (t : List ℕ). t ++ flat_map line lines) c.requires
