-- Nothing due, and the scan pointer at the end.
use Rattle.std.proofs.Common.{◌≡◌, ◌&&◌, ◌<◌, ◌≤◌, false, ap, ◌∙◌, arith}
use Rattle.std.proofs.lemmas.Bool.{leb-true, leb-false, ne_eqb}
use Rattle.gc_words.specs.Space.{end_of}
use Rattle.gc_model.specs.State.{new_end}
use Rattle.gc_model.specs.Steps.{is_empty, scan_done}
use Rattle.gc_concurrent.specs.Ends.{its}
use Rattle.gc_concurrent.proofs.Memory.{end_is, scan_end}
use Rattle.gc_concurrent.proofs.InHand.{mem, and_false}
use Rattle.gc_concurrent.proofs.copier.Copier.is_idle.Goals as goal

pub returns-clause-idle : goal.returns-clause-idle
returns-clause-idle c past =
    let a = c.args.self.now in
    let end : c.end.result ≤ a.scan_place = leb-true c.end.result a.scan_place past in (
      c.has_nothing_due.ensures.none c.if-not-has_nothing_due.false,
      scan_end a.seat.me.0.theirs a.space (mem a) a.loose (let e = a.scans.0 in omega (arith, c.end.ensures.value)),
    )

pub returns-then-not-has_nothing_due-clause-busy : goal.returns-then-not-has_nothing_due-clause-busy
returns-then-not-has_nothing_due-clause-busy c _ =
    let t = c.args.self.now.seat.me.0.theirs in
    ap (λ (b : _). b && scan_done (its t)) (c.has_nothing_due.ensures.some c.if-not-has_nothing_due.true)

pub returns-clause-busy : goal.returns-clause-busy
returns-clause-busy c past =
    let a = c.args.self.now in
    let t = a.seat.me.0.theirs in
    let less : a.scan_place < c.end.result = leb-false c.end.result a.scan_place past in
    let end : new_end (its t) ≡ end_of a.space = end_is t a.space (mem a) in
    let left : scan_done (its t) ≡ false = ne_eqb t.scan_place (new_end (its t)) (λ e. let s = a.scans.0 in absurd (omega (arith, c.end.ensures.value))) in
    ap (λ b. is_empty t.due && b) left ∙ and_false (is_empty t.due)
