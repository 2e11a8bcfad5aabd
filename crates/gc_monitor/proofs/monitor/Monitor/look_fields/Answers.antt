-- All these fields are due and stand for their originals', so they are settled at once.
use Rattle.std.proofs.Common.{◌≡◌, ℕ, ◌+◌, ◌-◌, length, false, IsTrue, ap, sym, subst, ◌∙◌, arith}
use Rattle.std.specs.Prelude.{slice_index}
use Rattle.gc_words.specs.Word.{field_words_correspond}
use Rattle.gc_words.specs.Layout.{field_place}
use Rattle.gc_monitor.specs.Internal.Rows.{with_due_row}
use Rattle.gc_monitor.specs.Internal.Runs.{LooksTo}
use Rattle.gc_monitor.specs.Origins.{pairs_in}
use Rattle.gc_monitor.specs.Tables.{Tables}
use Rattle.gc_monitor.proofs.Runs.{looked_row, row_lost}
use Rattle.gc_monitor.proofs.monitor.Monitor.look_fields.Goals as goal

pub returns-then-settle-clause-looked : goal.returns-then-settle-clause-looked
returns-then-settle-clause-looked c = λ found.
    let t = c.args.self.now in
    let a = c.origin_at-original.result in
    let n = c.args.stop - c.args.first in
    let few : c.args.first + n ≡ c.args.stop = omega (arith, c.requires.more) in
    let last : c.field_index-last.result ≡ field_place c.args.at c.args.stop = c.field_index-last.ensures in
    let end : c.field_index.result ≡ field_place a c.args.stop = c.field_index.ensures in
    let from : c.field_index-from.result ≡ field_place a c.args.first = c.field_index-from.ensures in
    let place : c.field_index-place.result ≡ field_place c.args.at c.args.first = c.field_index-place.ensures in
    let count : c.from-count.result ≡ n = c.from-count.ensures in
    let view : length c.self.inside.news.codes ≡ length t.news = ap (λ (x : Tables). length x.news) c.self.view_is in
    let alike = c.are_alike.ensures c.if-are_alike.true in
    let row = looked_row c.args.old.now c.args.new.now c.args.header a c.args.at c.args.first n t c.requires.header (omega (arith, c.if-original-eq0.false)) (sym c.origin_at-original.ensures)
    (omega (arith, few, c.if-stop-len.false, c.len.ensures))
    (omega (arith, few, c.if-last-len.false, c.len-else-stop-len.ensures, last, view)) (omega (arith, few, c.if-field_index-old.false, end)) (omega (arith, few, c.if-last-new.false, last))
    (λ k less. subst (λ (q : ℕ × ℕ). IsTrue (field_words_correspond c.args.header (pairs_in t.origins) (slice_index c.args.old.now (q.0 + k)) (slice_index c.args.new.now (q.1 + k)))) (λ j. (from j, place j)) (alike k (omega (arith, less, count)))) in
    subst (LooksTo c.args.old.now c.args.new.now c.args.at c.args.first n t) (sym (c.settle.ensures.settled c.if-settle.true ∙ (λ j. with_due_row false t (place j) (count j)))) row

pub returns-then-settle-clause-stays : goal.returns-then-settle-clause-stays
returns-then-settle-clause-stays c = λ can. ap (λ (t : Tables). t.lost) (c.settle.ensures.settled c.if-settle.true) ∙ (row_lost false c.from-count.result c.field_index-place.result c.args.self.now ∙ c.requires.found)

pub returns-then-settle-clause-found : goal.returns-then-settle-clause-found
returns-then-settle-clause-found c = λ yes. ap (λ (t : Tables). t.lost) (c.settle.ensures.settled c.if-settle.true) ∙ (row_lost false c.from-count.result c.field_index-place.result c.args.self.now ∙ c.requires.found)
