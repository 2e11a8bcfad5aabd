-- A turn takes the line of one more pair, and where that stops, the rest of the pairs does.
use Rattle.std.proofs.Common.{◌≡◌, ◌∷◌, ◌++◌, [], map, rules, arith, true, false, length-append, ap, ◌∙◌}
use Rattle.std.specs.Result.{is_ok}
use Rattle.std.proofs.lemmas.List.{map-append}
use Rattle.std.proofs.lemmas.Result.{err_from_is_err_and}
use Rattle.gc_graph.specs.Streams.{source_failed}
use Rattle.gc_graph.proofs.Public.{all_push}
use Rattle.gc_words.specs.Views.{addresses}
use Rattle.gc_cert.specs.Grammar.{pair_line, AreAddresses}
use Rattle.gc_cert.specs.Internal.Sections.{alone, AreAll, Spelled}
use Rattle.gc_cert.proofs.Forms.{alone_delimits, begins_with_one, push_taken}
use Rattle.gc_cert.proofs.LineForms.{pair_form}
use Rattle.gc_cert.proofs.ReadPieces.{end_within, taken_on}
use Rattle.gc_cert.proofs.reader.take_pairs.Goals as goal

pub take-requires-clause-some : goal.take-requires-clause-some
take-requires-clause-some g c = ((0, 0), (omega arith, omega arith))

pub returns-in_err-pair-clause-place : goal.returns-in_err-pair-clause-place
returns-in_err-pair-clause-place g c text p h =
    let fault = err_from_is_err_and c.from_residual.result c.from_residual.ensures.1 in
    let i = c.loop.invariant in
    let at = i.place text p h in
    let pairs = map addresses c.loop.pairs.items in
    rw (fault.1, fault.2) (end_within AreAddresses (alone pair_line) (Spelled (AreAll AreAddresses c.args.count) (map pair_line)) (map pair_line pairs) text p at.0 _ _ (alone_delimits AreAddresses pair_line pair_form)
    (begins_with_one AreAddresses pair_line c.args.count pairs (omega (arith, i.all.0, c.loop-test.true)) i.all.1) at.2 (c.in_err-pair.ensures.place text at.0 at.1))

pub loop-preserved : goal.loop-preserved
loop-preserved g c =
    let i = c.loop.invariant in
    let pairs = map addresses c.loop.pairs.items in
    let pair = c.in_ok-pair.pair in
    let pushed : is_ok c.push.result ≡ true = search rules in
    let items = rw pushed at c.push.ensures.items in
    let all : map addresses c.push.new.self.items ≡ pairs ++ pair ∷ [] = ap (map addresses) items ∙ map-append addresses c.loop.pairs.items _ in
    let good : source_failed c.take.new.reader ≡ false = search rules in
    record {
      all = rw all (omega (arith, i.all.0, length-append pairs (pair ∷ [])), all_push AreAddresses pairs pair i.all.1 c.in_ok-pair.ensures.fits);
      place = λ text p h.
          let next = taken_on i.place c.in_ok-pair.ensures.place text p h in
          (next.0, next.1, rw all (push_taken pair_line pairs pair p next.0 next.2));
      limit = c.take.ensures.limit;
      good = good;
    }
