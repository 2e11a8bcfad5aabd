-- A turn takes the line of one more word, and where that stops, the rest of the words does.
use Rattle.std.proofs.Common.{◌≡◌, ◌∷◌, [], map, rules, arith, true, false, length-append}
use Rattle.std.specs.Fmt.{decimal}
use Rattle.std.specs.Result.{is_ok}
use Rattle.std.proofs.lemmas.Result.{err_from_is_err_and}
use Rattle.gc_graph.specs.Streams.{source_failed}
use Rattle.gc_graph.proofs.Public.{all_push}
use Rattle.gc_cert.specs.Grammar.{IsWord}
use Rattle.gc_cert.specs.Internal.Sections.{alone, AreAll, Spelled}
use Rattle.gc_cert.proofs.Forms.{alone_delimits, begins_with_one, push_taken}
use Rattle.gc_cert.proofs.LineForms.{word_form}
use Rattle.gc_cert.proofs.ReadPieces.{end_within, taken_on}
use Rattle.gc_cert.proofs.reader.take_words.Goals as goal

pub returns-in_err-word-clause-place : goal.returns-in_err-word-clause-place
returns-in_err-word-clause-place g c text p h =
    let fault = err_from_is_err_and c.from_residual.result c.from_residual.ensures.1 in
    let i = c.loop.invariant in
    let at = i.place text p h in
    rw (fault.1, fault.2) (end_within IsWord (alone decimal) (Spelled (AreAll IsWord c.args.count) (map decimal)) (map decimal c.loop.words.items) text p at.0 _ _ (alone_delimits IsWord decimal word_form)
    (begins_with_one IsWord decimal c.args.count c.loop.words.items (omega (arith, i.all.0, c.loop-test.true)) i.all.1) at.2 (c.in_err-word.ensures.place text at.0 at.1))

pub loop-preserved : goal.loop-preserved
loop-preserved g c =
    let i = c.loop.invariant in
    let words = c.loop.words.items in
    let word = c.in_ok-word.word in
    let pushed : is_ok c.push.result ≡ true = search rules in
    let items = rw pushed at c.push.ensures.items in
    let good : source_failed c.take.new.reader ≡ false = search rules in
    record {
      all = rw items (omega (arith, i.all.0, length-append words (word ∷ [])), all_push IsWord words word i.all.1 c.in_ok-word.ensures.fits);
      place = λ text p h.
          let next = taken_on i.place c.in_ok-word.ensures.place text p h in
          (next.0, next.1, rw items (push_taken decimal words word p next.0 next.2));
      limit = c.take.ensures.limit;
      good = good;
    }
