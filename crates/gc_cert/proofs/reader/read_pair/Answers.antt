-- A fault of the first bytes is one that reading this text may have, and after `TooLarge` one byte more than the limit was read.
use Rattle.std.proofs.Common.{◌≡◌, ◌+◌, Some, rules, refl, drop, MatchResult}
use Rattle.std.proofs.lemmas.Result.{err_from_is_err_and}
use Rattle.gc_graph.specs.Streams.{bytes_left}
use Rattle.gc_cert.specs.Faults.{limit, IsReadAsPair, MayFail}
use Rattle.gc_cert.specs.Views.{pair_in}
use Rattle.gc_text.proofs.Public.{if_known}
use Rattle.gc_cert.proofs.ReadPieces.{cannot_read, unread_text}
use Rattle.gc_cert.proofs.reader.read_pair.Goals as goal

pub returns-in_err-lines-clause-exact : goal.returns-in_err-lines-clause-exact
returns-in_err-lines-clause-exact g c = if_known {P = λ text. MatchResult c.from_residual.result (λ file. IsReadAsPair (pair_in file) text) (λ fault. MayFail fault text)} _ (λ text is.
    let fault = err_from_is_err_and c.from_residual.result c.from_residual.ensures.1 in
    rw (fault.1, fault.2) (unread_text text _ _ (cannot_read _ limit text _ refl (c.in_err-lines.ensures.place text is))).0)

pub returns-in_err-lines-clause-stops : goal.returns-in_err-lines-clause-stops
returns-in_err-lines-clause-stops g c large = if_known {P = λ text. bytes_left g.R.Read.remaining c.open.new.reader ≡ Some (drop (limit + 1) text)} _ (λ text is.
    (unread_text text _ _ (cannot_read _ limit text _ refl (c.in_err-lines.ensures.place text is))).1 (search rules))

pub returns-clause-stops : goal.returns-clause-stops
returns-clause-stops g c large = if_known {P = λ text. bytes_left g.R.Read.remaining c.take_pair_file.new.reader ≡ Some (drop (limit + 1) text)} _ (λ text is.
    (rw large at c.take_pair_file.ensures.exact text (c.in_ok-lines.ensures.place text is)).1 refl)
