-- A text has one reading, so what holds of the pair that was read holds of each pair that the text spells.
use Rattle.gc_cert.specs.Views.{pair_in}
use Rattle.gc_check.specs.Texts.{OnYes, Promises}
use Rattle.gc_check.proofs.Texts.{each_reading}
use Rattle.gc_check.proofs.text.verdict_on_text.Goals as goal

pub returns-clause-asked : goal.returns-clause-asked
returns-clause-asked g c =
    each_reading c.texts_have_one_reading.ensures.value c.verdict_of.result (OnYes (g.C.Checks.says_yes c.args.checker.now)) (pair_in c.args.file.now) c.verdict_of.ensures.asked

pub returns-clause-promised : goal.returns-clause-promised
returns-clause-promised g c = each_reading c.texts_have_one_reading.ensures.value c.verdict_of.result Promises (pair_in c.args.file.now) c.verdict_of.ensures.promised
