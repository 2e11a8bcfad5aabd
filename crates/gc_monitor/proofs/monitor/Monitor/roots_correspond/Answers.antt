-- Lists of roots that are equally long, and whose words correspond up to the place from which both have nils, correspond.
use Rattle.std.proofs.Common.{rules, ◌≡◌, get_or, true, refl, arith}
use Rattle.std.proofs.lemmas.List.{length-append}
use Rattle.std.proofs.lemmas.List.Elements.{AllZip-get_or}
use Rattle.std.proofs.lemmas.Grind.{common_steps}
use borrow.Author.Count.{below_more}
use Rattle.gc_words.specs.Word.{words_correspond}
use Rattle.gc_monitor.specs.Origins.{pairs_in}
use Rattle.gc_monitor.specs.Outline.{outline_in}
use Rattle.gc_monitor.proofs.Rows.{all_alike}
use Rattle.gc_monitor.proofs.monitor.Monitor.roots_correspond.Goals as goal

pub returns-then-not-is_correspondence : goal.returns-then-not-is_correspondence
returns-then-not-is_correspondence c = grind (arith, common_steps, length-append, AllZip-get_or)

pub loop-i-preserved : goal.loop-i-preserved
loop-i-preserved c = below_more (λ j. words_correspond (pairs_in c.args.self.now.origins) (get_or (outline_in c.args.old).roots j 0) (get_or (outline_in c.args.new).roots j 0) ≡ true) c.loop-i.i c.loop-i.invariant cc

pub returns : goal.returns
returns c = ((λ t. all_alike _ _ _ _ _ _ refl (search rules) (grind (arith, common_steps)) (grind (arith, common_steps)) (λ i l. c.loop-i.invariant i l)), (λ z. refl))
