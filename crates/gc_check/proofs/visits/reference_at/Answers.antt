-- A reference that is read from a word is the one that the list of references has there.
use Rattle.std.proofs.Common.{Some, ◌∙◌, sym, ap}
use Rattle.gc_check.proofs.Breadth.{reference_word}
use Rattle.gc_check.proofs.visits.reference_at.Goals as goal

pub returns : goal.returns
returns c = λ a low.
    let there = reference_word c.args.words.now c.args.i 0 c.requires in
    ((λ e. there ∙ ap Some ((c.reference_in.ensures a low).0 e)), (λ e. (c.reference_in.ensures a low).1 (let same = sym there ∙ e in cc)))
