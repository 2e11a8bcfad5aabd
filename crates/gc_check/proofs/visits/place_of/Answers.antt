-- The word that refers to the address is the place, and if there is none, the node does not refer to it.
use Rattle.std.proofs.Common.{rules, ◌≡◌, ◌≤◌, length, Some, inl, inr, arith}
use Rattle.std.specs.Prelude.{slice_get}
use Rattle.std.proofs.lemmas.Bool.{cases_order}
use Rattle.gc_check.specs.Internal.Visits.{references}
use Rattle.gc_check.proofs.Breadth.{no_word}
use Rattle.gc_check.proofs.visits.place_of.Goals as goal

pub returns-then-is_reference : goal.returns-then-is_reference
returns-then-is_reference c = (c.words_of-words.ensures c.loop-i.i c.args.address).1 (c.is_reference.ensures.0 (search rules))

pub returns : goal.returns
returns c = λ i refers.
    let there : slice_get (references c.words_of-words.result.now) i ≡ Some (Some c.args.address) = (c.words_of-words.ensures i c.args.address).0 refers in
    let past : length c.words_of-words.result.now ≤ c.loop-i.i = search rules in
    elim (cases_order i c.loop-i.i) [
      | inl same ↦ no_word c.words_of-words.result.now i c.args.address (omega (arith, past, same)) there
      | inr (inl less) ↦ c.loop-i.invariant i less there
      | inr (inr more) ↦ no_word c.words_of-words.result.now i c.args.address (omega (arith, past, more)) there
    ]
