-- Each turn lists one object's link and address, in order, and there are fewer pairs than words.
use Rattle.std.proofs.lemmas.List.{length-map}
use Rattle.std.proofs.lemmas.Grind.{common_steps}
use Rattle.std.proofs.Common.{rules, ◌≡◌, ℕ, ◌+◌, ◌<◌, ◌++◌, ◌∷◌, [], List, length, refl, sym, ◌∙◌, arith}
use Rattle.std.specs.Prelude.{Some}
use Rattle.std.specs.Result.{is_ok}
use Rattle.std.proofs.lemmas.Bool.{cond-true}
use Rattle.gc_words.specs.Image.{Block}
use Rattle.gc_words.specs.Walking.{next_of}
use Rattle.gc_words.specs.declared.image.Pair.{Pair}
use Rattle.gc_words.proofs.Public.{behind, has_next, some_of}
use Rattle.gc_copy.proofs.ObjectWalks.{Met, link_small, lists_more}
use Rattle.gc_copy.proofs.pairs.linked_pairs.Goals as goal

-- an object has a link
link_there : (words : List ℕ) (at : ℕ) (done : List (ℕ × Block)) → Met words at done → at < length words → at + 1 < length words
link_there words at done m less =
    let n = some_of (next_of words at) (has_next words at less m.walked) in
    let b = behind words at n.0 less m.walked n.1 in
    let place = b.step.place in let within = b.step.within in omega arith

pub bounds-words-at : goal.bounds-words-at
bounds-words-at c = link_there c.args.words.now c.loop-at.at c.loop-at.invariant.0 c.loop-at.invariant.1 c.loop-at-test.true

pub overflow_cast-pair : goal.overflow_cast-pair
overflow_cast-pair c = grind (arith, common_steps, link_small c.args.words.now c.loop-at.at c.loop-at.invariant.0 c.requires.links c.loop-at.invariant.1 c.loop-at-test.true)

pub loop-at-preserved : goal.loop-at-preserved
loop-at-preserved c =
    let words : List ℕ = c.args.words.now in
    let at : ℕ = c.loop-at.at in
    let pair : Pair = record { old = record { 0 = Rattle.std.specs.Prelude.slice_index words (at + 1) }; new = record { 0 = at } } in
    let more : c.push.new.self.items ≡ c.loop-at.pairs.items ++ pair ∷ [] = c.push.ensures.items ∙ cond-true (is_ok c.push.result) _ _ (search rules) in
    let next : next_of words at ≡ Some c.in-Some.next = sym c.next_in.ensures ∙ c.in-Some.is in
    lists_more words at c.in-Some.next c.loop-at.pairs.items c.push.new.self.items pair c.loop-at.invariant c.loop-at-test.true next refl more

pub returns-clause-few : goal.returns-clause-few
returns-clause-few c = grind (arith, common_steps, length-map)
