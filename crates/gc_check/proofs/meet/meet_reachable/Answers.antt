-- Each pair found is of two starts, and there are no more pairs than words, so the objects of all pairs have met at the end.
use Rattle.gc_check.proofs.ByAddress.{length_by_address}
use Rattle.std.proofs.lemmas.Grind.{common_steps}
use Rattle.std.proofs.Common.{rules, ◌≡◌, ◌<◌, length, true, sym, ◌∙◌, ap, subst, ℕ, ◌+◌, arith}
use Rattle.std.proofs.lemmas.List.{length-map}
use Rattle.gc_words.specs.Certificate.{BlocksCorrespond}
use Rattle.gc_words.specs.Image.{block_at}
use Rattle.gc_words.specs.Views.{addresses}
use Rattle.gc_check.specs.Pairs.{pair_at}
use Rattle.gc_check.specs.Internal.Meetings.{met_objects, MetTo, AlikeTo}
use Rattle.gc_check.specs.Verdict.{pairs_of}
use Rattle.gc_check.proofs.Meetings.{pair_is, taken_few}
use Rattle.gc_check.proofs.Forced.{objects_met}
use Rattle.gc_check.proofs.Alike.{objects_alike}
use Rattle.gc_check.proofs.meet.meet_reachable.Goals as goal

pub meet_objects-requires-clause-old_start : goal.meet_objects-requires-clause-old_start
meet_objects-requires-clause-old_start c = grind (arith, common_steps, pair_is, length-map)

pub meet_objects-requires-clause-new_start : goal.meet_objects-requires-clause-new_start
meet_objects-requires-clause-new_start c = grind (arith, common_steps, pair_is, length-map)

pub loop-done-preserved : goal.loop-done-preserved
loop-done-preserved c =
    let inside : c.loop-done.done < length c.loop-done.found.pairs.items = search rules in
    let is : pair_at (pairs_of c.loop-done.found.pairs.items) c.loop-done.done ≡ addresses c.index-pair.result.now = pair_is c.loop-done.found.pairs.items c.loop-done.done c.index-pair.result.now inside c.index-pair.ensures in
    let within : c.loop-done.done < length (pairs_of c.loop-done.found.pairs.items) = omega (arith, inside, length-map c.loop-done.found.pairs.items addresses) in
    let now : pairs_of c.meet_objects.new.found.pairs.items ≡ met_objects c.args.old.now c.args.new.now (pairs_of c.loop-done.found.pairs.items) (addresses c.index-pair.result.now) = c.meet_objects.ensures.pairs in
    record {
      held = c.meet_objects.ensures.held;
      met = subst (λ pairs. MetTo c.args.old.now c.args.new.now pairs (c.loop-done.done + 1)) (sym (now ∙ ap (met_objects c.args.old.now c.args.new.now (pairs_of c.loop-done.found.pairs.items)) (sym is)))
          (objects_met c.args.old.now c.args.new.now (pairs_of c.loop-done.found.pairs.items) c.loop-done.done within c.loop-done.invariant.met);
      alike = λ still.
          let parts : (c.meet_objects.result ≡ true) × (c.loop-done.alike ≡ true) = search rules in
          let pairs : pairs_of c.meet_objects.new.found.pairs.items ≡ met_objects c.args.old.now c.args.new.now (pairs_of c.loop-done.found.pairs.items) (pair_at (pairs_of c.loop-done.found.pairs.items) c.loop-done.done)
          = now ∙ ap (met_objects c.args.old.now c.args.new.now (pairs_of c.loop-done.found.pairs.items)) (sym is) in
          subst (λ pairs. AlikeTo c.args.old.now c.args.new.now pairs (c.loop-done.done + 1)) (sym pairs)
          (objects_alike c.args.old.now c.args.new.now (pairs_of c.loop-done.found.pairs.items) c.loop-done.done within (c.loop-done.invariant.alike parts.1)
          (subst (λ (p : ℕ × ℕ). BlocksCorrespond (met_objects c.args.old.now c.args.new.now (pairs_of c.loop-done.found.pairs.items) (pair_at (pairs_of c.loop-done.found.pairs.items) c.loop-done.done)) (block_at c.args.old.now.words p.0) (block_at c.args.new.now.words p.1)) (sym is)
          (subst (λ pairs. BlocksCorrespond pairs (block_at c.args.old.now.words (addresses c.index-pair.result.now).0) (block_at c.args.new.now.words (addresses c.index-pair.result.now).1)) pairs (c.meet_objects.ensures.alike parts.0))));
    }

pub returns-clause-met : goal.returns-clause-met
returns-clause-met c = grind (arith, common_steps, taken_few, length_by_address, length-map)

pub returns-clause-alike : goal.returns-clause-alike
returns-clause-alike c = λ alike. grind (arith, common_steps, taken_few, length_by_address, length-map)

pub returns-then-done-len-clause-alike : goal.returns-then-done-len-clause-alike
returns-then-done-len-clause-alike c = λ alike. grind (arith, common_steps, length-map)
