-- While an object is not visited, there are fewer visits than objects and one for the roots, so there is room for its visit.
use Rattle.std.proofs.lemmas.Grind.{common_steps}
use Rattle.std.proofs.Common.{rules, ◌≡◌, ◌++◌, ◌∷◌, [], length, set, true, suc, ◌≤◌, subst, sym, arith}
use Rattle.gc_words.specs.Image.{is_start}
use Rattle.gc_check.specs.Internal.Starts.{starts_from}
use Rattle.gc_check.specs.Internal.Visits.{HoldsVisits, visit_numbers}
use Rattle.gc_check.proofs.Breadth.{few_visits, visits_pushed, table_pushed, still_within}
use Rattle.gc_check.proofs.visits.visit_object.Goals as goal

pub overflow_cast-len : goal.overflow_cast-len
overflow_cast-len c = grind (arith, common_steps, few_visits)

pub push_reserved-requires : goal.push_reserved-requires
push_reserved-requires c = grind (arith, common_steps, few_visits)

pub returns-clause-held : goal.returns-clause-held
returns-clause-held c =
    let image = c.args.starts.now in
    let before = c.args.visits.now.list.items in
    let after = c.push_reserved.new.self.items in
    let start : is_start image.words c.args.address ≡ true = search rules in
    let pushed : after ≡ before ++ c.args.found ∷ [] = search rules in
    record {
      entries = c.set.ensures.entries;
      few = c.requires.held.few;
      list = visits_pushed image before after c.args.found pushed c.requires.held.list c.args.address start c.requires.from c.requires.node c.requires.depth c.requires.near c.requires.refers;
      table = subst (HoldsVisits image after) (sym c.set.ensures.number) (subst (λ n. HoldsVisits image after (set (visit_numbers image c.args.visits.now) c.args.address n)) (sym (search rules))
          (table_pushed image before after c.args.found pushed c.requires.held.list c.args.address start c.requires.from c.requires.node c.requires.depth c.requires.near c.requires.refers
          (visit_numbers image c.args.visits.now) (search rules) (search rules) c.requires.held.table));
      room = subst (λ n. suc (starts_from image.words 0 (length image.words)) ≤ n) (sym (search rules)) c.requires.held.room;
    }

pub returns-clause-near : goal.returns-clause-near
returns-clause-near c = grind (arith, common_steps, still_within)
