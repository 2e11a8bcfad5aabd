-- Each step back to an earlier visit puts one field before the others, so the fields in reverse are the path.
use Rattle.std.proofs.Common.{rules, ◌≡◌, ◌≤◌, ◌+◌, ◌++◌, ◌∷◌, [], length, reverse, Some, ap, sym, ◌∙◌, subst, arith}
use Rattle.std.proofs.lemmas.List.{length-reverse}
use Rattle.gc_graph.specs.Graph.{Ref, at_path}
use Rattle.gc_words.specs.Image.{graph_of}
use Rattle.gc_check.specs.Internal.Visits.{along, roots_visit, visit_at}
use Rattle.gc_check.specs.declared.visits.Visit.{Visit}
use Rattle.gc_check.proofs.Breadth.{one_back, depth_back, found_within, reversed}
use Rattle.gc_check.proofs.visits.path_back.Goals as goal

pub loop-at-preserved : goal.loop-at-preserved
loop-at-preserved c =
    let visits = c.args.visits.now in
    let v = visit_at visits c.loop-at.at in
    let low : 1 ≤ c.loop-at.at = search rules in
    let pushed : c.push.new.self.items ≡ c.loop-at.fields.items ++ c.loop-at.place ∷ [] = search rules in
    record {
      within = found_within c.requires.visits.0 visits c.loop-at.at low c.loop-at.invariant.within c.requires.visits.1;
      path = λ image address are refers.
          let before = c.loop-at.invariant.path image address are refers in (
            subst (λ fields. along (graph_of image) (visit_at visits v.from).node v.place (reverse fields) ≡ Some (Ref address)) (sym pushed)
                (one_back image visits c.loop-at.at c.loop-at.place address c.loop-at.fields.items low c.loop-at.invariant.within are before.0),
            subst (λ fields. length fields + (visit_at visits v.from).depth ≡ (visit_at visits c.args.reference.visit).depth) (sym pushed)
                (depth_back image visits c.loop-at.at c.loop-at.place (visit_at visits c.args.reference.visit).depth c.loop-at.fields.items low c.loop-at.invariant.within are before.1),
          );
    }

pub returns : goal.returns
returns c =
    let visits = c.args.visits.now in
    let items = reversed c.loop-at.fields.items c.reverse.new.self c.loop-at.fields.len (search rules) (search rules) in
    record {
      path = λ image address are refers.
          let before = c.loop-at.invariant.path image address are refers in
          let root : visit_at visits c.loop-at.at ≡ roots_visit = ap (visit_at visits) (search rules) ∙ are.roots in (
            ap (at_path (graph_of image) c.loop-at.place) items ∙ ap (λ (v : Visit). along (graph_of image) v.node c.loop-at.place (reverse c.loop-at.fields.items)) (sym root) ∙ before.0,
            ap length items ∙ length-reverse c.loop-at.fields.items ∙ (let none : (visit_at visits c.loop-at.at).depth ≡ 0 = ap (λ (v : Visit). v.depth) root in omega (arith, before.1, none)),
          );
    }
