-- A turn follows one more word of the node, and in the end all that the node refers to is visited.
use Rattle.std.proofs.Common.{rules, ◌≡◌, ◌≤◌, ap, sym, ◌∙◌, suc, subst}
use Rattle.gc_words.specs.Image.{graph_of}
use Rattle.gc_check.specs.Internal.Visits.{HasReferences, visit_at}
use Rattle.gc_check.specs.declared.visits.Visit.{Visit}
use Rattle.gc_check.proofs.Breadth.{read_visit, continue_on, one_more_word, all_words}
use Rattle.gc_check.proofs.visits.visit_references.Goals as goal

pub visit_word-requires-clause-words : goal.visit_word-requires-clause-words
visit_word-requires-clause-words c =
    let read : visit_at c.args.visits.now.list.items c.args.from ≡ c.index.result.now = read_visit c.args.visits.now.list.items c.args.from c.index.result.now c.requires.from c.index.ensures in
    subst (λ (v : Visit). HasReferences (graph_of c.args.starts.now) v.node c.words_of-words.result.now) (sym (c.loop-i.invariant.continues.same c.args.from c.requires.from ∙ read)) c.words_of-words.ensures

pub loop-i-preserved : goal.loop-i-preserved
loop-i-preserved c =
    let before = c.loop-i.visits.list.items in
    let after = c.visit_word.new.visits.list.items in
    let same : visit_at before c.args.from ≡ visit_at c.args.visits.now.list.items c.args.from = c.loop-i.invariant.continues.same c.args.from c.requires.from in
    record {
      held = c.visit_word.ensures.held;
      continues = continue_on c.args.visits.now.list.items before after c.loop-i.invariant.continues c.visit_word.ensures.continues;
      near = λ j h. subst (λ (v : Visit). (visit_at after j).depth ≤ suc v.depth) same (c.visit_word.ensures.near j h);
      visited = one_more_word c.args.starts.now c.args.visits.now.list.items before after c.args.from c.loop-i.i c.requires.from c.loop-i.invariant.continues c.visit_word.ensures.continues c.loop-i.invariant.visited c.visit_word.ensures.visited;
    }

pub returns-clause-visited : goal.returns-clause-visited
returns-clause-visited c =
    let list = c.loop-i.visits.list.items in
    let node : (visit_at list c.args.from).node ≡ c.index.result.now.node
    = ap (λ (v : Visit). v.node) (c.loop-i.invariant.continues.same c.args.from c.requires.from ∙ read_visit c.args.visits.now.list.items c.args.from c.index.result.now c.requires.from c.index.ensures) in
    all_words c.args.starts.now list c.args.from c.loop-i.i c.index.result.now.node c.words_of-words.result.now node c.words_of-words.ensures (search rules) c.loop-i.invariant.visited
