-- A word that refers to an object is a reference of its node, so the object is visited, one deeper at most.
use Rattle.std.proofs.Common.{rules, ◌≡◌, ℕ, Some, None, true, arith, sym, ◌∙◌, ◌+◌, ap, subst, suc}
use Rattle.gc_words.specs.Image.{is_start, graph_of}
use Rattle.gc_check.specs.Internal.Visits.{RefersAt, Visited, visit_at}
use Rattle.gc_check.specs.declared.visits.Visit.{Visit}
use Rattle.gc_check.proofs.StartMarks.{start_within}
use Rattle.gc_check.proofs.Breadth.{read_visit}
use Rattle.gc_check.proofs.visits.visit_word.Goals as goal
use Rattle.gc_check.proofs.visits.visit_word.Goals.{After-reference_at}

-- an object's start to which the node refers by this word is read from the word
there : (c : After-reference_at) (a : ℕ) → RefersAt (graph_of c.args.starts.now) (visit_at c.args.visits.now.list.items c.args.from).node c.args.i a → is_start c.args.starts.now.words a ≡ true → c.reference_at.result ≡ Some a
there c a refers start = (c.reference_at.ensures a (omega (arith, start_within c.args.starts.now.words a c.requires.held.entries.walked start, c.requires.held.few))).1 ((c.requires.words c.args.i a).0 refers)

pub returns-in_default-clause-visited : goal.returns-in_default-clause-visited
returns-in_default-clause-visited c = λ a refers start.
    let none : c.reference_at.result ≡ None = search rules in
    absurd (let no : None ≡ Some a = sym none ∙ there (goal.at.returns-in_default-clause-visited c).After-reference_at a refers start in cc)

pub visit_object-requires-clause-refers : goal.visit_object-requires-clause-refers
visit_object-requires-clause-refers c = (c.requires.words c.args.i c.in-Some.address).1 ((c.reference_at.ensures c.in-Some.address (search rules)).0 c.in-Some.is)

pub returns-clause-visited : goal.returns-clause-visited
returns-clause-visited c = λ a refers start.
    let same : c.in-Some.address ≡ a = (let both : Some c.in-Some.address ≡ Some a = sym c.in-Some.is ∙ there (goal.at.returns-clause-visited c).After-reference_at a refers start in cc) in
    let list = c.args.visits.now.list.items in
    let read : (visit_at list c.args.from).depth ≡ c.index.result.now.depth = ap (λ (v : Visit). v.depth) (read_visit list c.args.from c.index.result.now c.requires.from c.index.ensures) in
    let deep : c.index.result.now.depth + 1 ≡ suc (visit_at list c.args.from).depth = omega (arith, read) in
    let visited : Visited c.visit_object.new.visits.list.items c.in-Some.address (c.index.result.now.depth + 1)
    = c.visit_object.ensures.visited (subst (λ a. is_start c.args.starts.now.words a ≡ true) (sym same) start) in
    subst (λ a. Visited c.visit_object.new.visits.list.items a (suc (visit_at list c.args.from).depth)) same (subst (Visited c.visit_object.new.visits.list.items c.in-Some.address) deep visited)
