-- A root below the front loses its mark, or the front passes a root without one.
use Rattle.std.proofs.Common.{◌≡◌, ◌≢◌, ◌+◌, ◌<◌, ℕ, List, ap, sym, subst, true, false, arith}
use Rattle.std.proofs.lemmas.List.{length-set}
use Rattle.gc_words.specs.Marks.{is_marked}
use Rattle.gc_roots.specs.Twins.{RootRow, is_due_root, marks_below}
use Rattle.gc_roots.proofs.Counted.{due_is_marked, front_passes, one_mark_less}
use Rattle.gc_roots.proofs.root_twins.RootTwins.looked.Goals as goal

-- the root that was due is marked no more
one_less : (row now : RootRow) (marks : List ℕ) (k : ℕ) → row ≡ now → is_due_root now k ≡ true → k < row.front → ((i : ℕ) → i ≢ k → is_marked marks i ≡ is_marked row.marks i) → is_marked marks k ≡ false
    → marks_below row.marks row.front ≡ marks_below marks row.front + 1
one_less row now marks k same due less others none = one_mark_less row.marks marks k row.front others (due_is_marked row k less (subst (λ (r : RootRow). is_due_root r k ≡ true) (sym same) due)) none less

pub overflow_sub-self : goal.overflow_sub-self
overflow_sub-self c =
    let row = c.self.inside in
    let fewer = one_less (record { twins = row.twins.items; marks = row.due; front = row.front; used = row.used; stale = row.stale }) c.args.self.now c.unmark.new.self c.args.k c.self.view_is c.requires.due c.if-k-self.true
    c.unmark.ensures.others c.unmark.ensures.unmarked in
    grind (arith, fewer, c.self.invariant)

pub invariant_of-self : goal.invariant_of-self
invariant_of-self c =
    let row = c.self.inside in
    let marks = row.due in
    let fewer = one_less (record { twins = row.twins.items; marks = marks; front = row.front; used = row.used; stale = row.stale }) c.args.self.now c.unmark.new.self c.args.k c.self.view_is c.requires.due c.if-k-self.true
    c.unmark.ensures.others c.unmark.ensures.unmarked in
    let long = length-set row.twins.items (c.args.slots + c.args.k) c.args.word in
    grind (arith, fewer, long, c.self.invariant, c.unmark.ensures.len)

pub invariant_of-self-else-k-self : goal.invariant_of-self-else-k-self
invariant_of-self-else-k-self c =
    let row = c.self.inside in
    let front = ap (λ (r : RootRow). r.front) c.self.view_is in
    let here : row.front ≡ c.args.k = omega (arith, front, c.requires.low, c.if-k-self.false) in
    let passes = front_passes row.due c.unmark.new.self c.args.k c.unmark.ensures.others c.unmark.ensures.unmarked in
    let below : marks_below row.due row.front ≡ marks_below row.due c.args.k = ap (marks_below row.due) here in
    let long = length-set row.twins.items (c.args.slots + c.args.k) c.args.word in
    let within = c.requires.within in
    let view = ap (λ (r : RootRow). r.twins) c.self.view_is in
    grind (arith, passes, below, long, within, view, c.self.invariant, c.unmark.ensures.len)
