-- The place behind the last has the code of a start, and its fields, which lie in one word, are due.
use Rattle.std.proofs.Common.{◌≡◌, inl, length, suc, ◌+◌, ◌/◌, ◌++◌, set, sym, ◌∙◌, ap, arith}
use Rattle.std.proofs.lemmas.List.{append-nil}
use Rattle.gc_monitor.specs.Events.{object_codes}
use Rattle.gc_monitor.specs.Internal.InWords.{Codes, codes_in}
use Rattle.gc_monitor.proofs.Packed.{IsAdded, added, length-codes, none_behind, object_filled, seen_len}
use Rattle.gc_monitor.proofs.code_row.CodeRow.add_due.Goals as goal
use Rattle.gc_monitor.proofs.code_row.CodeRow.add_due.Goals.{After-with_first}

-- the row with the start and zeros behind it
row : (c : After-with_first) → IsAdded c.self.inside.words.items (set c.self.inside.words.items (c.self.inside.len / 32) c.with_first.result) c.self.inside.len (c.self.inside.len + 2 + c.from-count.result) 1 (suc c.from-count.result)
row c =
    added c.self.inside.words.items _ _ _ 1 (suc c.from-count.result) 0 _ _ c.self.invariant.0 (sym (append-nil c.self.inside.words.items)) (omega arith)
    (omega (arith, c.if-first-len.false, c.if-first-count-gt-PER_WORD.false, c.len.ensures, c.self.inside.words.ok.0)) (omega (arith, c.self.invariant.0.few)) c.index.ensures c.with_first.ensures.here c.with_first.ensures.others

pub with_first-requires-clause-none : goal.with_first-requires-clause-none
with_first-requires-clause-none c =
    none_behind c.self.inside.words.items _ _ (c.self.inside.len + 2 + c.from-count.result) 0 _ c.self.invariant.0 (sym (append-nil c.self.inside.words.items)) (omega arith)
    (omega (arith, c.if-first-len.false, c.if-first-count-gt-PER_WORD.false, c.len.ensures, c.self.inside.words.ok.0)) c.index.ensures

pub invariant_of-self : goal.invariant_of-self
invariant_of-self c = ((row (goal.at.invariant_of-self c).After-with_first).has, omega (arith, seen_len _ _ _ _ _ c.self.view_is c.requires.room, c.from-count.ensures))

pub set_in_word-requires-clause-within : goal.set_in_word-requires-clause-within
set_in_word-requires-clause-within c = omega (arith, length-codes (set c.self.inside.words.items (c.self.inside.len / 32) c.with_first.result) (c.self.inside.len + 2 + c.from-count.result))

pub returns-clause-codes : goal.returns-clause-codes
returns-clause-codes c =
    let at : length (codes_in c.self.inside.words.items c.self.inside.len) ≡ c.self.inside.len = length-codes c.self.inside.words.items c.self.inside.len in
    object_filled _ _ _ c.from-count.result (row (goal.at.returns-clause-codes c).After-with_first).codes c.set_in_word.ensures.len
    (λ place low high. c.set_in_word.ensures.run place (omega (arith, low, at)) (omega (arith, high, at)))
    (λ place low. c.set_in_word.ensures.others place (inl (omega (arith, low, at))))
    ∙ ap (λ n. codes_in c.self.inside.words.items c.self.inside.len ++ object_codes n 3) c.from-count.ensures
    ∙ ap (λ (t : Codes). t.codes ++ object_codes c.args.fields 3) c.self.view_is
