-- The place behind the last has the code, and those behind it have code 0, with further words or without.
use Rattle.std.proofs.lemmas.Grind.{common_steps}
use Rattle.std.proofs.Common.{◌+◌, ◌-◌, ◌≤◌, ◌++◌, ◌∷◌, replicate, ◌∙◌, ap, arith}
use Rattle.std.specs.Prelude.{vec_len, vec_capacity}
use Rattle.gc_monitor.specs.Internal.InWords.{Codes, HasCodes, room_of}
use Rattle.gc_monitor.proofs.Packed.{seen_len, none_behind, added}
use Rattle.gc_monitor.proofs.code_row.CodeRow.add_behind.Goals as goal

pub overflow_add-len : goal.overflow_add-len
overflow_add-len c = grind (arith, common_steps, seen_len)

pub words_of-requires : goal.words_of-requires
words_of-requires c = omega (arith, seen_len _ _ _ _ _ c.self.view_is c.requires.room)

pub cover-requires : goal.cover-requires
cover-requires c = omega (arith, seen_len _ _ _ _ _ c.self.view_is c.requires.room)

pub with_first-requires-clause-none : goal.with_first-requires-clause-none
with_first-requires-clause-none c = grind (arith, common_steps, seen_len, none_behind)

pub invariant_of-self : goal.invariant_of-self
invariant_of-self c =
    let fits : c.self.inside.len + (c.args.more + 1) ≤ room_of (vec_capacity c.self.inside.words) = seen_len _ _ _ _ _ c.self.view_is c.requires.room in
    let has : HasCodes c.self.inside.words.items c.self.inside.len = c.self.invariant.0 in (
      (added _ _ _ _ c.args.code c.args.more (vec_len c.cover.new.words - vec_len c.self.inside.words) _ _ has c.cover.ensures.items (omega arith)
          (omega (arith, c.cover.ensures.some, c.cover.ensures.more, c.words_of.ensures, c.self.inside.words.ok.0)) (let few = c.cover.ensures.few (omega (arith, has.few, c.self.inside.words.ok.0)) in omega (arith, few, c.cover.ensures.more, c.self.inside.words.ok.0)) c.index.ensures c.with_first.ensures.here c.with_first.ensures.others).has,
      omega (arith, c.cover.ensures.capacity),
    )

pub returns-clause-codes : goal.returns-clause-codes
returns-clause-codes c =
    let fits : c.self.inside.len + (c.args.more + 1) ≤ room_of (vec_capacity c.self.inside.words) = seen_len _ _ _ _ _ c.self.view_is c.requires.room in
    let has : HasCodes c.self.inside.words.items c.self.inside.len = c.self.invariant.0 in
    (added _ _ _ _ c.args.code c.args.more (vec_len c.cover.new.words - vec_len c.self.inside.words) _ _ has c.cover.ensures.items (omega arith)
    (omega (arith, c.cover.ensures.some, c.cover.ensures.more, c.words_of.ensures, c.self.inside.words.ok.0)) (let few = c.cover.ensures.few (omega (arith, has.few, c.self.inside.words.ok.0)) in omega (arith, few, c.cover.ensures.more, c.self.inside.words.ok.0)) c.index.ensures c.with_first.ensures.here c.with_first.ensures.others).codes
    ∙ ap (λ (t : Codes). t.codes ++ c.args.code ∷ replicate c.args.more 0) c.self.view_is
