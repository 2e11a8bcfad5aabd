-- The place behind the last has the code, and those behind it have code 0; all of them have their words already.
use Rattle.std.proofs.Common.{◌+◌, ◌≤◌, ◌++◌, ◌∷◌, replicate, sym, ◌∙◌, ap, arith}
use Rattle.std.proofs.lemmas.List.{append-nil}
use Rattle.std.specs.Prelude.{vec_capacity}
use Rattle.gc_monitor.specs.Internal.InWords.{Codes, HasCodes, room_of}
use Rattle.gc_monitor.proofs.Packed.{seen_len, none_behind, added}
use Rattle.gc_monitor.proofs.code_row.CodeRow.add.Goals as goal

pub with_first-requires-clause-none : goal.with_first-requires-clause-none
with_first-requires-clause-none c =
    none_behind c.self.inside.words.items _ _ (c.self.inside.len + c.args.more + 1) 0 _ c.self.invariant.0 (sym (append-nil c.self.inside.words.items)) (omega arith)
    (omega (arith, c.if-len.false, c.self.inside.words.ok.0)) c.index.ensures

pub invariant_of-self : goal.invariant_of-self
invariant_of-self c =
    let fits : c.self.inside.len + (c.args.more + 1) ≤ room_of (vec_capacity c.self.inside.words) = seen_len _ _ _ _ _ c.self.view_is c.requires.room in
    let has : HasCodes c.self.inside.words.items c.self.inside.len = c.self.invariant.0 in (
      (added c.self.inside.words.items _ _ _ c.args.code c.args.more 0 _ _ has (sym (append-nil c.self.inside.words.items)) (omega arith)
          (omega (arith, c.if-len.false, c.self.inside.words.ok.0)) (omega (arith, has.few)) c.index.ensures c.with_first.ensures.here c.with_first.ensures.others).has,
      omega arith,
    )

pub returns-clause-codes : goal.returns-clause-codes
returns-clause-codes c =
    let has : HasCodes c.self.inside.words.items c.self.inside.len = c.self.invariant.0 in
    (added c.self.inside.words.items _ _ (c.self.inside.len + (c.args.more + 1)) c.args.code c.args.more 0 _ _ has (sym (append-nil c.self.inside.words.items)) (omega arith)
    (omega (arith, c.if-len.false, c.self.inside.words.ok.0)) (omega (arith, has.few)) c.index.ensures c.with_first.ensures.here c.with_first.ensures.others).codes
    ∙ ap (λ (t : Codes). t.codes ++ c.args.code ∷ replicate c.args.more 0) c.self.view_is
