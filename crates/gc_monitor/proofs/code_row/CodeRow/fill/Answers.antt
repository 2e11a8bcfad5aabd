-- Places that lie in one word are filled at once.
use Rattle.std.proofs.Common.{◌≡◌, inl, length, arith}
use Rattle.gc_monitor.proofs.Packed.{seen_length, all_filled}
use Rattle.gc_monitor.proofs.code_row.CodeRow.fill.Goals as goal

pub overflow_sub-from : goal.overflow_sub-from
overflow_sub-from c = omega (arith, seen_length _ _ _ _ c.self.view_is)

pub set_in_word-requires-clause-within : goal.set_in_word-requires-clause-within
set_in_word-requires-clause-within c = omega (arith, seen_length _ _ _ _ c.self.view_is)

pub returns-then-from-places-le-PER_WORD-clause-codes : goal.returns-then-from-places-le-PER_WORD-clause-codes
returns-then-from-places-le-PER_WORD-clause-codes c =
    let seen : length c.args.self.now.codes ≡ c.self.inside.len = seen_length _ _ _ _ c.self.view_is in
    all_filled _ _ _ c.set_in_word.ensures.len c.requires (λ place low high. c.set_in_word.ensures.run place (omega arith) (omega arith)) (λ place low. c.set_in_word.ensures.others place (inl (omega arith)))
