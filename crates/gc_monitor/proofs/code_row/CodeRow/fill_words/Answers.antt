-- A turn fills the rest of a word, or what is left.
use Rattle.std.proofs.Common.{refl, arith}
use Rattle.std.proofs.lemmas.Grind.{common_steps}
use Rattle.gc_monitor.proofs.Packed.{seen_length, all_filled}
use Rattle.gc_monitor.proofs.code_row.CodeRow.fill_words.Goals as goal

pub overflow_sub-from : goal.overflow_sub-from
overflow_sub-from c = omega (arith, seen_length _ _ _ _ c.self.view_is)

pub loop-from-init : goal.loop-from-init
loop-from-init c =
    let seen = seen_length _ _ _ _ c.self.view_is in
    record {
      len = refl;
      room = omega arith;
      low = omega arith;
      high = omega arith;
      filled = λ place low high. absurd (omega arith);
      others = λ place low. refl;
    }

pub set_in_word-requires-clause-within : goal.set_in_word-requires-clause-within
set_in_word-requires-clause-within c = grind (arith, common_steps, c.loop-from.invariant.len, seen_length _ _ _ _ c.self.view_is)

pub loop-from-smaller : goal.loop-from-smaller
loop-from-smaller c = grind (arith, common_steps, seen_length _ _ _ _ c.self.view_is)

pub returns-clause-codes : goal.returns-clause-codes
returns-clause-codes c =
    let seen = seen_length _ _ _ _ c.self.view_is in
    all_filled _ _ _ c.loop-from.invariant.len c.requires (λ place low high. c.loop-from.invariant.filled place low (omega arith)) c.loop-from.invariant.others
