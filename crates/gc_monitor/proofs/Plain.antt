-- Nil and numbers stand for themselves alone.
use Rattle.std.proofs.lemmas.Grind.{common_steps}
use Rattle.std.proofs.lemmas.Bool.{cases_eq, eq-eqb, ne_eqb}
use Rattle.std.proofs.Common.{◌≡◌, ℕ, ◌%◌, ◌==◌, List, arith}
use Rattle.gc_words.specs.Word.{words_correspond}

pub nil_alone : (pairs : List (ℕ × ℕ)) (word other : ℕ) → word ≡ 0 → words_correspond pairs word other ≡ (word == other)
nil_alone pairs word other is = grind (arith, common_steps, cases_eq, ne_eqb)

pub number_alone : (pairs : List (ℕ × ℕ)) (word other : ℕ) → word % 2 ≡ 1 → words_correspond pairs word other ≡ (word == other)
number_alone pairs word other odd = grind (arith, common_steps, cases_eq, ne_eqb, eq-eqb)
