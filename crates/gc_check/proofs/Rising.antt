-- Two places at a time, pairs are appended in the order of their new addresses.
use Rattle.std.proofs.lemmas.Grind.{common_steps}
use Rattle.std.proofs.Common.{◌≡◌, ℕ, ◌+◌, ◌*◌, List, drop, ◌∙◌, ap, arith}
use Rattle.std.specs.Prelude.{slice_index}
use Rattle.std.proofs.lemmas.Bool.{eq-eqb, cases_lt}
use Rattle.std.proofs.lemmas.List.{drop_all, drop_more}
use Rattle.std.proofs.lemmas.List.Sums.{sum_by-cons}
use Rattle.gc_check.specs.Internal.Meetings.{risen, taken_in}
use Rattle.gc_check.specs.Internal.Tables.{HasEntries, by_address}
use Rattle.gc_check.proofs.ByAddress.{zero_at}

-- the pairs from a place on are those from the next one on
pub record Passed (row : List ℕ) (place next : ℕ) : Type 0 where
  pub risen_is : risen place (drop place row) ≡ risen next (drop next row)
  pub taken_is : taken_in (drop place row) ≡ taken_in (drop next row)

passed : (row : List ℕ) (place : ℕ) → slice_index row place ≡ 0 → Passed row place (place + 1)
passed row place none = grind (arith, common_steps, cases_lt, drop_more, sum_by-cons, eq-eqb, drop_all)

-- an entry that is 0 has no pair at either place
pub both_passed : (words entries : List ℕ) (half : ℕ) → HasEntries words entries → slice_index entries half ≡ 0 → Passed (by_address words entries) (2 * half) (2 * (half + 1))
both_passed words entries half h none =
    let row : List ℕ = by_address words entries in
    let even : Passed row (2 * half) (2 * half + 1) = passed row (2 * half) (zero_at words entries (2 * half) half h (omega arith) none) in
    let odd : Passed row (2 * half + 1) (2 * half + 1 + 1) = passed row (2 * half + 1) (zero_at words entries (2 * half + 1) half h (omega arith) none) in
    record {
      risen_is = even.risen_is ∙ odd.risen_is ∙ ap (λ n. risen n (drop n row)) next_is;
      taken_is = even.taken_is ∙ odd.taken_is ∙ ap (λ n. taken_in (drop n row)) next_is;
    }
  where
    next_is : 2 * half + 1 + 1 ≡ 2 * (half + 1)
    next_is = omega arith
