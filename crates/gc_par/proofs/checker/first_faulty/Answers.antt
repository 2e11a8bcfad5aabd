-- The least of the numbers that the pairs give, in whatever order they come, is that of the first faulty pair.
use Rattle.std.proofs.Common.{◌≡◌, ◌-◌, ◌<◌, ℕ, ap, ◌∙◌, arith, subst, List, map}
use Rattle.std.specs.Ordering.{nat_cmp}
use Rattle.std.specs.List.{range_with_len}
use Rattle.std.proofs.lemmas.Slice.Zip.{AllZip-map}
use Rattle.rayon.specs.Numbers.{nat_range}
use Rattle.rayon.specs.Lists.{IsLeast}
use Rattle.rayon.proofs.ToStd.{nat_range-All}
use Rattle.gc_par.specs.Internal.Least.{fault_at, place_or}
use Rattle.gc_par.proofs.Least.{least_is_first}
use Rattle.gc_par.proofs.checker.first_faulty.Goals as goal

pub min-requires-clause-ready : goal.min-requires-clause-ready
min-requires-clause-ready g c κs within =
    let ends = c.into_par_iter.ensures in
    let inside = nat_range-All (λ i. i < c.args.count) 0 c.args.count (λ i low high. high) in
    rw (c.map.ensures.base, c.map.ensures.f, ends.0, ends.1) (λ k d lt. ((inside k d lt, c.requires), λ y p. tt))

pub returns : goal.returns
returns g c =
    let ends = c.into_par_iter.ensures in
    let n = c.args.count in
    let fault = fault_at c.args.tables.now in
    let whole : n - 0 ≡ n = omega arith in
    let done = c.min.ensures in
    let chain = rw (c.map.ensures.base, c.map.ensures.f) at done.1 in
    let places = chain.1 ∙ (λ i. nat_range (ends.0 i) (ends.1 i)) ∙ ap (range_with_len 0) whole in
    let list = AllZip-map (place_or n fault) chain.0 done.0 chain.2 ∙ ap (map (place_or n fault)) places in
    let least = subst (λ (l : List ℕ). IsLeast nat_cmp l c.min.result) list done.2 in
    rw c.unwrap_or.ensures (least_is_first fault n c.min.result least)
