-- An even word is a reference if a replica starts at its half. Half an odd word would be no address.
use Rattle.std.proofs.lemmas.Grind.{common_steps}
use Rattle.std.proofs.lemmas.Bool.{eqb-true}
use Rattle.std.specs.Prelude.{slice_index_or, ◌==◌}
use Rattle.std.proofs.Common.{◌≡◌, ◌/◌, ◌%◌, ◌<◌, ◌≤◌, sym, ap, ◌∙◌, arith}
use Rattle.gc_monitor.specs.Tables.{Tables}
use Rattle.gc_monitor.proofs.monitor.Monitor.refers_to_replica.Goals as goal

pub returns : goal.returns
returns c = λ same.
    let is : c.get.result ≡ c.args.original.0 = eqb-true c.get.result c.args.original.0 same in
    let within = c.get.ensures.place (omega (arith, is, c.requires)) in
    let high : c.half_of.result < 4294967295 = within.1 in
    let even : c.args.word % 2 ≡ 0 = omega (arith, high, c.half_of.ensures) in
    let half : c.half_of.result ≡ c.args.word / 2 = omega (arith, even, c.half_of.ensures) in
    let few : c.args.word / 2 < 4294967295 = omega (arith, high, half) in
    let some : 1 ≤ c.args.word / 2 = omega (arith, within.0, half) in (
      c.args.word / 2,
      grind (arith, common_steps, few, some, even),
      c.origins_tell_pairs.ensures.paired c.args.self.now.origins c.args.original.0 (c.args.word / 2) c.requires ∙ (ap (λ n. n == c.args.original.0) (sym (c.get.ensures.origin ∙ ap (λ (t : Tables). slice_index_or t.origins c.half_of.result 0) c.self.view_is ∙ ap (λ n. slice_index_or c.args.self.now.origins n 0) half)) ∙ same),
    )
