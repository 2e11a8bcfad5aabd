-- The fields take their values by places, and the slot takes the last number.
use Rattle.std.proofs.Common.{◌≡◌, None, sym, ap, ◌∙◌, arith}
use Rattle.std.proofs.lemmas.List.{take_all}
use Rattle.gc_graph.specs.Slots.{place}
use Rattle.gc_collected.specs.Giving.{new_given_step}
use Rattle.gc_collected.specs.Internal.Sources.{last_number_of, sources_by_place}
use Rattle.gc_collected.proofs.Sources.{keeping, keeps_number, made_mixed, none_mixed}
use Rattle.gc_collected.proofs.collected_heap.CollectedHeap.new_with.Goals as goal
use Rattle.gc_collected.proofs.collected_heap.CollectedHeap.new_with.Goals.{After-last_number, In_ok-made}

-- the call by places
by_places : (g : _) (c : In_ok-made g) → new_given_step c.args.self.now.core c.args.m (place c.args.d c.args.m) c.args.kind (sources_by_place c.args.m (place c.args.t c.args.m) None (g.R.SourceRow.sources c.args.fields.now)) ≡ (c.in_ok-made.made, c.new_given.new.self.core)
by_places g c =
    (λ k. new_given_step c.args.self.now.core c.args.m (sym c.place-2.ensures.value k) c.args.kind (sources_by_place c.args.m (sym c.place.ensures.value k) None (g.R.SourceRow.sources c.args.fields.now)))
    ∙ c.in_ok-made.ensures.step

-- the last number of all fields
last : (g : _) (c : After-last_number g) → last_number_of None (g.R.SourceRow.sources c.args.fields.now) ≡ c.last_number.result
last g c = let all = g.R.SourceRow.sources c.args.fields.now in sym (c.last_number.ensures ∙ ap (last_number_of None) (take_all c.count.result all (omega (arith, c.count.ensures))))

pub returns-in-Full-clause-step : goal.returns-in-Full-clause-step
returns-in-Full-clause-step g c =
    none_mixed c.args.m c.args.d c.args.t c.requires.apart c.args.self.now.core c.new_given.new.self.core c.args.kind (g.R.SourceRow.sources c.args.fields.now) c.in_ok-made.made (by_places g (goal.at.returns-in-Full-clause-step g c).In_ok-made) c.in-Full.is

pub returns-in_default-last_number-clause-step : goal.returns-in_default-last_number-clause-step
returns-in_default-last_number-clause-step g c =
    let mid = c.new_given.new.self.core in
    let none = last g (goal.at.returns-in_default-last_number-clause-step g c).After-last_number ∙ c.in_default-last_number.is in
    made_mixed c.args.m c.args.d c.args.t c.requires.apart c.args.self.now.core mid mid c.args.kind (g.R.SourceRow.sources c.args.fields.now) c.in_ok-made.made
    (omega (arith, c.place-2.ensures.value, c.place-2.ensures.bound, c.root_places.ensures.count, c.root_places.ensures.slots, c.requires.mutator))
    (omega (arith, c.place.ensures.value, c.place.ensures.bound, c.root_places.ensures.count, c.root_places.ensures.slots, c.requires.mutator))
    (by_places g (goal.at.returns-in_default-last_number-clause-step g c).In_ok-made) c.in_default.not-Full (ap (keeping mid (place c.args.t c.args.m)) none)

pub returns-clause-step : goal.returns-clause-step
returns-clause-step g c =
    let mid = c.new_given.new.self.core in
    let some = last g (goal.at.returns-clause-step g c).After-last_number ∙ c.in-Some.is in
    made_mixed c.args.m c.args.d c.args.t c.requires.apart c.args.self.now.core mid c.num-set.new.self.core c.args.kind (g.R.SourceRow.sources c.args.fields.now) c.in_ok-made.made
    (omega (arith, c.place-2.ensures.value, c.place-2.ensures.bound, c.root_places.ensures.count, c.root_places.ensures.slots, c.requires.mutator))
    (omega (arith, c.place.ensures.value, c.place.ensures.bound, c.root_places.ensures.count, c.root_places.ensures.slots, c.requires.mutator))
    (by_places g (goal.at.returns-clause-step g c).In_ok-made) c.in_default.not-Full
    (keeps_number mid c.num-set.new.self.core c.args.m c.in-Some.n c.args.t c.num-set.result _ some c.num-set.ensures.step)
