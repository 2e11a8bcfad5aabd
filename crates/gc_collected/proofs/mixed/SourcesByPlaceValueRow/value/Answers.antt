-- A field takes the same by its place.
use Rattle.std.proofs.Common.{◌≡◌, None, get_or, take, sym, subst, ap, ◌∙◌, arith}
use Rattle.gc_collected.specs.Giving.{IsGiven}
use Rattle.gc_collected.specs.Internal.Sources.{last_number_of, slot_by_place, source_by_place, sources_by_place}
use Rattle.gc_collected.specs.declared.giving.FieldValue.{FieldValue}
use Rattle.gc_collected.proofs.Sources.{slot_given, source_at, sources_counted}
use Rattle.gc_collected.proofs.mixed.SourcesByPlaceValueRow.value.Goals as goal
use Rattle.gc_collected.proofs.mixed.SourcesByPlaceValueRow.value.Goals.{After-source}

pub source-requires-clause-inside : goal.source-requires-clause-inside
source-requires-clause-inside g c = let n = sources_counted (g.R.SourceRow.sources c.args.self.now.fields.now) c.args.self.now.m c.args.self.now.t None in omega (arith, n, c.requires.inside)

pub held-requires-clause-inside : goal.held-requires-clause-inside
held-requires-clause-inside g c = let n = sources_counted (g.R.SourceRow.sources c.args.self.now.fields.now) c.args.self.now.m c.args.self.now.t None in omega (arith, n, c.requires.inside)

-- what the field takes by its place
taken : (g : _) (c : After-source g) (value : FieldValue) → get_or (sources_by_place c.args.self.now.m c.args.self.now.t None (g.R.SourceRow.sources c.args.self.now.fields.now)) c.args.i value
    ≡ source_by_place c.args.self.now.m c.args.self.now.t (last_number_of None (take c.args.i (g.R.SourceRow.sources c.args.self.now.fields.now))) c.source.result
taken g c value =
    let row = c.args.self.now in
    let n = sources_counted (g.R.SourceRow.sources row.fields.now) row.m row.t None in
    source_at (g.R.SourceRow.sources row.fields.now) row.m row.t c.args.i None c.source.result value (omega (arith, n, c.requires.inside)) c.source.ensures

pub returns-in-Nil-clause-value : goal.returns-in-Nil-clause-value
returns-in-Nil-clause-value g c = sym (taken g (goal.at.returns-in-Nil-clause-value g c).After-source _ ∙ ap (source_by_place c.args.self.now.m c.args.self.now.t _) c.in-Nil.is)

pub returns-in-Number-clause-value : goal.returns-in-Number-clause-value
returns-in-Number-clause-value g c = sym (taken g (goal.at.returns-in-Number-clause-value g c).After-source _ ∙ ap (source_by_place c.args.self.now.m c.args.self.now.t _) c.in-Number.is)

pub returns-in-Slot-clause-value : goal.returns-in-Slot-clause-value
returns-in-Slot-clause-value g c =
    c.held.ensures ∙ ap (slot_by_place c.args.self.now.t _) c.place.ensures.value
    ∙ sym (taken g (goal.at.returns-in-Slot-clause-value g c).After-source _ ∙ ap (source_by_place c.args.self.now.m c.args.self.now.t _) c.in-Slot.is)

pub returns-in-Slot-clause-within : goal.returns-in-Slot-clause-within
returns-in-Slot-clause-within g c = λ roots row. subst (IsGiven roots) (sym c.held.ensures) (slot_given roots c.args.self.now.t c.place.result _ (omega (arith, c.place.ensures.bound, row.1)))
