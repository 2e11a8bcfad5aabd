-- The heap takes the words alone; the fields are logged together, and then the monitor is told of all of them.
use Rattle.std.proofs.Common.{◌≡◌, ℕ, List, Some, None, subst, sym, arith}
use Rattle.std.specs.Prelude.{IfSome, Option}
use Rattle.std.proofs.lemmas.List.{length-map}
use Rattle.gc_graph.specs.Graph.{Value}
use Rattle.gc_words.specs.Word.{field_value, value_of}
use Rattle.gc_model.specs.Belonging.{IsOpened}
use Rattle.gc_copy.specs.Words.{CollectionWords, BelongsTo}
use Rattle.gc_collected.specs.Internal.CollectedHeap.{BelongsIfOpen, Fits, state_in}
use Rattle.gc_collected.specs.Internal.Follows.{Follows}
use Rattle.gc_collected.specs.Internal.Given.{puts_step, same_from}
use Rattle.gc_collected.specs.Internal.Together.{LogsIfOpen, fields_from}
use Rattle.gc_collected.proofs.CopiesDone.{row_told}
use Rattle.gc_collected.proofs.Runs.{Row, same_fields, row_fits, row_follows, row_mutators, row_ran, row_state}
use Rattle.gc_collected.proofs.copying.put_words.Goals as goal
use Rattle.gc_collected.proofs.copying.put_words.Goals.{After-fill_each, After-log_row}

-- the fields and what they took
abbrev entries : (c : After-fill_each) → List (ℕ × Value)
entries c = same_from c.args.from c.args.count (field_value c.args.header c.args.word)

row : (c : After-fill_each) → Row c.args.heap.now c.fill_each.new.heap c.args.s c.args.object.0 c.args.from c.args.count (entries c)
row c = record {
  puts = c.fill_each.ensures.puts;
  fields = same_fields c.args.count c.args.object.0 c.args.from (field_value c.args.header c.args.word);
  target = c.requires.target;
  within = let n = length-map c.args.heap.now.roots value_of in omega (arith, n, c.requires.place);
}

stepped : (c : After-fill_each) (o o' : Option CollectionWords) → LogsIfOpen o c.args.m (fields_from c.args.object.0 c.args.from c.args.count) o' → puts_step (state_in c.args.heap.now o) c.args.m c.args.s (same_from c.args.from c.args.count (field_value c.args.header c.args.word)) ≡ state_in c.fill_each.new.heap o'
stepped c o o' logs =
    row_state c.args.heap.now c.fill_each.new.heap c.args.s c.args.object.0 c.args.from c.args.count (entries c) (row c) o o' c.args.m logs

-- ---- while no collection is open

pub returns-in_default-clause-step : goal.returns-in_default-clause-step
returns-in_default-clause-step c =
    let one = (goal.at.returns-in_default-clause-step c).After-fill_each in
    subst (λ (o : Option CollectionWords). puts_step (state_in c.args.heap.now o) c.args.m c.args.s (same_from c.args.from c.args.count (field_value c.args.header c.args.word)) ≡ state_in c.fill_each.new.heap o) (sym c.in_default.is) (stepped one None None tt)

pub returns-in_default-clause-fits : goal.returns-in_default-clause-fits
returns-in_default-clause-fits c =
    let one = (goal.at.returns-in_default-clause-fits c).After-fill_each in
    subst (λ (o : Option CollectionWords). (epoch : ℕ) → Fits epoch c.args.heap.now o → Fits epoch c.fill_each.new.heap o) (sym c.in_default.is)
    (λ epoch fits. row_fits c.args.heap.now c.fill_each.new.heap c.args.s c.args.object.0 c.args.from c.args.count (entries one) (row one) epoch None None c.args.m c.requires.mutator tt fits)

pub returns-in_default-clause-mutators : goal.returns-in_default-clause-mutators
returns-in_default-clause-mutators c =
    let one = (goal.at.returns-in_default-clause-mutators c).After-fill_each in
    row_mutators c.args.heap.now c.fill_each.new.heap c.args.s c.args.object.0 c.args.from c.args.count (entries one) (row one)

pub returns-in_default-clause-follows : goal.returns-in_default-clause-follows
returns-in_default-clause-follows c =
    let one = (goal.at.returns-in_default-clause-follows c).After-fill_each in
    subst (λ (o : Option CollectionWords). Follows (state_in c.args.heap.now o) c.args.watch.now → Follows (state_in c.fill_each.new.heap o) c.args.watch.now) (sym c.in_default.is)
    (row_follows c.args.heap.now c.fill_each.new.heap c.args.s c.args.object.0 c.args.from c.args.count (entries one) (row one) c.args.m c.args.watch.now)

-- ---- while one is open

belonged : (c : After-log_row) → BelongsTo c.args.heap.now c.in-Some.collection
belonged c = subst (BelongsIfOpen c.args.heap.now) c.in-Some.is c.requires.belongs

belongs_now : (c : After-log_row) → BelongsTo c.fill_each.new.heap c.log_row.new.collection
belongs_now c =
    let one = (goal.at.are_shown-requires c).After-fill_each in
    row_fits c.args.heap.now c.fill_each.new.heap c.args.s c.args.object.0 c.args.from c.args.count (entries one) (row one) 0 (Some c.in-Some.collection) (Some c.log_row.new.collection) c.args.m c.requires.mutator c.log_row.ensures.logs (belonged c)

pub are_shown-requires : goal.are_shown-requires
are_shown-requires c = belongs_now (goal.at.are_shown-requires c).After-log_row

pub returns-clause-step : goal.returns-clause-step
returns-clause-step c =
    subst (λ (o : Option CollectionWords). puts_step (state_in c.args.heap.now o) c.args.m c.args.s (same_from c.args.from c.args.count (field_value c.args.header c.args.word)) ≡ state_in c.fill_each.new.heap (Some c.log_row.new.collection)) (sym c.in-Some.is)
    (stepped (goal.at.returns-clause-step c).After-fill_each (Some c.in-Some.collection) (Some c.log_row.new.collection) c.log_row.ensures.logs)

pub returns-clause-fits : goal.returns-clause-fits
returns-clause-fits c = λ epoch fits. belongs_now (goal.at.returns-clause-fits c).After-log_row

pub returns-clause-mutators : goal.returns-clause-mutators
returns-clause-mutators c =
    let one = (goal.at.returns-clause-mutators c).After-fill_each in
    row_mutators c.args.heap.now c.fill_each.new.heap c.args.s c.args.object.0 c.args.from c.args.count (entries one) (row one)

pub returns-clause-follows : goal.returns-clause-follows
returns-clause-follows c =
    let one = (goal.at.returns-clause-follows c).After-fill_each in
    let a = c.args.object.0 in
    let told = c.log_row.ensures in
    subst (λ (o : Option CollectionWords). Follows (state_in c.args.heap.now o) c.args.watch.now → Follows (state_in c.fill_each.new.heap (Some c.log_row.new.collection)) c.log_row.new.watch) (sym c.in-Some.is)
    (row_told c.args.heap.now c.fill_each.new.heap c.in-Some.collection c.log_row.new.collection c.args.m a c.args.from c.args.count c.fill_each.new.heap.space.words c.args.watch.now c.log_row.new.watch (belonged (goal.at.returns-clause-follows c).After-log_row)
    c.requires.mutator (row_ran c.args.heap.now c.fill_each.new.heap c.args.s a c.args.from c.args.count (entries one) (row one) (Some c.in-Some.collection) (Some c.log_row.new.collection) c.args.m c.log_row.ensures.logs) c.log_row.ensures.logs
    (subst (λ (o : Option CollectionWords). IfSome (state_in c.args.heap.now o).collection (IsOpened (state_in c.args.heap.now o))) c.in-Some.is c.are_sound_in.ensures) c.are_shown.ensures.opened c.are_shown.ensures.heap
    c.are_shown.ensures.old
    told.stays told.wrote)
