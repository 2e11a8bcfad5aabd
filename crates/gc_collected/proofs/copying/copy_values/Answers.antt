-- The heap copies alone and through no root; the fields are logged together, and then the monitor is told of all of them.
use Rattle.std.proofs.Common.{◌≡◌, ℕ, List, Some, None, subst, sym, ◌∙◌, arith}
use Rattle.std.specs.Prelude.{IfSome, Option}
use Rattle.std.specs.Option.{option_map}
use Rattle.std.proofs.lemmas.List.{length-map}
use Rattle.gc_graph.specs.Graph.{Ref, Value, root}
use Rattle.gc_words.specs.Word.{value_of}
use Rattle.gc_heap.specs.Heap.{graph_in}
use Rattle.gc_model.specs.Belonging.{IsOpened}
use Rattle.gc_copy.specs.Words.{CollectionWords, BelongsTo, collection_in}
use Rattle.gc_collected.specs.Copying.{values_step}
use Rattle.gc_collected.specs.Internal.CollectedHeap.{BelongsIfOpen, Fits, state_in}
use Rattle.gc_collected.specs.Internal.Follows.{Follows}
use Rattle.gc_collected.specs.Internal.Together.{LogsIfOpen, fields_from}
use Rattle.gc_collected.proofs.CopiesDone.{row_told}
use Rattle.gc_collected.proofs.Runs.{Row, copied_fields, copied_puts, copied_values, values_are, row_fits, row_follows, row_mutators, row_ran, row_state}
use Rattle.gc_collected.proofs.copying.copy_values.Goals as goal
use Rattle.gc_collected.proofs.copying.copy_values.Goals.{After-copy_each_value, After-log_row}

-- the fields and what they took
abbrev entries : (c : After-copy_each_value) → List (ℕ × Value)
entries c = copied_values c.args.count c.args.heap.now c.copy_each_value.new.heap c.args.d c.args.to c.args.s c.args.from c.copy_each_value.ensures.copies

row : (c : After-copy_each_value) → Row c.args.heap.now c.copy_each_value.new.heap c.args.d c.unwrap.result.0.0 c.args.to c.args.count (entries c)
row c = record {
  puts = copied_puts c.args.count c.args.heap.now c.copy_each_value.new.heap c.args.d c.args.to c.args.s c.args.from c.copy_each_value.ensures.copies;
  fields = copied_fields c.args.count c.args.heap.now c.copy_each_value.new.heap c.unwrap.result.0.0 c.args.d c.args.to c.args.s c.args.from c.copy_each_value.ensures.copies;
  target = subst (λ o. IfSome o (λ found. root (graph_in c.args.heap.now) c.args.d ≡ Ref found.0.0)) c.unwrap.ensures c.object.ensures.target;
  within = let n = length-map c.args.heap.now.roots value_of in omega (arith, n, c.requires.target);
}

stepped : (c : After-copy_each_value) (o o' : Option CollectionWords) → LogsIfOpen o c.args.m (fields_from c.unwrap.result.0.0 c.args.to c.args.count) o' → values_step (state_in c.args.heap.now o) c.args.m c.args.d c.args.to c.args.s c.args.from c.args.count ≡ state_in c.copy_each_value.new.heap o'
stepped c o o' logs =
    values_are c.args.count c.args.heap.now c.copy_each_value.new.heap (option_map collection_in o) c.args.m c.unwrap.result.0.0 c.args.d c.args.to c.args.s c.args.from c.copy_each_value.ensures.copies (row c).target (row c).within
    ∙ row_state c.args.heap.now c.copy_each_value.new.heap c.args.d c.unwrap.result.0.0 c.args.to c.args.count (entries c) (row c) o o' c.args.m logs

-- ---- while no collection is open

pub returns-in_default-clause-step : goal.returns-in_default-clause-step
returns-in_default-clause-step c =
    let one = (goal.at.returns-in_default-clause-step c).After-copy_each_value in
    subst (λ (o : Option CollectionWords). values_step (state_in c.args.heap.now o) c.args.m c.args.d c.args.to c.args.s c.args.from c.args.count ≡ state_in c.copy_each_value.new.heap o) (sym c.in_default.is) (stepped one None None tt)

pub returns-in_default-clause-fits : goal.returns-in_default-clause-fits
returns-in_default-clause-fits c =
    let one = (goal.at.returns-in_default-clause-fits c).After-copy_each_value in
    subst (λ (o : Option CollectionWords). (epoch : ℕ) → Fits epoch c.args.heap.now o → Fits epoch c.copy_each_value.new.heap o) (sym c.in_default.is)
    (λ epoch fits. row_fits c.args.heap.now c.copy_each_value.new.heap c.args.d c.unwrap.result.0.0 c.args.to c.args.count (entries one) (row one) epoch None None c.args.m c.requires.mutator tt fits)

pub returns-in_default-clause-mutators : goal.returns-in_default-clause-mutators
returns-in_default-clause-mutators c =
    let one = (goal.at.returns-in_default-clause-mutators c).After-copy_each_value in
    row_mutators c.args.heap.now c.copy_each_value.new.heap c.args.d c.unwrap.result.0.0 c.args.to c.args.count (entries one) (row one)

pub returns-in_default-clause-follows : goal.returns-in_default-clause-follows
returns-in_default-clause-follows c =
    let one = (goal.at.returns-in_default-clause-follows c).After-copy_each_value in
    subst (λ (o : Option CollectionWords). Follows (state_in c.args.heap.now o) c.args.watch.now → Follows (state_in c.copy_each_value.new.heap o) c.args.watch.now) (sym c.in_default.is)
    (row_follows c.args.heap.now c.copy_each_value.new.heap c.args.d c.unwrap.result.0.0 c.args.to c.args.count (entries one) (row one) c.args.m c.args.watch.now)

-- ---- while one is open

belonged : (c : After-log_row) → BelongsTo c.args.heap.now c.in-Some.collection
belonged c = subst (BelongsIfOpen c.args.heap.now) c.in-Some.is c.requires.belongs

belongs_now : (c : After-log_row) → BelongsTo c.copy_each_value.new.heap c.log_row.new.collection
belongs_now c =
    let one = (goal.at.are_shown-requires c).After-copy_each_value in
    row_fits c.args.heap.now c.copy_each_value.new.heap c.args.d c.unwrap.result.0.0 c.args.to c.args.count (entries one) (row one) 0 (Some c.in-Some.collection) (Some c.log_row.new.collection) c.args.m c.requires.mutator c.log_row.ensures.logs (belonged c)

pub are_shown-requires : goal.are_shown-requires
are_shown-requires c = belongs_now (goal.at.are_shown-requires c).After-log_row

pub returns-clause-step : goal.returns-clause-step
returns-clause-step c =
    subst (λ (o : Option CollectionWords). values_step (state_in c.args.heap.now o) c.args.m c.args.d c.args.to c.args.s c.args.from c.args.count ≡ state_in c.copy_each_value.new.heap (Some c.log_row.new.collection)) (sym c.in-Some.is)
    (stepped (goal.at.returns-clause-step c).After-copy_each_value (Some c.in-Some.collection) (Some c.log_row.new.collection) c.log_row.ensures.logs)

pub returns-clause-fits : goal.returns-clause-fits
returns-clause-fits c = λ epoch fits. belongs_now (goal.at.returns-clause-fits c).After-log_row

pub returns-clause-mutators : goal.returns-clause-mutators
returns-clause-mutators c =
    let one = (goal.at.returns-clause-mutators c).After-copy_each_value in
    row_mutators c.args.heap.now c.copy_each_value.new.heap c.args.d c.unwrap.result.0.0 c.args.to c.args.count (entries one) (row one)

pub returns-clause-follows : goal.returns-clause-follows
returns-clause-follows c =
    let one = (goal.at.returns-clause-follows c).After-copy_each_value in
    let a = c.unwrap.result.0.0 in
    let told = c.log_row.ensures in
    subst (λ (o : Option CollectionWords). Follows (state_in c.args.heap.now o) c.args.watch.now → Follows (state_in c.copy_each_value.new.heap (Some c.log_row.new.collection)) c.log_row.new.watch) (sym c.in-Some.is)
    (row_told c.args.heap.now c.copy_each_value.new.heap c.in-Some.collection c.log_row.new.collection c.args.m a c.args.to c.args.count c.copy_each_value.new.heap.space.words c.args.watch.now c.log_row.new.watch (belonged (goal.at.returns-clause-follows c).After-log_row)
    c.requires.mutator (row_ran c.args.heap.now c.copy_each_value.new.heap c.args.d a c.args.to c.args.count (entries one) (row one) (Some c.in-Some.collection) (Some c.log_row.new.collection) c.args.m c.log_row.ensures.logs) c.log_row.ensures.logs
    (subst (λ (o : Option CollectionWords). IfSome (state_in c.args.heap.now o).collection (IsOpened (state_in c.args.heap.now o))) c.in-Some.is c.are_sound_in.ensures) c.are_shown.ensures.opened c.are_shown.ensures.heap
    c.are_shown.ensures.old
    told.stays told.wrote)
