-- The heap writes alone; the fields are logged together, and then the monitor is told of all of them.
use Rattle.std.proofs.Common.{◌≡◌, ◌+◌, ◌≤◌, ℕ, List, Some, None, length, subst, sym, ◌∙◌, arith}
use Rattle.std.specs.Prelude.{IfSome, IsFalse, Option}
use Rattle.std.proofs.lemmas.List.{length-map}
use Rattle.gc_words.specs.Word.{value_of}
use Rattle.gc_heap.specs.Heap.{graph_in}
use Rattle.gc_heap.specs.Filling.{numbered}
use Rattle.gc_model.specs.Belonging.{IsOpened}
use Rattle.gc_copy.specs.Words.{CollectionWords, BelongsTo, spare_of}
use Rattle.gc_monitor.specs.Claims.{CanWriteRow}
use Rattle.gc_monitor.specs.Events.{WroteRow}
use Rattle.gc_collected.specs.Internal.CollectedHeap.{BelongsIfOpen, Fits, HasSpare, state_in}
use Rattle.gc_collected.specs.Internal.Follows.{Follows}
use Rattle.gc_collected.specs.Internal.Numbered.{numbers_given, sources_at}
use Rattle.gc_collected.specs.Internal.Together.{LogsIfOpen, fields_from}
use Rattle.gc_collected.proofs.CopiesDone.{row_told}
use Rattle.gc_collected.proofs.Numbered.{number_fields, numbers_are}
use Rattle.gc_collected.proofs.Runs.{Row, row_fits, row_follows, row_mutators, row_ran, row_state}
use Rattle.gc_collected.proofs.numbers.write_numbers.Given.{Over}
use Rattle.gc_collected.proofs.numbers.write_numbers.Goals as goal
use Rattle.gc_collected.proofs.numbers.write_numbers.Goals.{After-write, After-log_row}

-- the numbers
abbrev numbers : (g : Over) → After-write g → List ℕ
numbers g c = g.R.NumberRow.numbers c.args.row.now (sources_at (graph_in c.args.heap.now) (g.R.NumberRow.names c.args.row.now))

row : (g : Over) (c : After-write g) → Row c.args.heap.now c.write.new.heap c.args.s c.args.object.0 c.args.first (length (numbers g c)) (numbered c.args.first (numbers g c))
row g c = record {
  puts = c.write.ensures.puts;
  fields = number_fields (numbers g c) c.args.object.0 c.args.first;
  target = c.requires.target;
  within = let n = length-map c.args.heap.now.roots value_of in omega (arith, n, c.requires.root);
}

stepped : (g : Over) (c : After-write g) (o o' : Option CollectionWords) → LogsIfOpen o c.args.m (fields_from c.args.object.0 c.args.first (length (numbers g c))) o' → numbers_given (state_in c.args.heap.now o) c.args.m c.args.s c.args.first (numbers g c) ≡ state_in c.write.new.heap o'
stepped g c o o' logs =
    numbers_are (numbers g c) (state_in c.args.heap.now o) c.args.m c.args.s c.args.first (row g c).within
    ∙ row_state c.args.heap.now c.write.new.heap c.args.s c.args.object.0 c.args.first (length (numbers g c)) (numbered c.args.first (numbers g c)) (row g c) o o' c.args.m logs

-- ---- while no collection is open

pub returns-in_default-clause-step : goal.returns-in_default-clause-step
returns-in_default-clause-step g c =
    let one = (goal.at.returns-in_default-clause-step g c).After-write in
    subst (λ (o : Option CollectionWords). numbers_given (state_in c.args.heap.now o) c.args.m c.args.s c.args.first (numbers g one) ≡ state_in c.write.new.heap o) (sym c.in_default.is) (stepped g one None None tt)

pub returns-in_default-clause-fits : goal.returns-in_default-clause-fits
returns-in_default-clause-fits g c =
    let one = (goal.at.returns-in_default-clause-fits g c).After-write in
    subst (λ (o : Option CollectionWords). (epoch : ℕ) → Fits epoch c.args.heap.now o → Fits epoch c.write.new.heap o) (sym c.in_default.is)
    (λ epoch fits. row_fits c.args.heap.now c.write.new.heap c.args.s c.args.object.0 c.args.first (length (numbers g one)) (numbered c.args.first (numbers g one)) (row g one) epoch None None c.args.m c.requires.mutator tt fits)

pub returns-in_default-clause-mutators : goal.returns-in_default-clause-mutators
returns-in_default-clause-mutators g c =
    let one = (goal.at.returns-in_default-clause-mutators g c).After-write in
    row_mutators c.args.heap.now c.write.new.heap c.args.s c.args.object.0 c.args.first (length (numbers g one)) (numbered c.args.first (numbers g one)) (row g one)

pub returns-in_default-clause-follows : goal.returns-in_default-clause-follows
returns-in_default-clause-follows g c =
    let one = (goal.at.returns-in_default-clause-follows g c).After-write in
    subst (λ (o : Option CollectionWords). Follows (state_in c.args.heap.now o) c.args.watch.now → Follows (state_in c.write.new.heap o) c.args.watch.now) (sym c.in_default.is)
    (row_follows c.args.heap.now c.write.new.heap c.args.s c.args.object.0 c.args.first (length (numbers g one)) (numbered c.args.first (numbers g one)) (row g one) c.args.m c.args.watch.now)

pub returns-in_default-clause-belongs : goal.returns-in_default-clause-belongs
returns-in_default-clause-belongs g c = subst (BelongsIfOpen c.write.new.heap) (sym c.in_default.is) tt

pub returns-in_default-clause-spare : goal.returns-in_default-clause-spare
returns-in_default-clause-spare g c = λ more room. subst (λ (o : Option CollectionWords). HasSpare o c.args.m more) (sym c.in_default.is) tt

-- ---- while one is open

belonged : (g : Over) (c : After-log_row g) → BelongsTo c.args.heap.now c.in-Some.collection
belonged g c = subst (BelongsIfOpen c.args.heap.now) c.in-Some.is c.requires.belongs

logged : (g : Over) (c : After-log_row g) → LogsIfOpen (Some c.in-Some.collection) c.args.m (fields_from c.args.object.0 c.args.first (length (numbers g (goal.at.are_shown-requires g c).After-write))) (Some c.log_row.new.collection)
logged g c =
    let sources = sources_at (graph_in c.args.heap.now) (g.R.NumberRow.names c.args.row.now) in
    subst (λ n. LogsIfOpen (Some c.in-Some.collection) c.args.m (fields_from c.args.object.0 c.args.first n) (Some c.log_row.new.collection)) (c.count-count.ensures sources c.requires.row) c.log_row.ensures.logs

belongs_now : (g : Over) (c : After-log_row g) → BelongsTo c.write.new.heap c.log_row.new.collection
belongs_now g c =
    let one = (goal.at.are_shown-requires g c).After-write in
    row_fits c.args.heap.now c.write.new.heap c.args.s c.args.object.0 c.args.first (length (numbers g one)) (numbered c.args.first (numbers g one)) (row g one) 0 (Some c.in-Some.collection) (Some c.log_row.new.collection) c.args.m c.requires.mutator (logged g c) (belonged g c)

pub are_shown-requires : goal.are_shown-requires
are_shown-requires g c = belongs_now g (goal.at.are_shown-requires g c).After-log_row

pub returns-clause-step : goal.returns-clause-step
returns-clause-step g c =
    subst (λ (o : Option CollectionWords). numbers_given (state_in c.args.heap.now o) c.args.m c.args.s c.args.first (numbers g (goal.at.returns-clause-step g c).After-write) ≡ state_in c.write.new.heap (Some c.log_row.new.collection)) (sym c.in-Some.is)
    (stepped g (goal.at.returns-clause-step g c).After-write (Some c.in-Some.collection) (Some c.log_row.new.collection) (logged g (goal.at.returns-clause-step g c).After-log_row))

pub returns-clause-fits : goal.returns-clause-fits
returns-clause-fits g c = λ epoch fits. belongs_now g (goal.at.returns-clause-fits g c).After-log_row

pub returns-clause-mutators : goal.returns-clause-mutators
returns-clause-mutators g c =
    let one = (goal.at.returns-clause-mutators g c).After-write in
    row_mutators c.args.heap.now c.write.new.heap c.args.s c.args.object.0 c.args.first (length (numbers g one)) (numbered c.args.first (numbers g one)) (row g one)

pub returns-clause-follows : goal.returns-clause-follows
returns-clause-follows g c =
    let one = (goal.at.returns-clause-follows g c).After-write in
    let noted = (goal.at.returns-clause-follows g c).After-log_row in
    let a = c.args.object.0 in
    let n = length (numbers g one) in
    let told = c.log_row.ensures in
    let count = c.count-count.ensures (sources_at (graph_in c.args.heap.now) (g.R.NumberRow.names c.args.row.now)) c.requires.row in
    subst (λ (o : Option CollectionWords). Follows (state_in c.args.heap.now o) c.args.watch.now → Follows (state_in c.write.new.heap (Some c.log_row.new.collection)) c.log_row.new.watch) (sym c.in-Some.is)
    (row_told c.args.heap.now c.write.new.heap c.in-Some.collection c.log_row.new.collection c.args.m a c.args.first n c.write.new.heap.space.words c.args.watch.now c.log_row.new.watch (belonged g noted)
    c.requires.mutator (row_ran c.args.heap.now c.write.new.heap c.args.s a c.args.first n (numbered c.args.first (numbers g one)) (row g one) (Some c.in-Some.collection) (Some c.log_row.new.collection) c.args.m (logged g noted)) (logged g noted)
    (subst (λ (o : Option CollectionWords). IfSome (state_in c.args.heap.now o).collection (IsOpened (state_in c.args.heap.now o))) c.in-Some.is c.are_sound_in.ensures) c.are_shown.ensures.opened c.are_shown.ensures.heap
    c.are_shown.ensures.old
    (subst (λ k. IsFalse c.args.watch.now.lost → CanWriteRow c.write.new.heap.space.words a c.args.first k c.args.watch.now → IsFalse c.log_row.new.watch.lost) count told.stays)
    (subst (λ k. IsFalse c.log_row.new.watch.lost → WroteRow a c.args.first k c.args.watch.now c.log_row.new.watch) count told.wrote))

pub returns-clause-belongs : goal.returns-clause-belongs
returns-clause-belongs g c = belongs_now g (goal.at.returns-clause-belongs g c).After-log_row

pub returns-clause-spare : goal.returns-clause-spare
returns-clause-spare g c = λ more room.
    let n = length (numbers g (goal.at.returns-clause-spare g c).After-write) in
    let count = c.count-count.ensures (sources_at (graph_in c.args.heap.now) (g.R.NumberRow.names c.args.row.now)) c.requires.row in
    let had : n + more ≤ spare_of c.in-Some.collection c.args.m = subst (λ (o : Option CollectionWords). HasSpare o c.args.m (n + more)) c.in-Some.is room in
    omega (arith, c.log_row.ensures.spare, count, had)
