-- The fields that the heap fills are logged together, and then the monitor is told of the object.
use Rattle.std.proofs.Common.{◌≡◌, false, length, ap, subst, sym, ◌∙◌, arith}
use Rattle.std.proofs.lemmas.List.{length-map}
use Rattle.gc_graph.specs.declared.command.Op.TheVariants.{New}
use Rattle.gc_heap.specs.Places.{root_at}
use Rattle.gc_graph.specs.declared.reply.Reply.{Reply}
use Rattle.gc_words.specs.Space.{end_of}
use Rattle.gc_words.specs.Word.{value_of}
use Rattle.gc_heap.specs.Filling.{TakesFields}
use Rattle.gc_model.specs.State.{State}
use Rattle.gc_model.proofs.Public.{roots_counted}
use Rattle.gc_monitor.specs.Claims.{CanMake}
use Rattle.gc_monitor.specs.Events.{Made}
use Rattle.gc_collected.specs.Internal.CollectedHeap.{state_in}
use Rattle.gc_collected.specs.Internal.Together.{LogsIfOpen, fields_from}
use Rattle.gc_collected.proofs.NewFrom.{counted, full_from, made_from}
use Rattle.gc_collected.proofs.OtherCommands.{performed, still_fits}
use Rattle.gc_collected.proofs.Monitor.Follows.{follows_same}
use Rattle.gc_collected.proofs.Together.{fill_is, full_same, made_follows, only_its, puts_make_nothing, together_fits, together_state}
use Rattle.gc_collected.proofs.filling.make_filled.Goals as goal

pub returns-in-Full-clause-step : goal.returns-in-Full-clause-step
returns-in-Full-clause-step g c =
    let new = c.new_at_root-made in
    let said = performed c.args.heap.now new.new.self c.args.collection.now c.args.m (New (root_at c.args.d) c.args.kind c.count-count.result) new.result c.space.ensures.sound (λ none. none) (new.ensures.performs c.args.m) c.requires.belongs in
    let names = g.R.RootRow.names c.args.fields.now in
    full_from (state_in c.args.heap.now c.args.collection.now) (state_in new.new.self c.args.collection.now) c.args.m c.args.kind (root_at c.args.d) names new.result (counted (state_in c.args.heap.now c.args.collection.now) (state_in new.new.self c.args.collection.now) c.args.m c.args.kind c.count-count.result (root_at c.args.d) names new.result c.count-count.ensures said) c.in-Full.is

pub returns-in-Full-clause-fits : goal.returns-in-Full-clause-fits
returns-in-Full-clause-fits g c = λ epoch fits.
    let new = c.new_at_root-made in
    still_fits epoch c.args.heap.now new.new.self c.args.collection.now c.args.m (New (root_at c.args.d) c.args.kind c.count-count.result) new.result c.space.ensures.sound (λ none. none) (new.ensures.performs c.args.m) fits

pub returns-in-Full-clause-follows : goal.returns-in-Full-clause-follows
returns-in-Full-clause-follows g c =
    let new = c.new_at_root-made in
    let said = performed c.args.heap.now new.new.self c.args.collection.now c.args.m (New (root_at c.args.d) c.args.kind c.count-count.result) new.result c.space.ensures.sound (λ none. none) (new.ensures.performs c.args.m) c.requires.belongs in
    follows_same (state_in c.args.heap.now c.args.collection.now) (state_in new.new.self c.args.collection.now) c.args.watch.now (full_same (state_in c.args.heap.now c.args.collection.now) (state_in new.new.self c.args.collection.now) c.args.m c.args.kind c.count-count.result (root_at c.args.d) new.result said c.in-Full.is)

pub returns-clause-step : goal.returns-clause-step
returns-clause-step g c =
    let new = c.new_at_root-made in
    let all = g.R.RootRow.names c.args.fields.now in
    let said = performed c.args.heap.now new.new.self c.args.collection.now c.args.m (New (root_at c.args.d) c.args.kind c.count-count.result) new.result c.space.ensures.sound (λ none. none) (new.ensures.performs c.args.m) c.requires.belongs in
    let logs = subst (λ n. LogsIfOpen c.args.collection.now c.args.m (fields_from c.end.result 0 n) c.note_in.new.collection) c.count-count.ensures c.note_in.ensures in
    made_from (state_in c.args.heap.now c.args.collection.now) (state_in new.new.self c.args.collection.now) (state_in c.fill_each.new.heap c.note_in.new.collection) c.args.m c.args.kind (root_at c.args.d) all new.result
    (counted (state_in c.args.heap.now c.args.collection.now) (state_in new.new.self c.args.collection.now) c.args.m c.args.kind c.count-count.result (root_at c.args.d) all new.result c.count-count.ensures said) c.in_default.not-Full
    (fill_is (state_in new.new.self c.args.collection.now) c.args.m 0 (root_at c.args.d) all ∙ together_state new.new.self c.fill_each.new.heap c.args.collection.now c.note_in.new.collection c.args.m _ _ new.ensures.sound c.fill_each.ensures.performs logs)

pub returns-clause-fits : goal.returns-clause-fits
returns-clause-fits g c = λ epoch fits.
    let new = c.new_at_root-made in
    let logs = subst (λ n. LogsIfOpen c.args.collection.now c.args.m (fields_from c.end.result 0 n) c.note_in.new.collection) c.count-count.ensures c.note_in.ensures in
    together_fits epoch new.new.self c.fill_each.new.heap c.args.collection.now c.note_in.new.collection c.args.m _ _ (let e = (new.ensures.performs c.args.m).mutators in omega (arith, c.requires.mutator, e)) c.fill_each.ensures.performs logs
    (still_fits epoch c.args.heap.now new.new.self c.args.collection.now c.args.m (New (root_at c.args.d) c.args.kind c.count-count.result) new.result c.space.ensures.sound (λ none. none) (new.ensures.performs c.args.m) fits)

pub returns-clause-follows : goal.returns-clause-follows
returns-clause-follows g c =
    let new = c.new_at_root-made in
    let last = c.fill_each.new.heap in
    let all = g.R.RootRow.names c.args.fields.now in
    let logs = subst (λ n. LogsIfOpen c.args.collection.now c.args.m (fields_from c.end.result 0 n) c.note_in.new.collection) c.count-count.ensures c.note_in.ensures in
    let at = c.end.ensures.value ∙ ap end_of c.space-2.ensures.value in
    let words = c.words.ensures.value ∙ ap (λ x. x.words) c.space-3.ensures.value in
    let told = c.heaps_have_addresses_as_names.ensures in
    made_follows c.args.heap.now new.new.self last c.args.collection.now c.note_in.new.collection c.args.m c.args.kind c.count-count.result (root_at c.args.d) new.result _ _ c.args.watch.now c.made.new.self c.space.ensures.sound new.ensures.sound (new.ensures.performs c.args.m)
    (puts_make_nothing (root_at c.args.d) 0 all) c.fill_each.ensures.performs logs (λ b i w. only_its c.end.result 0 (length all) b i w ∙ at) c.requires.belongs c.are_sound_in.ensures told.graph (told.graph last c.space-3.ensures.sound) (told.image last c.space-3.ensures.sound)
    (subst (λ ws. c.args.watch.now.lost ≡ false → CanMake ws c.args.watch.now → c.made.new.self.lost ≡ false) words c.made.ensures.stays)
    (subst (λ ws. c.made.new.self.lost ≡ false → Made ws c.args.watch.now c.made.new.self) words c.made.ensures.made)

pub returns-in-Full-clause-mutators : goal.returns-in-Full-clause-mutators
returns-in-Full-clause-mutators g c = (c.new_at_root-made.ensures.performs c.args.m).mutators

pub fill_each-requires : goal.fill_each-requires
fill_each-requires g c =
    let heap = c.args.heap.now in
    let made = c.new_at_root-made in
    let o = c.args.collection.now in
    let op = New (root_at c.args.d) c.args.kind c.count-count.result in
    let said = performed heap made.new.self o c.args.m op made.result c.space.ensures.sound (λ none. none) (made.ensures.performs c.args.m) c.requires.belongs in
    let roots : length made.new.self.roots ≡ length heap.roots
    = sym (length-map made.new.self.roots value_of) ∙ sym (ap (λ (x : Reply × State). length x.1.heap.graph.roots) said) ∙ roots_counted (state_in heap o) c.args.m op ∙ length-map heap.roots value_of in
    let at = c.end.ensures.value ∙ ap end_of c.space-2.ensures.value in
    record {
      row = subst (g.R.RootRow.is_row c.args.fields.now c.args.m) (sym roots) c.requires.row;
      takes = subst (λ n. TakesFields made.new.self c.args.d c.end.result n) c.count-count.ensures (subst (λ a. TakesFields made.new.self c.args.d a c.count-count.result) (sym at) (made.ensures.fields c.in_default.not-Full));
    }

pub returns-clause-mutators : goal.returns-clause-mutators
returns-clause-mutators g c = c.fill_each.ensures.mutators ∙ (c.new_at_root-made.ensures.performs c.args.m).mutators
