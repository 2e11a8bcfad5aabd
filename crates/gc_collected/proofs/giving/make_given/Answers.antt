-- The new object's fields take their values, those that take one are logged together, and then the monitor is told of the object.
use Rattle.std.proofs.Common.{◌≡◌, Some, false, length, ap, subst, sym, ◌∙◌, arith}
use Rattle.std.proofs.lemmas.List.{length-map}
use Rattle.gc_graph.specs.declared.command.Op.TheVariants.{New}
use Rattle.gc_graph.specs.declared.reply.Reply.{Reply}
use Rattle.gc_words.specs.Image.{header_at}
use Rattle.gc_words.specs.Space.{end_of}
use Rattle.gc_words.specs.Word.{value_of}
use Rattle.gc_heap.specs.Filling.{TakesFields}
use Rattle.gc_heap.specs.Heap.{graph_in}
use Rattle.gc_heap.specs.Places.{root_at}
use Rattle.gc_model.specs.State.{State}
use Rattle.gc_model.proofs.Public.{roots_counted}
use Rattle.gc_monitor.specs.Claims.{CanMake}
use Rattle.gc_monitor.specs.Events.{Made}
use Rattle.gc_collected.specs.Internal.CollectedHeap.{state_in}
use Rattle.gc_collected.specs.Internal.Given.{fields_put, given_from}
use Rattle.gc_collected.specs.Internal.Together.{LogsIfOpen}
use Rattle.gc_collected.proofs.Given.{given_fits, given_ran, given_state}
use Rattle.gc_collected.proofs.GivenFields.{fields_are, full_given, gives_are, has_given, made_given, new_header, only_put, puts_mutators}
use Rattle.gc_collected.proofs.OtherCommands.{performed, still_fits}
use Rattle.gc_collected.proofs.Monitor.Follows.{follows_same}
use Rattle.gc_collected.proofs.Together.{filled_follows, full_same}
use Rattle.gc_collected.proofs.giving.make_given.Goals as goal

pub returns-in-Full-clause-step : goal.returns-in-Full-clause-step
returns-in-Full-clause-step g c =
    let new = c.new_at_root-made in
    let said = performed c.args.heap.now new.new.self c.args.collection.now c.args.m (New (root_at c.args.d) c.args.kind c.count-count.result) new.result c.space.ensures.sound (λ none. none) (new.ensures.performs c.args.m) c.requires.belongs in
    full_given (state_in c.args.heap.now c.args.collection.now) (state_in new.new.self c.args.collection.now) c.args.m c.args.kind c.count-count.result c.args.d (g.R.ValueRow.values c.args.fields.now) new.result c.count-count.ensures said c.in-Full.is

pub returns-in-Full-clause-fits : goal.returns-in-Full-clause-fits
returns-in-Full-clause-fits g c = λ epoch fits.
    let new = c.new_at_root-made in
    still_fits epoch c.args.heap.now new.new.self c.args.collection.now c.args.m (New (root_at c.args.d) c.args.kind c.count-count.result) new.result c.space.ensures.sound (λ none. none) (new.ensures.performs c.args.m) fits

pub returns-in-Full-clause-follows : goal.returns-in-Full-clause-follows
returns-in-Full-clause-follows g c =
    let new = c.new_at_root-made in
    let said = performed c.args.heap.now new.new.self c.args.collection.now c.args.m (New (root_at c.args.d) c.args.kind c.count-count.result) new.result c.space.ensures.sound (λ none. none) (new.ensures.performs c.args.m) c.requires.belongs in
    follows_same (state_in c.args.heap.now c.args.collection.now) (state_in new.new.self c.args.collection.now) c.args.watch.now (full_same (state_in c.args.heap.now c.args.collection.now) (state_in new.new.self c.args.collection.now) c.args.m c.args.kind c.count-count.result (root_at c.args.d) new.result said c.in-Full.is)

pub returns-in-Full-clause-mutators : goal.returns-in-Full-clause-mutators
returns-in-Full-clause-mutators g c = (c.new_at_root-made.ensures.performs c.args.m).mutators

pub give_each-requires : goal.give_each-requires
give_each-requires g c =
    let heap = c.args.heap.now in
    let made = c.new_at_root-made in
    let o = c.args.collection.now in
    let op = New (root_at c.args.d) c.args.kind c.count-count.result in
    let said = performed heap made.new.self o c.args.m op made.result c.space.ensures.sound (λ none. none) (made.ensures.performs c.args.m) c.requires.belongs in
    let roots : length made.new.self.roots ≡ length heap.roots
    = sym (length-map made.new.self.roots value_of) ∙ sym (ap (λ (x : Reply × State). length x.1.heap.graph.roots) said) ∙ roots_counted (state_in heap o) c.args.m op ∙ length-map heap.roots value_of in
    let takes : TakesFields made.new.self c.args.d c.end.result c.count-count.result
    = subst (λ a. TakesFields made.new.self c.args.d a c.count-count.result) (sym (c.end.ensures.value ∙ ap end_of c.space-2.ensures.value)) (made.ensures.fields c.in_default.not-Full) in
    let met : header_at made.new.self.space.words c.end.result ≡ Some c.header-header.result = subst (λ s. header_at s.words c.end.result ≡ Some c.header-header.result) c.space-3.ensures.value c.header-header.ensures in
    let is = new_header made.new.self c.args.d c.end.result c.count-count.result c.header-header.result made.ensures.sound takes met in
    record {
      row = subst (g.R.ValueRow.is_row c.args.fields.now) (sym roots) c.requires.row;
      target = takes.target;
      header = met;
      plain = is.0;
      long = omega (arith, is.1, c.count-count.ensures);
    }

pub returns-clause-mutators : goal.returns-clause-mutators
returns-clause-mutators g c = puts_mutators (given_from (graph_in c.new_at_root-made.new.self).roots 0 (g.R.ValueRow.values c.args.fields.now)) c.new_at_root-made.new.self c.give_each.new.heap c.args.d c.give_each.ensures.puts ∙ (c.new_at_root-made.ensures.performs c.args.m).mutators

pub returns-clause-step : goal.returns-clause-step
returns-clause-step g c =
    let new = c.new_at_root-made in
    let all = g.R.ValueRow.values c.args.fields.now in
    let es = given_from (graph_in new.new.self).roots 0 all in
    let said = performed c.args.heap.now new.new.self c.args.collection.now c.args.m (New (root_at c.args.d) c.args.kind c.count-count.result) new.result c.space.ensures.sound (λ none. none) (new.ensures.performs c.args.m) c.requires.belongs in
    let given = has_given c.args.heap.now new.new.self c.give_each.new.heap c.args.collection.now c.args.m c.args.d c.end.result c.args.kind c.count-count.result new.result es said c.requires.object (new.ensures.fields c.in_default.not-Full) (c.end.ensures.value ∙ ap end_of c.space-2.ensures.value) c.give_each.ensures.puts in
    made_given (state_in c.args.heap.now c.args.collection.now) (state_in new.new.self c.args.collection.now) (state_in c.give_each.new.heap c.note_values.new.collection) c.args.m c.args.kind c.count-count.result c.args.d all new.result c.count-count.ensures said c.in_default.not-Full
    (gives_are all (state_in new.new.self c.args.collection.now) c.args.m c.args.d 0 given.within ∙ given_state es new.new.self c.give_each.new.heap c.args.collection.now c.note_values.new.collection c.args.m c.args.d c.end.result given.puts
    (subst (λ fs. LogsIfOpen c.args.collection.now c.args.m fs c.note_values.new.collection) (fields_are all c.end.result 0 (graph_in new.new.self).roots) c.note_values.ensures) given.takes.target given.within)

pub returns-clause-fits : goal.returns-clause-fits
returns-clause-fits g c = λ epoch fits.
    let new = c.new_at_root-made in
    let op = New (root_at c.args.d) c.args.kind c.count-count.result in
    let es = given_from (graph_in new.new.self).roots 0 (g.R.ValueRow.values c.args.fields.now) in
    let said = performed c.args.heap.now new.new.self c.args.collection.now c.args.m op new.result c.space.ensures.sound (λ none. none) (new.ensures.performs c.args.m) c.requires.belongs in
    let row = has_given c.args.heap.now new.new.self c.give_each.new.heap c.args.collection.now c.args.m c.args.d c.end.result c.args.kind c.count-count.result new.result es said c.requires.object (new.ensures.fields c.in_default.not-Full) (c.end.ensures.value ∙ ap end_of c.space-2.ensures.value) c.give_each.ensures.puts in
    given_fits es epoch new.new.self c.give_each.new.heap c.args.collection.now c.note_values.new.collection c.args.m c.args.d c.end.result (let e = (new.ensures.performs c.args.m).mutators in omega (arith, c.requires.mutator, e)) row.puts
    (subst (λ fs. LogsIfOpen c.args.collection.now c.args.m fs c.note_values.new.collection) (fields_are (g.R.ValueRow.values c.args.fields.now) c.end.result 0 (graph_in new.new.self).roots) c.note_values.ensures) row.takes.target row.within
    (still_fits epoch c.args.heap.now new.new.self c.args.collection.now c.args.m op new.result c.space.ensures.sound (λ none. none) (new.ensures.performs c.args.m) fits)

pub returns-clause-follows : goal.returns-clause-follows
returns-clause-follows g c =
    let heap = c.args.heap.now in
    let made = c.new_at_root-made in
    let last = c.give_each.new.heap in
    let o = c.args.collection.now in
    let p = c.note_values.new.collection in
    let roots = (graph_in made.new.self).roots in
    let es = given_from roots 0 (g.R.ValueRow.values c.args.fields.now) in
    let at = c.end.ensures.value ∙ ap end_of c.space-2.ensures.value in
    let said = performed heap made.new.self o c.args.m (New (root_at c.args.d) c.args.kind c.count-count.result) made.result c.space.ensures.sound (λ none. none) (made.ensures.performs c.args.m) c.requires.belongs in
    let given = has_given heap made.new.self last o c.args.m c.args.d c.end.result c.args.kind c.count-count.result made.result es said c.requires.object (made.ensures.fields c.in_default.not-Full) at c.give_each.ensures.puts in
    let logs = subst (λ fs. LogsIfOpen o c.args.m fs p) (fields_are (g.R.ValueRow.values c.args.fields.now) c.end.result 0 roots) c.note_values.ensures in
    let words = c.words.ensures.value ∙ ap (λ x. x.words) c.space-4.ensures.value in
    let told = c.heaps_have_addresses_as_names.ensures in
    filled_follows heap made.new.self last o p c.args.m c.args.kind c.count-count.result (root_at c.args.d) made.result (fields_put c.end.result es) c.args.watch.now c.made.new.self c.space.ensures.sound made.ensures.sound (made.ensures.performs c.args.m)
    (given_ran es made.new.self last o p c.args.m c.args.d c.end.result given.puts logs given.takes.target given.within) (λ b i w. only_put es c.end.result b i w ∙ at) c.requires.belongs c.are_sound_in.ensures told.graph (told.graph last c.space-4.ensures.sound) (told.image last c.space-4.ensures.sound)
    (subst (λ ws. c.args.watch.now.lost ≡ false → CanMake ws c.args.watch.now → c.made.new.self.lost ≡ false) words c.made.ensures.stays)
    (subst (λ ws. c.made.new.self.lost ≡ false → Made ws c.args.watch.now c.made.new.self) words c.made.ensures.made)
