-- The field's word, read as its object's header says, is the value in the field.
use Rattle.std.proofs.Common.{◌≡◌, ℕ, Some, is_some, refl, sym, ◌∙◌, ap, subst, arith}
use Rattle.std.specs.Prelude.{IsSome}
use Rattle.std.specs.Option.{option_map}
use Rattle.gc_graph.specs.Machine.{view_of}
use Rattle.gc_words.specs.Word.{value_of, field_value}
use Rattle.gc_words.specs.Image.{field_at}
use Rattle.gc_words.specs.Closed.{IsFieldWord, IsWordOfField}
use Rattle.gc_words.proofs.Public.{closed_field_read, field_within, field_past}
use Rattle.gc_heap.specs.Heap.{HeapWords, graph_in}
use Rattle.gc_heap.proofs.Public.{Points, got, got_no_field, header_is, points}
use Rattle.gc_model.specs.Belonging.{RefersTo}
use Rattle.gc_concurrent.specs.Unreachable.{MayBeCopied}
use Rattle.gc_concurrent.proofs.Keeping.{read_leads}
use Rattle.gc_concurrent.proofs.Reading.{value_at}
use Rattle.gc_concurrent.specs.Ends.{Mine}
use Rattle.gc_concurrent.specs.Holders.{heap_in}
use Rattle.gc_concurrent.proofs.commands.Commander.fetched.Goals as goal
use Rattle.gc_concurrent.proofs.commands.Commander.fetched.Goals.{After-header-header, After-field-field}

giver : (c : After-header-header) → Points (heap_in c.args.self.now) c.args.s c.in-Some.at.0
giver c = points (heap_in c.args.self.now) (heap_in c.args.self.now) c.args.s c.in-Some.at.0 _ refl c.args.self.now.sound c.requires.giver c.index-target.ensures c.in-Some.ensures

still : (c : After-header-header) → c.args.self.now.mutator.seat.me.0.mine ≡ c.header-header.new.self.seat.me.0.mine
still c = λ i. (sym c.header-header.ensures.same i).0.mine

-- what was read of the mutator's space
read : (m m' : Mine) (a i f : ℕ) → m ≡ m' → field_at m'.space.words a i ≡ Some f → field_at m.space.words a i ≡ Some f
read m m' a i f e r = subst (λ (x : Mine). field_at x.space.words a i ≡ Some f) (sym e) r

fine : (c : After-header-header) (i f : ℕ) → field_at (heap_in c.args.self.now).space.words c.in-Some.at.0 i ≡ Some f → IsFieldWord (heap_in c.args.self.now).space.words c.header-header.result f
fine c i f r =
    let h : HeapWords = heap_in c.args.self.now in
    subst (λ g. IsFieldWord h.space.words g f) (header_is h c.args.s c.in-Some.at.0 c.header-header.result (giver c) c.header-header.ensures.value)
    (closed_field_read h.space.words h.roots c.in-Some.at.0 i f (giver c).block c.args.self.now.sound.closed (giver c).found r)

-- what a word means that the field's word gives, by the header in the graph
meaning : (c : After-header-header) (f word : ℕ) → value_of word ≡ field_value c.header-header.result f → value_of word ≡ field_value (giver c).block.header f
meaning c f word e = e ∙ ap (λ g. field_value g f) (sym (header_is (heap_in c.args.self.now) c.args.s c.in-Some.at.0 c.header-header.result (giver c) c.header-header.ensures.value))

pub returns-then-i-len-clause-none : goal.returns-then-i-len-clause-none
returns-then-i-len-clause-none c =
    let e = (goal.at.returns-then-i-len-clause-none c).After-header-header in
    let h : HeapWords = heap_in c.args.self.now in
    value_at h c.args.s c.in-Some.at.0 c.args.i (giver e)
    ∙ ap (option_map (field_value (giver e).block.header)) (field_past h.space.words c.in-Some.at.0 c.args.i c.header-header.result c.args.self.now.sound.space.walked c.header-header.ensures.value (omega (arith, c.if-i-len.true, c.len.ensures)))

pub returns-then-i-len-clause-missed : goal.returns-then-i-len-clause-missed
returns-then-i-len-clause-missed c d =
    let e = (goal.at.returns-then-i-len-clause-missed c).After-header-header in
    let h : HeapWords = heap_in c.args.self.now in
    got_no_field h d c.args.s c.in-Some.at.0 c.args.i (giver e) (ap is_some (field_past h.space.words c.in-Some.at.0 c.args.i c.header-header.result c.args.self.now.sound.space.walked c.header-header.ensures.value (omega (arith, c.if-i-len.true, c.len.ensures))))

pub field-field-requires-clause-there : goal.field-field-requires-clause-there
field-field-requires-clause-there c =
    let e = (goal.at.field-field-requires-clause-there c).After-header-header in
    subst (λ (m : Mine). IsSome (field_at m.space.words c.in-Some.at.0 c.args.i)) (still e)
    (field_within (heap_in c.args.self.now).space.words c.in-Some.at.0 c.args.i c.header-header.result c.args.self.now.sound.space.walked c.header-header.ensures.value (omega (arith, c.if-i-len.false, c.len.ensures)))

pub root_word-requires : goal.root_word-requires
root_word-requires c raw =
    let e = (goal.at.root_word-requires c).After-header-header in
    let f = fine e c.args.i c.field-field.result (read _ _ c.in-Some.at.0 c.args.i c.field-field.result (still e) c.field-field.ensures.value) in
    subst (λ b. IsWordOfField b (heap_in c.args.self.now).space.words c.field-field.result) raw f

pub returns-clause-value : goal.returns-clause-value
returns-clause-value c =
    let e = (goal.at.returns-clause-value c).After-header-header in
    let r = read _ _ c.in-Some.at.0 c.args.i c.field-field.result (still e) c.field-field.ensures.value in
    value_at (heap_in c.args.self.now) c.args.s c.in-Some.at.0 c.args.i (giver e) ∙ ap (option_map (field_value (giver e).block.header)) r
    ∙ ap (λ v. Some v) (sym (meaning e c.field-field.result c.root_word.result c.root_word.ensures.value))

pub returns-clause-got : goal.returns-clause-got
returns-clause-got c d =
    let e = (goal.at.returns-clause-got c).After-header-header in
    let r = read _ _ c.in-Some.at.0 c.args.i c.field-field.result (still e) c.field-field.ensures.value in
    got (heap_in c.args.self.now) d c.args.s c.in-Some.at.0 c.args.i c.field-field.result c.root_word.result (view_of (graph_in (heap_in c.args.self.now)).objects (value_of c.root_word.result)) (giver e) r
    (meaning e c.field-field.result c.root_word.result c.root_word.ensures.value) refl

pub returns-clause-word : goal.returns-clause-word
returns-clause-word c =
    let e = (goal.at.returns-clause-word c).After-header-header in
    let r = read _ _ c.in-Some.at.0 c.args.i c.field-field.result (still e) c.field-field.ensures.value in
    c.root_word.ensures.word (heap_in c.args.self.now).space.words (fine e c.args.i c.field-field.result r)

pub returns-clause-allowed : goal.returns-clause-allowed
returns-clause-allowed c =
    let e = (goal.at.returns-clause-allowed c).After-header-header in
    let allowed = MayBeCopied c.args.self.now.mutator.seat.me.0.mine.base in
    let r = read _ _ c.in-Some.at.0 c.args.i c.field-field.result (still e) c.field-field.ensures.value in
    subst (RefersTo allowed) (sym (meaning e c.field-field.result c.root_word.result c.root_word.ensures.value))
    (read_leads allowed (heap_in c.args.self.now) c.args.s c.in-Some.at.0 c.args.i c.field-field.result (giver e) r c.args.self.now.leads)
