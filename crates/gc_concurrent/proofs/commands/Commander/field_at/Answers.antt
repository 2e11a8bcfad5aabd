-- The field of the object that starts there, read as its header says.
use Rattle.std.proofs.Common.{◌≡◌, ◌∙◌, ℕ, Some, None, ap, sym, subst, arith}
use Rattle.std.specs.Prelude.{IsSome, Option}
use Rattle.std.specs.Option.{option_map}
use Rattle.gc_graph.specs.Graph.{Object, Value, field_of}
use Rattle.gc_words.specs.Closed.{IsFieldWord, IsWordOfField}
use Rattle.gc_words.specs.Image.{Block, block_at, field_at}
use Rattle.gc_words.specs.Word.{field_value}
use Rattle.gc_words.specs.declared.header.Header.{Header}
use Rattle.gc_words.proofs.Public.{block_of_header, closed_field_read, field_found, field_past, field_within}
use Rattle.gc_heap.specs.Heap.{HeapWords}
use Rattle.gc_concurrent.specs.Ends.{Mine}
use Rattle.gc_concurrent.specs.Holders.{heap_in}
use Rattle.gc_concurrent.proofs.Addressing.{none_named}
use Rattle.gc_concurrent.proofs.commands.Commander.field_at.Goals as goal
use Rattle.gc_concurrent.proofs.commands.Commander.field_at.Goals.{After-header-header}

pub returns-then-not-has_object-clause-value : goal.returns-then-not-has_object-clause-value
returns-then-not-has_object-clause-value c =
    let h : HeapWords = heap_in c.args.self.now in
    sym (ap (λ (o : Option Object). field_of o c.args.i) (none_named h.space.words c.args.a.0 (sym c.has_object.ensures ∙ c.if-not-has_object.true)))

still : (c : After-header-header) → c.args.self.now.mutator.seat.me.0.mine ≡ c.header-header.new.self.seat.me.0.mine
still c = λ i. (sym c.header-header.ensures.same i).0.mine

-- the header and the word that were read are those of the object in the graph
block : (c : After-header-header) → (b : Block) × (block_at (heap_in c.args.self.now).space.words c.args.a.0 ≡ Some b) × (b.header ≡ c.header-header.result)
block c = block_of_header (heap_in c.args.self.now).space.words c.args.a.0 c.header-header.result c.header-header.ensures.value

word : (m m' : Mine) (a i f : ℕ) → m ≡ m' → field_at m'.space.words a i ≡ Some f → field_at m.space.words a i ≡ Some f
word m m' a i f e read = subst (λ (x : Mine). field_at x.space.words a i ≡ Some f) (sym e) read

fine : (c : After-header-header) (i f : ℕ) → field_at (heap_in c.args.self.now).space.words c.args.a.0 i ≡ Some f → IsFieldWord (heap_in c.args.self.now).space.words c.header-header.result f
fine c i f read =
    let h : HeapWords = heap_in c.args.self.now in
    let b = block c in
    subst (λ (k : Header). IsFieldWord h.space.words k f) b.2 (closed_field_read h.space.words h.roots c.args.a.0 i f b.0 c.args.self.now.sound.closed b.1 read)

pub returns-then-i-from-clause-value : goal.returns-then-i-from-clause-value
returns-then-i-from-clause-value c =
    let e = (goal.at.returns-then-i-from-clause-value c).After-header-header in
    let h : HeapWords = heap_in c.args.self.now in
    let b = block e in
    let none : field_at h.space.words c.args.a.0 c.args.i ≡ None = field_past h.space.words c.args.a.0 c.args.i c.header-header.result c.args.self.now.sound.space.walked c.header-header.ensures.value (omega (arith, c.len.ensures, c.from.ensures, c.if-i-from.true)) in
    sym (field_found h.space.words c.args.a.0 c.args.i b.0 b.1 ∙ ap (option_map (field_value b.0.header)) none)

pub field-field-requires-clause-there : goal.field-field-requires-clause-there
field-field-requires-clause-there c =
    let e = (goal.at.field-field-requires-clause-there c).After-header-header in
    subst (λ (m : Mine). IsSome (field_at m.space.words c.args.a.0 c.args.i)) (still e)
    (field_within (heap_in c.args.self.now).space.words c.args.a.0 c.args.i c.header-header.result c.args.self.now.sound.space.walked c.header-header.ensures.value (omega (arith, c.len.ensures, c.from.ensures, c.if-i-from.false)))

pub root_word-requires : goal.root_word-requires
root_word-requires c raw =
    let e = (goal.at.root_word-requires c).After-header-header in
    let r = word _ _ c.args.a.0 c.args.i c.field-field.result (still e) c.field-field.ensures.value in
    subst (λ b. IsWordOfField b (heap_in c.args.self.now).space.words c.field-field.result) raw (fine e c.args.i c.field-field.result r)

pub value_in-requires : goal.value_in-requires
value_in-requires c =
    let e = (goal.at.value_in-requires c).After-header-header in
    let r = word _ _ c.args.a.0 c.args.i c.field-field.result (still e) c.field-field.ensures.value in
    (c.root_word.ensures.word (heap_in c.args.self.now).space.words (fine e c.args.i c.field-field.result r)).value

pub returns-clause-value : goal.returns-clause-value
returns-clause-value c =
    let e = (goal.at.returns-clause-value c).After-header-header in
    let h : HeapWords = heap_in c.args.self.now in
    let b = block e in
    let r = word _ _ c.args.a.0 c.args.i c.field-field.result (still e) c.field-field.ensures.value in
    ap (λ (v : Value). Some v) (c.value_in.ensures.value ∙ c.root_word.ensures.value ∙ ap (λ (k : Header). field_value k c.field-field.result) (sym b.2))
    ∙ sym (field_found h.space.words c.args.a.0 c.args.i b.0 b.1 ∙ ap (option_map (field_value b.0.header)) r)
