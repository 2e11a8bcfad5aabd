-- As gc_heap's `put_at`.
use Rattle.std.proofs.lemmas.Grind.{common_steps}
use Rattle.std.proofs.Common.{ℕ, Option, Some, is_none, is_some, true, ◌&&◌, ◌≡◌, ap, ◌<◌, ◌∙◌, refl, sym, subst, arith}
use Rattle.std.specs.Prelude.{not, IsSome}
use Rattle.gc_graph.specs.Graph.{Value, Graph, object_of, field_of, root}
use Rattle.gc_graph.specs.Machine.{is_number, put_field}
use Rattle.gc_graph.specs.declared.reply.Reply.{Reply}
use Rattle.gc_graph.specs.declared.reply.Reply.TheVariants.{NoField, NoNumber, Done}
use Rattle.gc_words.specs.Word.{value_of, field_value}
use Rattle.gc_words.specs.Image.{field_at}
use Rattle.gc_words.specs.Space.{SpaceWords, with_field_at}
use Rattle.gc_words.specs.Closed.{IsFieldWord}
use Rattle.gc_words.proofs.Public.{field_within, field_past}
use Rattle.gc_heap.specs.Heap.{HeapWords, IsHeap, graph_in}
use Rattle.gc_heap.proofs.Public.{Points, points, header_is, put_no_field, put_refused, put_done, written_heap}
use Rattle.gc_words.specs.Image.{block_at}
use Rattle.gc_words.specs.declared.header.Header.{Header}
use Rattle.gc_model.specs.Belonging.{RefersTo}
use Rattle.gc_model.specs.Carried.{LeadsOnlyTo}
use Rattle.gc_concurrent.specs.Unreachable.{MayBeCopied}
use Rattle.gc_concurrent.proofs.Keeping.{wrote_leads}
use Rattle.gc_concurrent.specs.Ends.{Beginning, Mine}
use Rattle.gc_concurrent.specs.Heaps.{heap_of}
use Rattle.gc_concurrent.proofs.commands.Commander.write.Goals as goal
use Rattle.gc_concurrent.proofs.commands.Commander.write.Goals.{After-header-header, After-field_word, After-set_field}

abbrev Puts : HeapWords → ℕ → ℕ → Value → Reply × Graph → Type 0
Puts h s i v made =
    let object = object_of (graph_in h).objects (root (graph_in h) s) in
    made ≡ put_field (graph_in h) (root (graph_in h) s) object (field_of object i) i v

abbrev heap : After-header-header → HeapWords
heap c = heap_of c.args.self.now.mutator.seat.me.0.mine c.args.self.now.roots.items

target : (c : After-header-header) → Points (heap c) c.args.s c.in-Some.at.0
target c = points (heap c) (heap c) c.args.s c.in-Some.at.0 _ refl c.args.self.now.sound c.requires.target c.index-target.ensures c.in-Some.ensures

header : (c : After-header-header) → (target c).block.header ≡ c.header-header.result
header c = header_is (heap c) c.args.s c.in-Some.at.0 c.header-header.result (target c) c.header-header.ensures.value

-- reading the header leaves the heap
still : (c : After-header-header) → c.args.self.now.mutator.seat.me.0.mine ≡ c.header-header.new.self.seat.me.0.mine
still c = λ i. (sym c.header-header.ensures.same i).0.mine

pub returns-then-i-len-clause-graph : goal.returns-then-i-len-clause-graph
returns-then-i-len-clause-graph c =
    let e = (goal.at.returns-then-i-len-clause-graph c).After-header-header in
    subst (λ (m : Mine). Puts (heap e) c.args.s c.args.i (value_of c.args.value) (NoField, graph_in (heap_of m c.args.self.now.roots.items))) (still e)
    (put_no_field (heap e) c.args.s c.in-Some.at.0 c.args.i _ (target e) (ap is_some (field_past (heap e).space.words c.in-Some.at.0 c.args.i c.header-header.result c.args.self.now.sound.space.walked c.header-header.ensures.value (omega (arith, c.if-i-len.true, c.len.ensures)))))

pub set_field-requires-clause-there : goal.set_field-requires-clause-there
set_field-requires-clause-there c =
    let e = (goal.at.set_field-requires-clause-there c).After-header-header in
    subst (λ (m : Mine). IsSome (field_at m.space.words c.in-Some.at.0 c.args.i)) (still e)
    (field_within (heap e).space.words c.in-Some.at.0 c.args.i c.header-header.result c.args.self.now.sound.space.walked c.header-header.ensures.value (omega (arith, c.if-i-len.false, c.len.ensures)))

some_same : {X : Type 0} {a b : X} → Some a ≡ Some b → a ≡ b
some_same e = cc e

has : (c : After-header-header) → c.args.i < c.header-header.result.len → is_some (field_at (heap c).space.words c.in-Some.at.0 c.args.i) ≡ true
has c less = field_within (heap c).space.words c.in-Some.at.0 c.args.i c.header-header.result c.args.self.now.sound.space.walked c.header-header.ensures.value less

no_word : (o : Option ℕ) → ((x : ℕ) → o ≡ Some x → ⊥) → is_none o ≡ true
no_word o none = grind (arith, common_steps)

pub returns-in_default-field_word-clause-graph : goal.returns-in_default-field_word-clause-graph
returns-in_default-field_word-clause-graph c =
    let at = goal.at.returns-in_default-field_word-clause-graph c in
    let e = at.After-header-header in
    let refused = (λ i. (header e i).raw && not (is_number (value_of c.args.value))) ∙ sym c.field_word.ensures.refused in
    subst (λ (m : Mine). Puts (heap e) c.args.s c.args.i (value_of c.args.value) (NoNumber, graph_in (heap_of m c.args.self.now.roots.items))) (still e)
    (put_refused (heap e) c.args.s c.in-Some.at.0 c.args.i _ (target e) (has e (omega (arith, c.if-i-len.false, c.len.ensures))) (refused ∙ no_word c.field_word.result c.in_default-field_word.not-Some))

-- the space after the write
after : (c : After-set_field) → (m : Mine) → m ≡ c.header-header.new.self.seat.me.0.mine
    → c.set_field.new.self.seat.me.0.mine.space ≡ with_field_at m.space c.in-Some.at.0 c.args.i c.in-Some-field_word.word
after c m e = c.set_field.ensures.words ∙ ap (λ (x : Mine). with_field_at x.space c.in-Some.at.0 c.args.i c.in-Some-field_word.word) (sym e)

pub invariant_of-self-2-clause-sound : goal.invariant_of-self-2-clause-sound
invariant_of-self-2-clause-sound c =
    let at = goal.at.invariant_of-self-2-clause-sound c in
    let e = at.After-header-header in
    let h : HeapWords = heap e in
    let word = subst (λ g. IsFieldWord h.space.words g c.in-Some-field_word.word) (sym (header e)) (c.in-Some-field_word.ensures.word h.space.words c.requires.word) in
    subst (λ s. IsHeap (record h { space = s })) (sym (after at.After-set_field c.args.self.now.mutator.seat.me.0.mine (still e)))
    (written_heap h c.in-Some.at.0 c.args.i _ (target e).block c.args.self.now.sound (target e).found (has e (omega (arith, c.if-i-len.false, c.len.ensures))) word)

pub returns-clause-graph : goal.returns-clause-graph
returns-clause-graph c =
    let at = goal.at.returns-clause-graph c in
    let e = at.After-header-header in
    let refused = (λ i. (header e i).raw && not (is_number (value_of c.args.value))) ∙ sym c.field_word.ensures.refused in
    let means = sym c.in-Some-field_word.ensures.value ∙ ap (λ g. field_value g c.in-Some-field_word.word) (sym (header e)) in
    let made : SpaceWords → Reply × Graph = λ s. (Done, graph_in (record (heap e) { space = s })) in
    ap made (after at.After-set_field c.args.self.now.mutator.seat.me.0.mine (still e))
    ∙ put_done (heap e) c.args.s c.in-Some.at.0 c.args.i _ _ (target e) c.args.self.now.sound (has e (omega (arith, c.if-i-len.false, c.len.ensures))) (refused ∙ ap is_none c.in-Some-field_word.is) means

-- the value of the word that is written may be referred to
leads : (c : After-field_word) (h : Header) (w : ℕ) → (heap_header : (target_header : Header) × (target_header ≡ h)) → field_value h w ≡ value_of c.args.value → RefersTo (MayBeCopied c.args.self.now.mutator.seat.me.0.mine.base) (field_value heap_header.0 w)
leads c h w same means = subst (RefersTo (MayBeCopied c.args.self.now.mutator.seat.me.0.mine.base)) (sym means ∙ ap (λ g. field_value g w) (sym same.1)) c.requires.allowed

pub set_field-requires-clause-allowed : goal.set_field-requires-clause-allowed
set_field-requires-clause-allowed c b found =
    let at = goal.at.set_field-requires-clause-allowed c in
    let e = at.After-header-header in
    let block : (target e).block ≡ b = some_same (sym (target e).found ∙ (λ i. block_at (still e i).space.words c.in-Some.at.0) ∙ found) in
    subst (λ (m : Mine). RefersTo (MayBeCopied m.base) (field_value b.header c.in-Some-field_word.word)) (still e)
    (leads at.After-field_word c.header-header.result c.in-Some-field_word.word (b.header, (λ i. (sym block i).header) ∙ header e) c.in-Some-field_word.ensures.value)

pub invariant_of-self-2-clause-leads : goal.invariant_of-self-2-clause-leads
invariant_of-self-2-clause-leads c =
    let at = goal.at.invariant_of-self-2-clause-leads c in
    let e = at.After-header-header in
    let h : HeapWords = heap e in
    let began : Beginning = c.args.self.now.mutator.seat.me.0.mine.base in
    let base : c.set_field.new.self.seat.me.0.mine.base ≡ began = c.set_field.ensures.base ∙ (λ i. (sym (still e) i).base) in
    subst (λ (x : Beginning). LeadsOnlyTo (MayBeCopied x) (graph_in (heap_of c.set_field.new.self.seat.me.0.mine c.args.self.now.roots.items))) (sym base)
    (subst (λ s. LeadsOnlyTo (MayBeCopied began) (graph_in (record h { space = s }))) (sym (after at.After-set_field c.args.self.now.mutator.seat.me.0.mine (still e)))
    (wrote_leads (MayBeCopied began) h.space h.roots c.in-Some.at.0 c.args.i _ (target e).block c.args.self.now.sound.space (has e (omega (arith, c.if-i-len.false, c.len.ensures))) (target e).found c.args.self.now.leads
    (leads at.After-field_word c.header-header.result c.in-Some-field_word.word ((target e).block.header, header e) c.in-Some-field_word.ensures.value)))
