-- Each test refuses what the machine refuses, with its reply; the one word that is written leaves what its `Put` leaves.
use Rattle.std.proofs.lemmas.Grind.{common_steps}
use Rattle.std.proofs.Common.{ℕ, Option, Some, is_none, true, false, if◌then◌else◌, ◌&&◌, ◌≡◌, ap, ◌<◌, length, ◌∙◌, refl, sym, subst, arith}
use Rattle.std.specs.Prelude.{not}
use Rattle.gc_graph.specs.Graph.{Graph, Num, object_of, field_of, root}
use Rattle.gc_graph.specs.Machine.{is_number, put_field}
use Rattle.gc_graph.specs.declared.reply.Reply.{Reply}
use Rattle.gc_graph.specs.declared.reply.Reply.TheVariants.{NoField, NoNumber, Done}
use Rattle.gc_words.specs.Word.{value_of, field_value}
use Rattle.gc_words.specs.Space.{SpaceWords}
use Rattle.gc_words.specs.declared.header.Header.{Header}
use Rattle.gc_words.specs.Closed.{IsFieldWord, IsRootWord, IsWordOfField}
use Rattle.gc_heap.specs.contracts.heap.Heap.{the_view}
use Rattle.gc_heap.specs.Heap.{HeapWords, IsHeap, graph_in}
use Rattle.gc_heap.proofs.Commands.{Points, points, read_root, root_word, at_root, not_there, header_is, put_no_field, put_refused, put_done, written_heap}
use Rattle.gc_heap.proofs.heap.Heap.put_at.Goals as goal
use Rattle.gc_heap.proofs.heap.Heap.put_at.Goals.{In-Some, After-field_word, After-set_field, After-set_field-2}

-- a reply and a graph are what the machine's `Put` gives
abbrev Puts : HeapWords → ℕ → ℕ → ℕ → Reply × Graph → Type 0
Puts h s i t made =
    let object = object_of (graph_in h).objects (root (graph_in h) s) in
    made ≡ put_field (graph_in h) (root (graph_in h) s) object (field_of object i) i (root (graph_in h) t)

-- the object that the target refers to
target : (c : In-Some) → Points (the_view c.self.inside) c.args.s c.in-Some.at.0
target c = points _ _ c.args.s c.in-Some.at.0 _ c.self.view_is c.self.invariant c.requires.target c.index-target.ensures c.in-Some.ensures

-- the value is spelled as a word for the object that the target refers to, unless it is refused
record Context (c : After-field_word) : Type 0 where
  target : Points (the_view c.self.inside) c.args.s c.in-Some.at.0
  header : target.block.header ≡ c.header-header.result
  value : root (graph_in (the_view c.self.inside)) c.args.t ≡ value_of c.index-word.result.now
  refused : (target.block.header.raw && not (is_number (root (graph_in (the_view c.self.inside)) c.args.t))) ≡ is_none c.field_word.result

context : (c : After-field_word) → Points (the_view c.self.inside) c.args.s c.in-Some.at.0 → Context c
context c target =
    let h : HeapWords = the_view c.self.inside in
    let less : c.args.t < length h.roots = subst (λ (h : HeapWords). c.args.t < length h.roots) (sym c.self.view_is) c.requires.giver in
    let value = at_root h c.args.t c.index-word.result.now (read_root h h.roots c.args.t _ refl less c.index-word.ensures) in
    let header = header_is h c.args.s c.in-Some.at.0 c.header-header.result target c.header-header.ensures in
    record { target = target; header = header; value = value; refused = (λ i. (header i).raw && not (is_number (value i))) ∙ sym c.field_word.ensures.refused }

pub returns-then-not-has_field-clause-graph : goal.returns-then-not-has_field-clause-graph
returns-then-not-has_field-clause-graph c =
    subst (λ h. Puts h c.args.s c.args.i c.args.t (NoField, graph_in h)) c.self.view_is
    (put_no_field _ c.args.s c.in-Some.at.0 c.args.i _ (target (goal.at.returns-then-not-has_field-clause-graph c).In-Some) (not_there c.has_field.result _ c.has_field.ensures c.if-not-has_field.true))

no_word : (o : Option ℕ) → ((x : ℕ) → o ≡ Some x → ⊥) → is_none o ≡ true
no_word o none = grind (arith, common_steps)

pub returns-in_default-field_word-clause-graph : goal.returns-in_default-field_word-clause-graph
returns-in_default-field_word-clause-graph c =
    let at = goal.at.returns-in_default-field_word-clause-graph c in
    let k = context at.After-field_word (target at.In-Some) in
    subst (λ h. Puts h c.args.s c.args.i c.args.t (NoNumber, graph_in h)) c.self.view_is
    (put_refused _ c.args.s c.in-Some.at.0 c.args.i _ k.target (c.has_field.ensures.0 c.if-not-has_field.false) (k.refused ∙ no_word c.field_word.result c.in_default-field_word.not-Some))

-- the heap after a number is written to a raw object
sound : (c : After-set_field) → IsHeap (record (the_view c.self.inside) { space = c.set_field.new.self })
sound c =
    let at = goal.at.returns-then-is_raw-clause-sound c in
    let k = context at.After-field_word (target at.In-Some) in
    let word = subst (λ g. IsFieldWord c.self.inside.space.words g c.in-Some-field_word.number) (sym k.header) c.in-Some-field_word.ensures.word in
    subst (λ s. IsHeap (record (the_view c.self.inside) { space = s })) (sym c.set_field.ensures.words)
    (written_heap _ c.in-Some.at.0 c.args.i _ k.target.block c.self.invariant k.target.found (c.has_field.ensures.0 c.if-not-has_field.false) word)

pub invariant_of-self : goal.invariant_of-self
invariant_of-self c = sound c

pub returns-then-is_raw-clause-sound : goal.returns-then-is_raw-clause-sound
returns-then-is_raw-clause-sound c = sound c

pub returns-then-is_raw-clause-graph : goal.returns-then-is_raw-clause-graph
returns-then-is_raw-clause-graph c =
    let at = goal.at.returns-then-is_raw-clause-graph c in
    let k = context at.After-field_word (target at.In-Some) in
    let made : SpaceWords → Reply × Graph = λ s. (Done, graph_in (record (the_view c.self.inside) { space = s })) in
    let means = k.value ∙ sym c.in-Some-field_word.ensures.value ∙ ap (λ g. field_value g c.in-Some-field_word.number) (sym k.header) in
    subst (λ (g : HeapWords). Puts g c.args.s c.args.i c.args.t (made c.set_field.new.self)) c.self.view_is
    (ap made c.set_field.ensures.words ∙ put_done _ c.args.s c.in-Some.at.0 c.args.i _ _ k.target c.self.invariant (c.has_field.ensures.0 c.if-not-has_field.false) (k.refused ∙ ap is_none c.in-Some-field_word.is) means)

-- a field of another object takes the root's word as it is
record Plain (c : After-set_field-2) : Type 0 where
  target : Points (the_view c.self.inside) c.args.s c.in-Some.at.0
  taken : (target.block.header.raw && not (is_number (root (graph_in (the_view c.self.inside)) c.args.t))) ≡ false
  value : root (graph_in (the_view c.self.inside)) c.args.t ≡ field_value target.block.header c.index-word.result.now
  word : IsFieldWord c.self.inside.space.words target.block.header c.index-word.result.now

plain : (c : After-set_field-2) → Plain c
plain c =
    let h : HeapWords = the_view c.self.inside in
    let target = target (goal.at.returns-clause-sound c).In-Some in
    let less : c.args.t < length h.roots = subst (λ (h : HeapWords). c.args.t < length h.roots) (sym c.self.view_is) c.requires.giver in
    let read = read_root h h.roots c.args.t _ refl less c.index-word.ensures in
    let raw : target.block.header.raw ≡ false =
    ap (λ (g : Header). g.raw) (header_is h c.args.s c.in-Some.at.0 c.header-header.result target c.header-header.ensures) ∙ sym c.is_raw.ensures ∙ c.if-is_raw.false in
    record {
      target = target;
      taken = ap (λ b. b && not (is_number (root (graph_in h) c.args.t))) raw;
      value = at_root h c.args.t c.index-word.result.now read ∙ sym (ap (λ b. if b then Num c.index-word.result.now else value_of c.index-word.result.now) raw);
      word = subst (λ b. IsWordOfField b h.space.words c.index-word.result.now) (sym raw) (subst (IsRootWord h.space.words) (sym read) (root_word h c.args.t c.self.invariant less));
    }

sound_plain : (c : After-set_field-2) → IsHeap (record (the_view c.self.inside) { space = c.set_field-2.new.self })
sound_plain c =
    let k = plain c in
    subst (λ s. IsHeap (record (the_view c.self.inside) { space = s })) (sym c.set_field-2.ensures.words)
    (written_heap _ c.in-Some.at.0 c.args.i _ k.target.block c.self.invariant k.target.found (c.has_field.ensures.0 c.if-not-has_field.false) k.word)

pub invariant_of-self-2 : goal.invariant_of-self-2
invariant_of-self-2 c = sound_plain c

pub returns-clause-sound : goal.returns-clause-sound
returns-clause-sound c = sound_plain c

pub returns-clause-graph : goal.returns-clause-graph
returns-clause-graph c =
    let k = plain c in
    let made : SpaceWords → Reply × Graph = λ s. (Done, graph_in (record (the_view c.self.inside) { space = s })) in
    subst (λ (g : HeapWords). Puts g c.args.s c.args.i c.args.t (made c.set_field-2.new.self)) c.self.view_is
    (ap made c.set_field-2.ensures.words ∙ put_done _ c.args.s c.in-Some.at.0 c.args.i _ _ k.target c.self.invariant (c.has_field.ensures.0 c.if-not-has_field.false) k.taken k.value)
