-- A put of a value that no root has to hold writes its word, or replies why it does not.
use Rattle.std.proofs.Common.{◌≡◌, ℕ, ◌<◌, false, List, length, ap, sym, ◌∙◌, arith}
use Rattle.std.specs.Prelude.{◌&&◌, not}
use Rattle.std.proofs.lemmas.List.{length-map}
use Rattle.gc_graph.specs.Graph.{Object}
use Rattle.gc_graph.specs.Machine.{is_number}
use Rattle.gc_words.specs.Image.{object_of_block}
use Rattle.gc_words.specs.Word.{field_value, value_of}
use Rattle.gc_words.specs.declared.header.Header.{Header}
use Rattle.gc_collected.specs.Internal.CollectedHeap.{state_in}
use Rattle.gc_collected.specs.Values.{put_value_step, value_of_plain}
use Rattle.gc_collected.proofs.ValuesPut.{no_field, no_number, no_object, put_done}
use Rattle.gc_collected.proofs.values.put_plain_in.Goals as goal

pub returns-in_default-clause-step : goal.returns-in_default-clause-step
returns-in_default-clause-step c =
    let n = length-map c.args.heap.now.roots value_of in
    no_object (state_in c.args.heap.now c.args.collection.now) c.args.m c.args.s c.args.i (value_of_plain c.args.value) (omega (arith, n, c.requires.target)) c.in_default.ensures.is

-- the object in root s
abbrev found : Header → List ℕ → Object
found header fields = object_of_block (record { header = header; fields = fields })

-- it has as many fields as its header says
long : (header : Header) (fields : List ℕ) → length fields ≡ header.len → length (found header fields).fields ≡ header.len
long header fields is = length-map fields (field_value header) ∙ is

pub returns-then-i-len-clause-step : goal.returns-then-i-len-clause-step
returns-then-i-len-clause-step c =
    let n = length-map c.args.heap.now.roots value_of in
    let is = long c.in-Some.header c.in-Some.field-0-2.now c.in-Some.ensures.long in
    no_field (state_in c.args.heap.now c.args.collection.now) c.args.m c.args.s c.args.i (value_of_plain c.args.value) (found c.in-Some.header c.in-Some.field-0-2.now) (omega (arith, n, c.requires.target)) c.in-Some.ensures.is
    (let past = c.if-i-len.true in let len = c.len.ensures in omega (arith, is, past, len))

pub returns-in_default-field_word-clause-step : goal.returns-in_default-field_word-clause-step
returns-in_default-field_word-clause-step c =
    let n = length-map c.args.heap.now.roots value_of in
    let is = long c.in-Some.header c.in-Some.field-0-2.now c.in-Some.ensures.long in
    no_number (state_in c.args.heap.now c.args.collection.now) c.args.m c.args.s c.args.i (value_of_plain c.args.value) (found c.in-Some.header c.in-Some.field-0-2.now) (omega (arith, n, c.requires.target)) c.in-Some.ensures.is
    (let less = c.if-i-len.false in let len = c.len.ensures in omega (arith, is, less, len))
    (ap (λ v. c.in-Some.header.raw && not (is_number v)) (sym c.plain_word.ensures.value) ∙ sym c.in_default-field_word.ensures.refused)

pub returns-clause-step : goal.returns-clause-step
returns-clause-step c =
    let s = state_in c.args.heap.now c.args.collection.now in
    let v = value_of_plain c.args.value in
    let n = length-map c.args.heap.now.roots value_of in
    let is = long c.in-Some.header c.in-Some.field-0-2.now c.in-Some.ensures.long in
    let less : c.args.i < length (found c.in-Some.header c.in-Some.field-0-2.now).fields = let below = c.if-i-len.false in let len = c.len.ensures in omega (arith, is, below, len) in
    let refused : c.in-Some.header.raw && not (is_number v) ≡ false = ap (λ x. c.in-Some.header.raw && not (is_number x)) (sym c.plain_word.ensures.value) ∙ sym c.in-Some-field_word.ensures.refused in
    let word : field_value c.in-Some.header c.in-Some-field_word.word ≡ v = c.in-Some-field_word.ensures.value ∙ c.plain_word.ensures.value in
    let done = put_done s c.args.m c.args.s c.args.i v (found c.in-Some.header c.in-Some.field-0-2.now) (omega (arith, n, c.requires.target)) c.in-Some.ensures.is less refused in
    let next = ap (λ x. (put_value_step s c.args.m c.args.s c.args.i x).1) (sym word) ∙ c.put_words.ensures.step in
    λ k. (done k, next k)
