-- Bytes that were written over those of a text are read again, and nothing else has changed.
use Rattle.std.proofs.lemmas.Bool.{cases_lt, le-leb, lt-leb}
use Rattle.std.proofs.lemmas.List.{length-map}
use Rattle.std.proofs.Common.{◌≡◌, ℕ, ◌+◌, ◌/◌, ◌<◌, ◌≤◌, inl, inr, List, length, map, true, false, Option, Some, None, refl, ap, sym, ◌∙◌, subst, arith}
use Rattle.std.specs.Prelude.{Bool, slice_get, if◌then◌else◌}
use Rattle.std.specs.Bool.{then_some}
use Rattle.std.specs.Option.{option_and_then, unwrap_or}
use Rattle.gc_bytes.specs.Text.{AreBytes, changed_words, fields_for, overwritten, text_of}
use Rattle.gc_graph.specs.Graph.{Graph, Object, Value, Nil, Num, Ref, lookup, number_of, object_of, root}
use Rattle.gc_graph.specs.Machine.{view_of, view_of_object}
use Rattle.gc_graph.specs.declared.reply.Reply.{Reply}
use Rattle.gc_graph.specs.declared.reply.Reply.TheVariants.{Done, NoField}
use Rattle.gc_graph.specs.declared.reply.View.TheVariants as views
use Rattle.gc_model.specs.State.{State}
use Rattle.gc_collected.specs.Bytes.{OnlyText, text_in, text_of_object, write, write_step}
use Rattle.gc_collected.specs.Giving.{gives_step}
use Rattle.gc_collected.specs.declared.giving.FieldValue.TheVariants.{Number}
use Rattle.gc_collected.proofs.WrittenNumbers.{Wrote, all_put, fields_after, length_after, numbers_after}

-- ---- the text

record HasText (g : Graph) (v : Value) (text : List ℕ) : Type 0 where
  name : ℕ
  object : Object
  target : v ≡ Ref name
  there : lookup g.objects name ≡ Some object
  raw : object.raw ≡ true
  is : text_of (map number_of object.fields) ≡ Some text

raw_text : (o : Object) (raw : Bool) (text : List ℕ) → o.raw ≡ raw → text_of_object (Some o) ≡ Some text → (o.raw ≡ true) × (text_of (map number_of o.fields) ≡ Some text)
raw_text o true text raw is = (raw, sym (ap (λ b. option_and_then text_of (then_some b (map number_of o.fields))) raw) ∙ is)
raw_text o false text raw is = absurd (let no : None ≡ Some text = sym (ap (λ b. option_and_then text_of (then_some b (map number_of o.fields))) raw) ∙ is in cc)

has_text : (g : Graph) (v : Value) (text : List ℕ) → text_of_object (object_of g.objects v) ≡ Some text → HasText g v text
has_text g Nil text is = absurd (let no : None ≡ Some text = is in cc)
has_text g (Num n) text is = absurd (let no : None ≡ Some text = is in cc)
has_text g (Ref a) text is = go (lookup g.objects a) refl
  where
    go : (o : Option Object) → lookup g.objects a ≡ o → HasText g (Ref a) text
    go None at = absurd (let no : None ≡ Some text = sym (ap text_of_object at) ∙ is in cc)
    go (Some o) at = let both = raw_text o o.raw text refl (sym (ap text_of_object at) ∙ is) in record { name = a; object = o; target = refl; there = at; raw = both.0; is = both.1 }

-- what is known of the words of texts
pub record Law : Type 0 where
  pub text : (words text bytes : List ℕ) (at : ℕ) → AreBytes bytes → text_of words ≡ Some text → at + length bytes ≤ length text → text_of (overwritten words (at / 7) (changed_words text at bytes)) ≡ Some (overwritten text at bytes)
  pub counted : (words text : List ℕ) → text_of words ≡ Some text → length words ≡ fields_for (length text)
  pub within : (text bytes : List ℕ) (at : ℕ) → at + length bytes ≤ length text → at / 7 + length (changed_words text at bytes) ≤ fields_for (length text)

module _ (law : Law) (s : State) (m p at : ℕ) (bytes text : List ℕ) (all : AreBytes bytes) (within : p < length s.heap.graph.roots) (is : text_in s.heap.graph p ≡ Some text) (fits : at + length bytes ≤ length text) where
  abbrev words : List ℕ
  words = changed_words text at bytes

  abbrev next : State
  next = gives_step s m p (at / 7) (map Number words)

  found : HasText s.heap.graph (root s.heap.graph p) text
  found = has_text s.heap.graph (root s.heap.graph p) text is

  abbrev fields : List Value
  fields = found.object.fields

  wide : at / 7 + length words ≤ length fields
  wide = let one = law.within text bytes at fits in let all = law.counted (map number_of fields) text found.is in let count = length-map fields number_of in omega arith

  wrote : Wrote s.heap next.heap found.name (record found.object { fields = fields_after fields (at / 7) words })
  wrote = all_put words s m p (at / 7) found.name found.object within found.target found.there wide

  target : root next.heap.graph p ≡ Ref found.name
  target = ap (λ (rs : List Value). unwrap_or (slice_get rs p) Nil) wrote.roots ∙ found.target

  only : OnlyText s.heap next.heap p (overwritten text at bytes)
  only = record {
    is =
        ap (λ (v : Value). text_of_object (object_of next.heap.graph.objects v)) target
        ∙ ap text_of_object wrote.there
        ∙ ap (λ b. option_and_then text_of (then_some b (map number_of (fields_after fields (at / 7) words)))) found.raw
        ∙ ap text_of (numbers_after words fields (at / 7) wide)
        ∙ law.text (map number_of fields) text bytes at all found.is fits;
    looks =
        ap (view_of next.heap.graph.objects) target
        ∙ ap view_of_object wrote.there
        ∙ ap (λ n. if found.object.raw then views.RawObj found.object.kind n else views.Obj found.object.kind n) (length_after words fields (at / 7))
        ∙ sym (ap (view_of s.heap.graph.objects) found.target ∙ ap view_of_object found.there);
    others = λ b apart. wrote.others b (λ same. apart (found.target ∙ ap Ref (sym same)));
    roots = wrote.roots;
    free = wrote.free;
  }

pub written_text : (law : Law) (old new : State) (m p at : ℕ) (bytes text : List ℕ) → AreBytes bytes → p < length old.heap.graph.roots → text_in old.heap.graph p ≡ Some text → write_step old m p at bytes ≡ (Done, new) → OnlyText old.heap new.heap p (overwritten text at bytes)
written_text law old new m p at bytes text all within is step =
    let done : write old m p (Some text) at bytes ≡ (Done, new) = sym (ap (λ t. write old m p t at bytes) is) ∙ step in
    let wrote : Reply × State = (Done, gives_step old m p (at / 7) (map Number (changed_words text at bytes))) in
    let pick : Bool → Reply × State = (λ b. if b then wrote else (NoField, old)) in
    elim (cases_lt (length text) (at + length bytes)) [
      | inl more ↦ absurd (let no : ◌≡◌ {A = Reply × State} (NoField, old) (Done, new) = ap pick (sym (lt-leb (at + length bytes) (length text) more)) ∙ done in let bad : NoField ≡ Done = ap (λ (x : Reply × State). x.0) no in cc)
      | inr fits ↦
          let same : wrote ≡ (Done, new) = ap pick (sym (le-leb (at + length bytes) (length text) fits)) ∙ done in
          subst (λ (x : Reply × State). OnlyText old.heap x.1.heap p (overwritten text at bytes)) same (only law old m p at bytes text all within is fits)
    ]
