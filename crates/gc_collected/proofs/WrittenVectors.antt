-- Words that were written over those of a vector are read again, and nothing else has changed.
use Rattle.std.proofs.lemmas.Bool.{cases_lt, le-leb, lt-leb}
use Rattle.std.proofs.lemmas.List.{length-map}
use Rattle.std.proofs.Common.{◌≡◌, ℕ, ◌+◌, ◌<◌, ◌≤◌, inl, inr, List, length, map, true, false, Option, Some, None, refl, ap, sym, ◌∙◌, subst, arith}
use Rattle.std.specs.Prelude.{Bool, slice_get, if◌then◌else◌}
use Rattle.std.specs.Bool.{then_some}
use Rattle.std.specs.Option.{option_map, unwrap_or}
use Rattle.gc_bytes.specs.Text.{overwritten}
use Rattle.gc_bytes.specs.Vector.{AreWords, changed_tops, first_top, low_bits, rewritten, words_in, words_of}
use Rattle.gc_graph.specs.Graph.{Graph, Object, Value, Nil, Num, Ref, lookup, number_of, object_of, root}
use Rattle.gc_graph.specs.Machine.{view_of, view_of_object}
use Rattle.gc_graph.specs.declared.reply.Reply.{Reply}
use Rattle.gc_graph.specs.declared.reply.Reply.TheVariants.{Done, NoField}
use Rattle.gc_graph.specs.declared.reply.View.TheVariants as views
use Rattle.gc_heap.specs.Raws.{numbers_in}
use Rattle.gc_model.specs.State.{State}
use Rattle.gc_collected.specs.Vectors.{OnlyVector, row_put, vector_in, words_put, write_over, write_words_step}
use Rattle.gc_collected.proofs.WrittenNumbers.{Wrote, all_put, fields_after, length_after, numbers_after}

-- ---- the vector

record HasVector (g : Graph) (v : Value) (vector : List ℕ) : Type 0 where
  name : ℕ
  object : Object
  target : v ≡ Ref name
  there : lookup g.objects name ≡ Some object
  raw : object.raw ≡ true
  is : words_of (map number_of object.fields) ≡ vector

raw_vector : (o : Object) (raw : Bool) (vector : List ℕ) → o.raw ≡ raw → option_map words_of (numbers_in (Some o)) ≡ Some vector → (o.raw ≡ true) × (words_of (map number_of o.fields) ≡ vector)
raw_vector o true vector raw is = (raw, (let e : Some (words_of (map number_of o.fields)) ≡ Some vector = sym (ap (λ b. option_map words_of (then_some b (map number_of o.fields))) raw) ∙ is in cc))
raw_vector o false vector raw is = absurd (let no : None ≡ Some vector = sym (ap (λ b. option_map words_of (then_some b (map number_of o.fields))) raw) ∙ is in cc)

has_vector : (g : Graph) (v : Value) (vector : List ℕ) → option_map words_of (numbers_in (object_of g.objects v)) ≡ Some vector → HasVector g v vector
has_vector g Nil vector is = absurd (let no : None ≡ Some vector = is in cc)
has_vector g (Num n) vector is = absurd (let no : None ≡ Some vector = is in cc)
has_vector g (Ref a) vector is = go (lookup g.objects a) refl
  where
    go : (o : Option Object) → lookup g.objects a ≡ o → HasVector g (Ref a) vector
    go None at = absurd (let no : None ≡ Some vector = sym (ap (λ o. option_map words_of (numbers_in o)) at) ∙ is in cc)
    go (Some o) at =
        let both = raw_vector o o.raw vector refl (sym (ap (λ o. option_map words_of (numbers_in o)) at) ∙ is) in
        record { name = a; object = o; target = refl; there = at; raw = both.0; is = both.1 }

-- what is known of the words of vectors
pub record Law : Type 0 where
  pub words : (fields words : List ℕ) (at : ℕ) → AreWords words → at + length words ≤ words_in (length fields) → words_of (rewritten fields at words) ≡ overwritten (words_of fields) at words
  pub within : (fields words : List ℕ) (at : ℕ) → at + length words ≤ words_in (length fields) → first_top fields at + length (changed_tops fields at words) ≤ length fields

module _ (law : Law) (s : State) (m p at : ℕ) (words vector : List ℕ) (all : AreWords words) (within : p < length s.heap.graph.roots) (found : HasVector s.heap.graph (root s.heap.graph p) vector) where
  abbrev fields : List Value
  fields = found.object.fields

  abbrev numbers : List ℕ
  numbers = map number_of fields

  abbrev lows : List ℕ
  lows = map low_bits words

  abbrev tops : List ℕ
  tops = changed_tops numbers at words

  abbrev first : ℕ
  first = first_top numbers at

  abbrev between : State
  between = row_put s m p at lows

  abbrev next : State
  next = words_put s m p numbers at words

  module _ (fits : at + length words ≤ words_in (length numbers)) where
    low_fits : at + length lows ≤ length fields
    low_fits = let k = length-map words low_bits in let n = length-map fields number_of in omega arith

    wrote : Wrote s.heap between.heap found.name (record found.object { fields = fields_after fields at lows })
    wrote = all_put lows s m p at found.name found.object within found.target found.there low_fits

    top_fits : first + length tops ≤ length (fields_after fields at lows)
    top_fits = let k = law.within numbers words at fits in let n = length-map fields number_of in let l = length_after lows fields at in omega arith

    target_between : root between.heap.graph p ≡ Ref found.name
    target_between = ap (λ (rs : List Value). unwrap_or (slice_get rs p) Nil) wrote.roots ∙ found.target

    more : Wrote between.heap next.heap found.name (record found.object { fields = fields_after (fields_after fields at lows) first tops })
    more = all_put tops between m p first found.name (record found.object { fields = fields_after fields at lows }) (subst (λ (rs : List Value). p < length rs) (sym wrote.roots) within) target_between wrote.there top_fits

    target : root next.heap.graph p ≡ Ref found.name
    target = ap (λ (rs : List Value). unwrap_or (slice_get rs p) Nil) more.roots ∙ target_between

    now : map number_of (fields_after (fields_after fields at lows) first tops) ≡ rewritten numbers at words
    now = numbers_after tops (fields_after fields at lows) first top_fits ∙ ap (λ xs. overwritten xs first tops) (numbers_after lows fields at low_fits)

    only : OnlyVector s.heap next.heap p (overwritten vector at words)
    only = record {
      is =
          ap (λ (v : Value). option_map words_of (numbers_in (object_of next.heap.graph.objects v))) target
          ∙ ap (λ (o : Option Object). option_map words_of (numbers_in o)) more.there
          ∙ ap (λ b. option_map words_of (then_some b (map number_of (fields_after (fields_after fields at lows) first tops)))) found.raw
          ∙ ap (λ xs. Some (words_of xs)) now
          ∙ ap Some (law.words numbers words at all fits)
          ∙ ap (λ xs. Some (overwritten xs at words)) found.is;
      looks =
          ap (view_of next.heap.graph.objects) target
          ∙ ap view_of_object more.there
          ∙ ap (λ n. if found.object.raw then views.RawObj found.object.kind n else views.Obj found.object.kind n) (length_after tops (fields_after fields at lows) first ∙ length_after lows fields at)
          ∙ sym (ap (view_of s.heap.graph.objects) found.target ∙ ap view_of_object found.there);
      others = λ b apart. let other : b ≡ found.name → ⊥ = (λ same. apart (found.target ∙ ap Ref (sym same))) in more.others b other ∙ wrote.others b other;
      roots = more.roots ∙ wrote.roots;
      free = more.free ∙ wrote.free;
    }

  numbers_are : numbers_in (object_of s.heap.graph.objects (root s.heap.graph p)) ≡ Some numbers
  numbers_are =
      ap (λ (v : Value). numbers_in (object_of s.heap.graph.objects v)) found.target
      ∙ ap numbers_in found.there
      ∙ ap (λ b. then_some b numbers) found.raw

  step_is : (new : State) → write_words_step s m p at words ≡ (Done, new) → OnlyVector s.heap new.heap p (overwritten vector at words)
  step_is new step =
      let done : write_over s m p (Some numbers) at words ≡ (Done, new) = sym (ap (λ ns. write_over s m p ns at words) numbers_are) ∙ step in
      let wrote_all : Reply × State = (Done, next) in
      let pick : Bool → Reply × State = (λ b. if b then wrote_all else (NoField, s)) in
      elim (cases_lt (words_in (length numbers)) (at + length words)) [
        | inl beyond ↦ absurd (let no : ◌≡◌ {A = Reply × State} (NoField, s) (Done, new) = ap pick (sym (lt-leb (at + length words) (words_in (length numbers)) beyond)) ∙ done in let bad : NoField ≡ Done = ap (λ (x : Reply × State). x.0) no in cc)
        | inr fits ↦
            let same : wrote_all ≡ (Done, new) = ap pick (sym (le-leb (at + length words) (words_in (length numbers)) fits)) ∙ done in
            subst (λ (x : Reply × State). OnlyVector s.heap x.1.heap p (overwritten vector at words)) same (only fits)
      ]

pub written_vector : (law : Law) (old new : State) (m p at : ℕ) (words vector : List ℕ) → AreWords words → p < length old.heap.graph.roots → vector_in old.heap.graph p ≡ Some vector → write_words_step old m p at words ≡ (Done, new)
    → OnlyVector old.heap new.heap p (overwritten vector at words)
written_vector law old new m p at words vector all within is step = step_is law old m p at words vector all within (has_vector old.heap.graph (root old.heap.graph p) vector is) new step
