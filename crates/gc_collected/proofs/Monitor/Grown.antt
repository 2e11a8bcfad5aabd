-- A monitor is told of an object that a command made at the end of the heap.
-- For the theorem that the monitor is never lost.
use Rattle.std.proofs.lemmas.Grind.{common_steps}
use Rattle.std.proofs.Common.{◌≡◌, ◌⊎◌, inl, inr, ⊎_elim, ℕ, ◌+◌, ◌-◌, ◌<◌, ◌≤◌, nat_lt, Bool, true, false, [], ◌∷◌, ◌++◌, length, Some, refl, ap, sym, ◌∙◌, subst, arith, length-append}
use Rattle.std.specs.Prelude.{slice_index}
use Rattle.std.proofs.lemmas.Bool.{cond_both, ltb-false}
use Rattle.std.proofs.lemmas.List.{length-replicate}
use Rattle.gc_graph.specs.Graph.{Object, Graph, new_object}
use Rattle.gc_graph.specs.Machine.{Roomy, words_taken, roomy_step}
use Rattle.gc_graph.specs.declared.command.Op.{Op}
use Rattle.gc_graph.specs.declared.command.Op.TheVariants as ops
use Rattle.gc_graph.specs.declared.reply.Reply.{Reply}
use Rattle.gc_words.specs.Word.{read_header}
use Rattle.gc_words.specs.declared.header.Header.{Header}
use Rattle.gc_model.specs.State.{State, heap_end}
use Rattle.gc_model.specs.Linked.{object_header}
use Rattle.gc_model.specs.Steps.{mutate}
use Rattle.gc_model.specs.Members.{In}
use Rattle.gc_model.specs.Belonging.{IsSpaceGraph}
use Rattle.gc_model.proofs.Public.{end_is, in_right}
use Rattle.gc_monitor.specs.Tables.{Tables}
use Rattle.gc_monitor.specs.Events.{Made, object_codes}
use Rattle.gc_collected.specs.Internal.Beside.{heap_words}
use Rattle.gc_monitor.proofs.Public.{codes_length}
use Rattle.gc_collected.proofs.Monitor.Shown.{AreSized, shown_at}

abbrev pub new_op : Bool → Rattle.gc_graph.specs.Slots.SlotName → ℕ → ℕ → Op
new_op true d kind len = ops.NewRaw d kind len
new_op false d kind len = ops.New d kind len

-- a later state has no object more, or this one at the end of the earlier one
abbrev pub EndsMore : State → State → Type 0
EndsMore s s' = (heap_end s ≡ heap_end s') ⊎ ((e : Object) × (In (heap_end s, e) s'.heap.graph.objects × (heap_end s + (length e.fields + 2) ≡ heap_end s')))

-- the walk over the old space has come to the later end
pub grown : (s s' : State) (t after : Tables) (links : ℕ → ℕ) → IsSpaceGraph s'.size s'.heap.free s'.heap.graph → EndsMore s s' → length t.olds ≡ heap_end s → Made (heap_words links s') t after
    → (length after.olds ≡ heap_end s') × (after ≡ record t { olds = after.olds })
grown s s' t after links later more seen is = ⊎_elim
    (λ same. (let none : after ≡ t = is.at_end (omega (arith, count)) in
    (ap (λ (t : Tables). length t.olds) none ∙ (seen ∙ same), none ∙ ap (λ olds. record t { olds = olds }) (sym (ap (λ (t : Tables). t.olds) none)))))
    (λ one. (let e : Object = one.0 in
    let end : heap_end s + (length e.fields + 2) ≡ heap_end s' = one.1.1 in
    let next = is.more (omega (arith, count)) in
    let sized : AreSized s'.heap.graph.objects = (λ d l. (let o = later.objects d.0 d.1 l in (o.kind, o.len))) in
    let shows = shown_at links s'.heap.graph.objects (heap_end s') (heap_end s) e later.laid sized one.1.0 in
    let header : next.0 ≡ object_header e = (let h : Some next.0 ≡ Some (object_header e) = sym next.1.header ∙ (ap (λ n. read_header (slice_index (heap_words links s') n)) seen ∙ shows.header) in cc) in
    let len : next.0.len ≡ length e.fields = ap (λ (h : Header). h.len) header in (
      ap (λ (t : Tables). length t.olds) next.2 ∙ (length-append t.olds (object_codes next.0.len 0) ∙ (let n : length (object_codes next.0.len 0) ≡ next.0.len + 2 = codes_length next.0.len 0 in omega arith)),
      next.2 ∙ ap (λ olds. record t { olds = olds }) (sym (ap (λ (t : Tables). t.olds) next.2)),
    )))
    more
  where
    count : length (heap_words links s') ≡ heap_end s'
    count = end_is links s'.size s'.heap.free s'.heap.graph later

-- ---- `new` and `raw`

-- the object that the command makes, if there is room
abbrev NewOne : State → ℕ → Op → Object → Roomy → Type 0
NewOne s m op e next = (next ≡ s.heap) ⊎ (In (heap_end s, e) next.graph.objects × (heap_end s + (length e.fields + 2) ≡ s.size - next.free))

one_more : (s : State) (m : ℕ) (op : Op) (e : Object) (g : Graph) → IsSpaceGraph s.size s.heap.free s.heap.graph → words_taken op ≡ length e.fields + 2 → (Rattle.gc_graph.specs.Machine.step s.heap.graph m op (heap_end s)).1 ≡ g → g.objects ≡ s.heap.graph.objects ++ (heap_end s, e) ∷ []
    → NewOne s m op e (roomy_step s.heap m op (heap_end s)).1
one_more s m op e g h words step_is objects = cond_both (nat_lt s.heap.free (words_taken op)) _ _ (λ (next : Reply × Roomy). NewOne s m op e next.1)
    (λ full. inl refl)
    (λ fits. inr (
      subst (In (heap_end s, e)) (sym (ap (λ (g : Graph). g.objects) step_is ∙ objects)) (in_right (heap_end s, e) s.heap.graph.objects ((heap_end s, e) ∷ []) (inl refl)),
      (let room : words_taken op ≤ s.heap.free = ltb-false s.heap.free (words_taken op) fits in let less : s.heap.free < s.size = h.room in
          (let end : (s.size - s.heap.free) + (length e.fields + 2) ≡ s.size - (s.heap.free - words_taken op) = omega arith in end)),
    ))

-- what a `new` or `raw` makes
pub ends_more : (s s' : State) (m : ℕ) (op : Op) (reply : Reply) (raw : Bool) (d : Rattle.gc_graph.specs.Slots.SlotName) (kind len : ℕ) → op ≡ new_op raw d kind len → IsSpaceGraph s.size s.heap.free s.heap.graph → mutate s m op ≡ (reply, s') → EndsMore s s'
ends_more s s' m op reply raw d kind len is before said = go raw is
  where
    from : (e : Object) → NewOne s m op e (roomy_step s.heap m op (heap_end s)).1 → EndsMore s s'
    from e one = grind (arith, common_steps)

    go : (raw : Bool) → op ≡ new_op raw d kind len → EndsMore s s'
    go true e = from (new_object true kind len) (subst (λ (o : Op). NewOne s m o (new_object true kind len) (roomy_step s.heap m o (heap_end s)).1) (sym e) (one_more s m (ops.NewRaw d kind len) (new_object true kind len) _ before (ap (λ n. n + 2) (sym (length-replicate len (Rattle.gc_graph.specs.Graph.first_value true)))) refl refl))
    go false e = from (new_object false kind len) (subst (λ (o : Op). NewOne s m o (new_object false kind len) (roomy_step s.heap m o (heap_end s)).1) (sym e) (one_more s m (ops.New d kind len) (new_object false kind len) _ before (ap (λ n. n + 2) (sym (length-replicate len (Rattle.gc_graph.specs.Graph.first_value false)))) refl refl))
