-- The public laws, for one state and for every run.
use Rattle.std.proofs.lemmas.Grind.{common_steps}
use Rattle.std.specs.Prelude.{IfSome}
use Rattle.std.specs.Option.{option_map_or}
use Rattle.std.proofs.Common.{◌≡◌, ◌≢◌, ◌⊎◌, inl, inr, ⊎_elim, ℕ, ◌+◌, ◌-◌, ◌*◌, ◌<◌, ◌≤◌, true, false, nat_lt, List, [], ◌∷◌, ◌++◌, length, Some, ◌↔◌, refl, ap, sym, ◌∙◌, subst, arith, Option}
use Rattle.std.proofs.lemmas.Bool.{cond-true, cond_both, eqb-false, ltb-false}
use Rattle.std.proofs.lemmas.List.{length-map}
use Rattle.gc_graph.specs.Graph.{Object, Graph}
use Rattle.gc_graph.specs.Machine.{Roomy, words_taken, step, roomy_step}
use Rattle.gc_words.specs.Image.{roomy_of}
use Rattle.gc_graph.specs.Range.{IsCommand}
use Rattle.gc_words.specs.Spelling.{no_links}
use Rattle.gc_model.specs.Linked.{linked_image}
use Rattle.gc_model.specs.Passing.{HasImage, PassesWhereReady, NeverRefused, ScansToTheEnd, HasFewPairs}
use Rattle.gc_model.specs.Runs.{InEveryRun, state_after}
use Rattle.gc_model.specs.State.{opening_state, Replica, Collection, State, new_end, replica_at}
use Rattle.gc_model.specs.Steps.{written, log_at, with_log, scan_done, scan, scan_replica, step_in, step_idle}
use Rattle.gc_model.specs.Members.{In}
use Rattle.gc_model.specs.Belonging.{Laid, IsSpaceGraph, HasField, Belongs, BelongsBut, IsDue, IsOpened, IsState}
use Rattle.gc_graph.specs.declared.command.Op.{Op}
use Rattle.gc_graph.specs.declared.reply.Reply.{Reply}
use Rattle.gc_graph.specs.declared.reply.Reply.TheVariants.{Full}
use Rattle.gc_model.specs.declared.step.Step.TheVariants as steps
use Rattle.gc_model.specs.declared.step.StepReply.{StepReply}
use Rattle.gc_model.specs.declared.step.StepReply.TheVariants.{Clean}
use Rattle.gc_model.proofs.Commands.{step_numbers, unchanged, step_keeps, step_evolves, field_stays, written_there, full_writes_nothing}
use Rattle.gc_model.proofs.Replicas.{pair, placed, replicas_end, replicas_due}
use Rattle.gc_model.proofs.Steps.{ready_parts, its_replicas, belongs_from, belongs_but, belongs_noted, ranged}
use Rattle.gc_model.proofs.Links.{found_by_place}
use Rattle.gc_model.proofs.Runs.{run_ok}
use Rattle.gc_model.proofs.Images.{image_shaped, end_is, graph_back}
use Rattle.gc_model.proofs.Flips.{certified, flips, not_refused}

-- what holds of each state holds in every run
pub in_runs : (P : State → Type 0) → ((s : State) → IsState s → P s) → InEveryRun P
in_runs P f size mutators events low high r = f (state_after (opening_state size mutators) events) (run_ok size mutators events low high r)

pub roomy_back : (links : ℕ → ℕ) (size free : ℕ) (g : Graph) → IsSpaceGraph size free g → roomy_of (linked_image links size g) ≡ record { graph = g; free = free }
roomy_back links size free g h = grind (arith, common_steps, end_is, graph_back)

pub has_image : (s : State) → IsState s → HasImage s
has_image s h = record { shaped = image_shaped no_links s.size s.heap.free s.heap.graph h.heap; roomy = roomy_back no_links s.size s.heap.free s.heap.graph h.heap }

pub passes_where_ready : (s : State) → IsState s → PassesWhereReady s
passes_where_ready s h c is ready = grind (arith, common_steps, certified, ready_parts, flips)

pub never_refused : (s : State) → IsState s → NeverRefused s
never_refused s h step = not_refused s step h

-- ---- scanning and pairs

scan_unclean : (s : State) (c : Collection) (r : Replica) → (scan_replica s c (Some r)).0 ≢ Clean
scan_unclean s c r = grind (arith, common_steps, cond_both)

pub scans_to_the_end : (s : State) → IsState s → ScansToTheEnd s
scans_to_the_end s h c is = subst (λ o. ((option_map_or (λ (c : Collection). step_in s c steps.Scan) o (step_idle s steps.Scan)).0 ≡ Clean) ↔ (scan_done c ≡ true)) (sym is)
    (forth, (λ d. ap (λ (next : StepReply × State). next.0) (cond-true (scan_done c) (Clean, s) (scan_replica s c (replica_at c c.scan_place)) d)))
  where
    k : IsOpened s c
    k = subst (λ (o : Option Collection). IfSome o (IsOpened s)) is h.collection

    before : scan_done c ≡ false → (scan_replica s c (replica_at c c.scan_place)).0 ≢ Clean
    before f = ⊎_elim
        (λ x. let there = found_by_place (IsDue c) s.heap.graph.objects c k.belongs x.0 x.1 in
        subst (λ t. (scan_replica s c t).0 ≢ Clean) (sym (ap (replica_at c) (sym x.2) ∙ there)) (scan_unclean s c x.0))
        (λ x. absurd (eqb-false c.scan_place (new_end c) f x.0))
        (k.belongs).scan

    forth : (scan s c).0 ≡ Clean → scan_done c ≡ true
    forth e = grind (arith, common_steps, before)

two_words : (at : ℕ) (objects : List (ℕ × Object)) (end : ℕ) → Laid at objects end → at + 2 * length objects ≤ end
two_words at [] end h = let e : at ≡ end = h in omega arith
two_words at (e ∷ rest) end h = let r = two_words (at + (length e.1.fields + 2)) rest end h.1 in omega arith

pub has_few_pairs : (s : State) → IsState s → HasFewPairs s
has_few_pairs s h c is = grind (arith, common_steps, two_words, placed, replicas_end, length-map, pair)

-- ---- commands and notes

pub heap_kept : (size : ℕ) (h : Roomy) (m : ℕ) (op : Op) → IsSpaceGraph size h.free h.graph → IsCommand op
    → (let next = roomy_step h m op (size - h.free) in IsSpaceGraph size next.1.free next.1.graph)
heap_kept size h m op heap range =
    cond_both (nat_lt h.free (words_taken op)) _ _ (λ (next : Reply × Roomy). IsSpaceGraph size next.1.free next.1.graph)
    (λ full. heap)
    (λ fits. step_keeps size h.free h.graph m op (size - h.free) heap (ranged op range) (ltb-false h.free (words_taken op) fits) refl)

pub command_kept : (h : Roomy) (c : Collection) (m : ℕ) (op : Op) (name : ℕ) → Belongs h.graph.objects c
    → (let next = roomy_step h m op name in BelongsBut (λ a i. In (a, i) (written h.graph m op next.0)) next.1.graph.objects c)
command_kept h c m op name belongs =
    cond_both (nat_lt h.free (words_taken op)) _ _ (λ (next : Reply × Roomy). BelongsBut (λ a i. In (a, i) (written h.graph m op next.0)) next.1.graph.objects c)
    (λ full. belongs_but h.graph.objects h.graph.objects c (λ a i. In (a, i) (written h.graph m op Full)) belongs (unchanged h.graph.objects _) belongs.numbers)
    (λ fits. belongs_but h.graph.objects (step h.graph m op name).1.objects c (λ a i. In (a, i) (written h.graph m op (step h.graph m op name).0)) belongs (step_evolves h.graph m op name) (step_numbers h.graph m op name belongs.numbers))

-- a command writes only fields that the heap has
pub field_there : (h : Roomy) (m : ℕ) (op : Op) (name a i : ℕ)
    → (let next = roomy_step h m op name in In (a, i) (written h.graph m op next.0) → HasField next.1.graph.objects a i)
field_there h m op name a i =
    cond_both (nat_lt h.free (words_taken op)) _ _ (λ (next : Reply × Roomy). In (a, i) (written h.graph m op next.0) → HasField next.1.graph.objects a i)
    (λ full. λ x. absurd (full_writes_nothing h.graph m op a i x))
    (λ fits. λ x. field_stays h.graph.objects (step h.graph m op name).1.objects (λ b j. In (b, j) (written h.graph m op (step h.graph m op name).0)) a i (step_evolves h.graph m op name) (written_there h.graph m op name a i x))

pub notes : (objects : List (ℕ × Object)) (c : Collection) (m a i : ℕ) → m < length c.logs → HasField objects a i → BelongsBut (λ b j. (b ≡ a) × (j ≡ i)) objects c
    → Belongs objects (with_log c m (log_at c m ++ (a, i) ∷ []))
notes objects c m a i within there h =
    belongs_noted objects c m ((a, i) ∷ []) within
    (belongs_from (λ raw p b j. IsDue c raw p b j ⊎ In {X = ℕ × ℕ} (b, j) ((a, i) ∷ [])) objects c
    (replicas_due objects c.size (λ raw p b j. IsDue c raw p b j ⊎ ((b ≡ a) × (j ≡ i))) (λ raw p b j. IsDue c raw p b j ⊎ In {X = ℕ × ℕ} (b, j) ((a, i) ∷ [])) c.replicas
    (its_replicas (λ raw p b j. IsDue c raw p b j ⊎ ((b ≡ a) × (j ≡ i))) objects c h)
    (λ r l j x d. ⊎_elim (λ y. inl y) (λ y. inr (inl (λ n. (sym y.0 n, sym y.1 n)))) d))
    h.scan h.entries h.numbers)
    (λ b j x. ⊎_elim (λ e. subst (λ (p : ℕ × ℕ). HasField objects p.0 p.1) e there) (λ y. absurd y) x)
