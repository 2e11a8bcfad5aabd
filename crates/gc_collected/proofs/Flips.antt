-- A flip of a heap that a monitor follows: the monitor is sure of a ready collection, its yes is a certificate, and it follows the heap after the flip.
use Rattle.std.proofs.lemmas.Grind.{common_steps}
use Rattle.std.proofs.Common.{◌≡◌, ◌∙◌, ⊎_elim, ℕ, true, false, Bool, cond, length, Option, Some, ap, sym, subst, arith}
use Rattle.std.specs.Prelude.{IfSome}
use Rattle.std.specs.Option.{option_map, option_map_or}
use Rattle.std.proofs.lemmas.Bool.{cases_Bool}
use Rattle.gc_words.specs.Image.{Image}
use Rattle.gc_words.specs.Certificate.{Certified}
use Rattle.gc_heap.specs.Heap.{HeapWords, graph_in}
use Rattle.gc_model.specs.State.{State, Collection, heap_end, pairs_of}
use Rattle.gc_model.specs.Steps.{collect, flipped, is_ready, passes_check, step_idle, step_in}
use Rattle.gc_model.specs.Belonging.{IsSpaceGraph, IsOpened}
use Rattle.gc_model.specs.declared.step.Step.TheVariants as steps
use Rattle.gc_model.specs.declared.step.StepReply.{StepReply}
use Rattle.gc_model.specs.declared.step.StepReply.TheVariants.{NotReady, Refused, Flipped}
use Rattle.gc_monitor.specs.Claims.{Accepts}
use Rattle.gc_monitor.specs.Origins.{pairs_in}
use Rattle.gc_monitor.specs.Outline.{ImageOutline, outline_of}
use Rattle.gc_monitor.specs.Tables.{Tables, RowsAgree, watch_of}
use Rattle.gc_monitor.specs.Events.{flipped_tables}
use Rattle.gc_monitor.specs.Watch.{Watch, Watches}
use Rattle.gc_copy.specs.Words.{CollectionWords, collection_in, idle_state, open_state, state_of}
use Rattle.gc_collected.specs.Collected.{Collected, Turns, checks_whole}
use Rattle.gc_collected.specs.Flip.{flip_pair, HasAccepted, IsCertified, PassesIfReady}
use Rattle.gc_collected.specs.declared.flip.Keep.{Keep}
use Rattle.gc_collected.specs.Internal.Flip.{AsAsked, IsNoFlip}
use Rattle.gc_collected.specs.Internal.Beside.{GoesBeside}
use Rattle.gc_collected.specs.Internal.Follows.{Follows}
use Rattle.gc_collected.specs.Internal.Knows.{Knows, open_or_fresh}
use Rattle.gc_collected.specs.Internal.Stays.{GoesAlong}
use Rattle.gc_collected.proofs.KeptPair.{pair_now}
use Rattle.gc_collected.proofs.Monitor.FollowsEnds.{follows_flipped}
use Rattle.gc_collected.proofs.Monitor.Ready.{accepts}

-- what the standing checker says of two outlines
abbrev pub Said : Tables → ImageOutline → ImageOutline → Type 0
Said t o n = RowsAgree t × Accepts t o n

module _ (s : State) (c : Collection) (t : Tables) (first : s.collection ≡ Some c) (f : Follows s t) where
  goes : GoesAlong s.heap.graph.objects (heap_end s) c (watch_of t)
  goes = subst (λ o. GoesBeside s o (watch_of t)) first f.goes

  knows : Knows s c t
  knows = subst (λ o. Knows s (open_or_fresh s o) t) first f.knows

  sure : IsSpaceGraph s.size s.heap.free s.heap.graph → IsOpened s c → is_ready c s.heap.graph ≡ true → HasAccepted (Accepts t) (flip_pair s c)
  sure heap opened ready = accepts s c t heap opened ready f.found goes knows

  certified : ((old new : Image) (t : Tables) → RowsAgree t → Watches old.words new.words (watch_of t) → Accepts t (outline_of old) (outline_of new) → Certified old new (pairs_in t.origins))
      → ((w : Watch) → GoesAlong s.heap.graph.objects (heap_end s) c w → Watches (flip_pair s c).old.words (flip_pair s c).new.words w)
      → HasAccepted (Said t) (flip_pair s c) → IsCertified (flip_pair s c)
  certified law watched said = subst (λ pairs. Certified (flip_pair s c).old (flip_pair s c).new pairs) goes.fits.pairs (law (flip_pair s c).old (flip_pair s c).new t said.0 (watched (watch_of t) goes) said.1)

-- a flip with this reply went to the new space
flipped_to : (s s' : State) (c : Collection) (n : ℕ) → s.collection ≡ Some c → collect s steps.Flip ≡ (Flipped n, s') → s' ≡ flipped s c
flipped_to s s' c n first said = ready (is_ready c s.heap.graph) (ap (λ (o : Option Collection). option_map_or (λ (d : Collection). step_in s d steps.Flip) o (step_idle s steps.Flip)) (sym first) ∙ said)
  where
    checked : (b : Bool) → ◌≡◌ {A = StepReply × State} (cond b (Flipped (length c.replicas), flipped s c) (Refused, s)) (Flipped n, s') → s' ≡ flipped s c
    checked b u = grind (arith, common_steps)

    ready : (b : Bool) → ◌≡◌ {A = StepReply × State} (cond b (cond (passes_check s c) (Flipped (length c.replicas), flipped s c) (Refused, s)) (NotReady, s)) (Flipped n, s') → s' ≡ flipped s c
    ready b u = grind (arith, common_steps, checked)

-- where no check of both spaces whole is due, there is a monitor
along_if : (keep : Keep) (t : Turns) → checks_whole keep t ≡ false → t.along ≡ true
along_if keep t none = grind (arith, common_steps)

pub monitored : (keep : Keep) (h now : Collected) (whole : Bool) → h ≡ now → whole ≡ checks_whole keep now.beside.turns → whole ≡ false → h.beside.turns.along ≡ true
monitored keep h now whole same is none = ap (λ (h : Collected). h.beside.turns.along) same ∙ along_if keep now.beside.turns (sym is ∙ none)

-- a collection that is not ready stays
not_ready_step : (s : State) (c : Collection) → s.collection ≡ Some c → is_ready c s.heap.graph ≡ false → collect s steps.Flip ≡ (NotReady, s)
not_ready_step s c first not = ap (λ (o : Option Collection). option_map_or (λ (d : Collection). step_in s d steps.Flip) o (step_idle s steps.Flip)) first
    ∙ ap (λ b. cond b (cond (passes_check s c) (Flipped (length c.replicas), flipped s c) (Refused, s)) (NotReady, s)) not

not_ready_passes : (s : State) (c : Collection) (reply : StepReply) → s.collection ≡ Some c → is_ready c s.heap.graph ≡ false → PassesIfReady s reply
not_ready_passes s c reply first not = subst (λ (o : Option Collection). IfSome o (λ d. is_ready d s.heap.graph ≡ true → reply ≡ Flipped (length d.replicas))) (sym first) (λ ready. absurd (let no : true ≡ false = sym ready ∙ not in cc))

-- ---- a decision about the open collection

module _ (heap : HeapWords) (o : Option CollectionWords) (x : CollectionWords) (s : State) (t : Tables) (along whole : Bool) (is : o ≡ Some x) (view : state_of heap (option_map collection_in o) ≡ s)
    (sound : IsSpaceGraph s.size s.heap.free s.heap.graph) (is_open : IfSome s.collection (IsOpened s)) (f : along ≡ true → Follows (state_of heap (option_map collection_in o)) t) (on : whole ≡ false → along ≡ true) where
  here : open_state heap x ≡ s
  here = ap (λ o. state_of heap (option_map collection_in o)) (sym is) ∙ view

  first : s.collection ≡ Some (collection_in x)
  first = sym (ap (λ (s : State). s.collection) here)

  followed : along ≡ true → Follows s t
  followed e = subst (λ (s : State). Follows s t) view (f e)

  opened : IsOpened s (collection_in x)
  opened = subst (λ (o : Option Collection). IfSome o (IsOpened s)) first is_open

  -- the monitor has the collection's pairs
  pub same_pairs : whole ≡ false → pairs_in t.origins ≡ pairs_of (collection_in x)
  same_pairs none = (goes s (collection_in x) t first (followed (on none))).fits.pairs

  -- a ready collection is not refused
  pub not_refused : (reply : StepReply) → IsNoFlip whole (is_ready (collection_in x) (graph_in heap)) (HasAccepted (Accepts t) (flip_pair (open_state heap x) (collection_in x))) reply
      → (reply ≡ NotReady) × (collect s steps.Flip ≡ (reply, s)) × PassesIfReady s reply
  not_refused reply h = ⊎_elim
      (λ a. (a.0, not_ready_step s (collection_in x) first a.1 ∙ ap (λ (r : StepReply). (r, s)) (sym a.0), not_ready_passes s (collection_in x) reply first a.1))
      (λ b. absurd (b.3 (sure s (collection_in x) t first (followed (on b.1)) sound opened b.2)))
      (subst (λ (s : State). IsNoFlip whole (is_ready (collection_in x) s.heap.graph) (HasAccepted (Accepts t) (flip_pair s (collection_in x))) reply) here h)

  pub flip_along : (said : Type 0) → AsAsked whole said (HasAccepted (Said t) (flip_pair (open_state heap x) (collection_in x))) → whole ≡ false → IfSome s.collection (λ d. HasAccepted (Accepts t) (flip_pair s d))
  flip_along said asked none = pair_now (HasAccepted (Accepts t)) heap o x s is view (asked.1 none).1

  pub flip_certified : (said : Type 0) → ((old new : Image) (t : Tables) → RowsAgree t → Watches old.words new.words (watch_of t) → Accepts t (outline_of old) (outline_of new) → Certified old new (pairs_in t.origins))
      → ((c : Collection) (w : Watch) → s.collection ≡ Some c → GoesAlong s.heap.graph.objects (heap_end s) c w → Watches (flip_pair s c).old.words (flip_pair s c).new.words w)
      → (whole ≡ true → IsCertified (flip_pair (open_state heap x) (collection_in x))) → AsAsked whole said (HasAccepted (Said t) (flip_pair (open_state heap x) (collection_in x))) → IfSome s.collection (λ d. IsCertified (flip_pair s d))
  flip_certified said law watched by asked = ⊎_elim
      (λ all. pair_now IsCertified heap o x s is view (by all))
      (λ none. subst (λ (o : Option Collection). IfSome o (λ d. IsCertified (flip_pair s d))) (sym first)
      (certified s (collection_in x) t first (followed (on none)) law (λ w goes. watched (collection_in x) w first goes) (subst (λ (s : State). HasAccepted (Said t) (flip_pair s (collection_in x))) here (asked.1 none))))
      (cases_Bool whole)

  -- after the flip the monitor follows the heap
  pub flip_followed : (new : HeapWords) (n : ℕ) (after : Tables) → collect s steps.Flip ≡ (Flipped n, idle_state new) → (t.lost ≡ false → after.lost ≡ false) → (after.lost ≡ false → after ≡ flipped_tables t) → along ≡ true → Follows (idle_state new) after
  flip_followed new n after said stays flips e = follows_flipped s (idle_state new) (collection_in x) t after sound first opened (flipped_to s (idle_state new) (collection_in x) n first said) stays flips (followed e)
