-- The steps and the pairs of a world, whose spaces are small enough for a text.
use Rattle.std.proofs.lemmas.Grind.{common_steps}
use Rattle.std.proofs.Common.{◌≡◌, ℕ, ◌≤◌, Option, Some, None, Result, Ok, Err, refl, ap, sym, subst, arith}
use Rattle.std.specs.Prelude.{IfOk, IfSome, OnOk}
use Rattle.std.specs.Option.{option_map}
use Rattle.gc_graph.specs.Limits.{most_words}
use Rattle.gc_cert.specs.Grammar.{CertifiedPair}
use Rattle.gc_model.specs.State.{Collection, State}
use Rattle.gc_model.specs.Runs.{IsStepWithin, IsStep, HasSizesWithin}
use Rattle.gc_model.specs.declared.step.Step.{Step}
use Rattle.gc_model.proofs.Public.{wider_step}
use Rattle.gc_model.specs.declared.step.StepReply.{StepReply}
use Rattle.gc_model.specs.declared.step.StepReply.TheVariants.{Flipped}
use Rattle.gc_collected.specs.Flip.{FlipsOnly, IsCertified, kept_after, flip_pair}
use Rattle.gc_world.specs.World.{Past}
use Rattle.gc_world.specs.Internal.World.{IsKeptPair, IsWorld}
use Rattle.gc_world.proofs.HistoryStates.{sizes_within}

-- a heap can perform the step
pub heap_step : (mutators : ℕ) (step : Step) → IsStepWithin most_words mutators step → IsStep mutators step
heap_step mutators step within = wider_step most_words mutators step (omega arith) within

-- the spaces of a world are small
pub world_within : (now : State) (past : Past) → IsWorld now past → HasSizesWithin most_words now
world_within now past w = subst (HasSizesWithin most_words) (sym w.state) (sizes_within past.size past.mutators past.entries w.history)

-- the pair of a flip is small
small_pair : (s : State) (pair : CertifiedPair) → HasSizesWithin most_words s → option_map (flip_pair s) s.collection ≡ Some pair → (pair.old.size ≤ most_words) × (pair.new.size ≤ most_words)
small_pair s pair small is = grind (arith, common_steps)

-- after a step the pair that is kept is certified, and small
still_kept : (s : State) (kept : Option CertifiedPair) (reply : StepReply) → HasSizesWithin most_words s → FlipsOnly IsCertified s reply → IsKeptPair kept → IsKeptPair (kept_after kept s reply)
still_kept s kept reply small flips was = grind (arith, common_steps, flipped)
  where
    flipped : (n : ℕ) → reply ≡ Flipped n → IsKeptPair (option_map (flip_pair s) s.collection)
    flipped n is = new s.collection refl (flips n is)
      where
        new : (o : Option Collection) → s.collection ≡ o → IfSome o (λ c. IsCertified (flip_pair s c)) → IsKeptPair (option_map (flip_pair s) o)
        new None e c = tt
        new (Some d) e c = (let sizes = small_pair s (flip_pair s d) small (ap (option_map (flip_pair s)) e) in (c, sizes.0, sizes.1))

-- also where the step may have been refused
pub kept_if : {E : Type 0} (s : State) (r : Result StepReply E) (old new : Option CertifiedPair) → HasSizesWithin most_words s → IfOk r (λ reply. new ≡ kept_after old s reply) → IfOk r (FlipsOnly IsCertified s) → OnOk r (IsKeptPair old → IsKeptPair new)
kept_if s (Ok reply) old new small is sound = λ was. subst IsKeptPair (sym is) (still_kept s old reply small sound was)
kept_if s (Err e) old new small is sound = tt
