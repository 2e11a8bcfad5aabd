-- The pairs of a run's flips.
use Rattle.std.proofs.lemmas.Grind.{common_steps}
use Rattle.std.proofs.Common.{◌≡◌, ℕ, suc, ◌+◌, ◌<◌, ◌≤◌, List, ◌∷◌, ◌++◌, drop, length, get_or, refl, sym, ap, subst, ◌∙◌, arith, Option, Some, None, ◌⊎◌}
use Rattle.std.specs.Prelude.{slice_get, IfSome}
use Rattle.gc_graph.specs.Limits.{most_words}
use Rattle.std.specs.Option.{option_map, option_to_list}
use Rattle.std.proofs.lemmas.List.{drop_more, length-map}
use Rattle.gc_cert.specs.Grammar.{CertifiedPair}
use Rattle.gc_cert.specs.Counts.{HasCounts}
use Rattle.gc_cert.specs.Views.{pair_in}
use Rattle.gc_cert.specs.declared.image.PairFile.{PairFile}
use Rattle.gc_model.specs.State.{State, Collection}
use Rattle.gc_model.specs.Runs.{HasSizesWithin, after, answer}
use Rattle.gc_model.specs.Belonging.{IsState}
use Rattle.gc_model.specs.Passing.{HasFewPairs}
use Rattle.gc_model.specs.declared.step.StepReply.{StepReply}
use Rattle.gc_collected.specs.Flip.{FlipsOnly, flip_pair, kept_after, IsCertified}
use Rattle.gc_model.specs.declared.event.Answer.TheVariants.{Collector}
use Rattle.gc_model.specs.declared.event.Event.{Event}
use Rattle.gc_model.specs.declared.event.Event.TheVariants.{Mutate, Collect}
use Rattle.gc_model.specs.Steps.{collect}
use Rattle.gc_collected.specs.Performing.{flip_at}
use Rattle.gc_trace.specs.Flips.{flips}

-- ---- what is kept

-- a kept pair is that of the open collection
kept_by_reply : (s : State) (reply : StepReply) (pair : CertifiedPair) → kept_after None s reply ≡ Some pair → option_map (flip_pair s) s.collection ≡ Some pair
kept_by_reply s reply pair is = grind (arith, common_steps)

counts_of : (s : State) (c : Collection) → IsState s → HasSizesWithin most_words s → c.size ≤ most_words → HasFewPairs s → s.mutators ≤ 16 → s.collection ≡ Some c → IsCertified (flip_pair s c) → HasCounts (flip_pair s c)
counts_of s c ok sizes new small few is certified = grind (arith, common_steps, length-map)

kept_counts : (s : State) (kept : Option Collection) (pair : CertifiedPair) → IsState s → HasSizesWithin most_words s → IfSome kept (λ c. c.size ≤ most_words) → HasFewPairs s → s.mutators ≤ 16 → s.collection ≡ kept → IsCertified pair → option_map (flip_pair s) kept ≡ Some pair → HasCounts pair
kept_counts s kept pair ok sizes new small few is certified same = grind (arith, common_steps, counts_of)

-- a kept pair is within the limits on words, roots and pairs
flip_counts : (s : State) (event : Event) (pair : CertifiedPair) → IsState s → HasSizesWithin most_words s → HasFewPairs s → s.mutators ≤ 16 → IsCertified pair → flip_at s event ≡ Some pair → HasCounts pair
flip_counts s (Mutate m op) pair ok sizes small few certified is = absurd cc
flip_counts s (Collect step) pair ok sizes small few certified is = kept_counts s s.collection pair ok sizes sizes.collection small few refl certified (kept_by_reply s (collect s step).0 pair is)

-- so is the pair that an event's flip keeps
pub counts_of_kept : (s : State) (event : Event) (kept : Option PairFile) → IsState s → HasSizesWithin most_words s → HasFewPairs s → s.mutators ≤ 16 → option_map pair_in kept ≡ flip_at s event
    → IfSome kept (λ file. IsCertified (pair_in file)) → IfSome kept (λ file. HasCounts (pair_in file))
counts_of_kept s event kept ok sizes small few is certified = grind (arith, common_steps, flip_counts)

-- it is certified
pub flip_certified : (s : State) (event : Event) (kept : Option PairFile) → option_map pair_in kept ≡ flip_at s event → ((reply : StepReply) → answer s event ≡ Collector reply → FlipsOnly IsCertified s reply) → IfSome kept (λ file. IsCertified (pair_in file))
flip_certified s event None is sound = tt
flip_certified s (Mutate m op) (Some file) is sound = absurd cc
flip_certified s (Collect step) (Some file) is sound = by_reply (collect s step).0 is (sound (collect s step).0 refl)
  where
    certain : (o : Option Collection) → Some (pair_in file) ≡ option_map (flip_pair s) o → IfSome o (λ c. IsCertified (flip_pair s c)) → IsCertified (pair_in file)
    certain None e h = absurd cc
    certain (Some c) e h = subst IsCertified (let same : flip_pair s c ≡ pair_in file = cc in same) h

    by_reply : (reply : StepReply) → Some (pair_in file) ≡ kept_after None s reply → FlipsOnly IsCertified s reply → IsCertified (pair_in file)
    by_reply reply e flips = grind (arith, common_steps, certain)

-- ---- the n-th flip

-- flip number `before`, counted from 0, among the flips from event i on
abbrev pub flips_from : State → List Event → ℕ → ℕ → Option CertifiedPair
flips_from s events i before = slice_get (flips s (drop i events)) before

flips_more : (s : State) (events : List Event) (i : ℕ) (event : Event) → i < length events → event ≡ get_or events i event → flips s (drop i events) ≡ option_to_list (flip_at s event) ++ flips (after s event) (drop (i + 1) events)
flips_more s events i event lt is = ap (flips s) (drop_more events i event lt ∙ ap (λ (e : Event). e ∷ drop (i + 1) events) (sym is))

-- the event does not flip
no_flip : (s : State) (events : List Event) (i before : ℕ) (event : Event) → i < length events → event ≡ get_or events i event → flip_at s event ≡ None → flips_from (after s event) events (i + 1) before ≡ flips_from s events i before
no_flip s events i before event lt is none = grind (arith, common_steps, flips_more)

-- the event is an earlier flip
other_flip : (s : State) (events : List Event) (i before : ℕ) (event : Event) (pair : CertifiedPair) → i < length events → event ≡ get_or events i event → flip_at s event ≡ Some pair → flips_from (after s event) events (i + 1) before ≡ flips_from s events i (suc before)
other_flip s events i before event pair lt is some = grind (arith, common_steps, flips_more)

-- the event does not flip, and the same number of flips is left to skip; or it flips, and one fewer is left
abbrev pub Counted : Option CertifiedPair → ℕ → ℕ → Type 0
Counted kept before left = ((kept ≡ None) × (left ≡ before)) ⊎ ((pair : CertifiedPair) × (kept ≡ Some pair) × (before ≡ suc left))

pub next_flip : (s next : State) (events : List Event) (i before left : ℕ) (event : Event) (kept wanted : Option CertifiedPair) → i < length events → event ≡ get_or events i event → next ≡ after s event → kept ≡ flip_at s event
    → flips_from s events i before ≡ wanted → Counted kept before left → flips_from next events (i + 1) left ≡ wanted
next_flip s next events i before left event kept wanted lt is at same so_far h = grind (arith, common_steps, no_flip, other_flip)
