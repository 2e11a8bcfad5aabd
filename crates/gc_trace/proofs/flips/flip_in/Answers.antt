-- An event keeps the spaces small enough for a text, so the pair that its flip keeps has counts that a text can hold.
use Rattle.std.proofs.Common.{◌≡◌, ◌∙◌, ap, sym, subst}
use Rattle.std.specs.Prelude.{Option}
use Rattle.std.specs.Option.{option_map}
use Rattle.gc_graph.specs.Limits.{most_words}
use Rattle.gc_cert.specs.Grammar.{CertifiedPair}
use Rattle.gc_cert.specs.Views.{pair_in}
use Rattle.gc_model.specs.Runs.{HasSizesWithin}
use Rattle.gc_model.proofs.Public.{event_within}
use Rattle.gc_collected.specs.Collected.{Collected}
use Rattle.gc_collected.specs.Performing.{flip_at, kept_with}
use Rattle.gc_collected.specs.declared.flip.Keep.TheVariants.{Pair}
use Rattle.gc_trace.proofs.FlipPairs.{counts_of_kept, flip_certified}
use Rattle.gc_trace.proofs.flips.flip_in.Goals as goal

pub returns-clause-counts : goal.returns-clause-counts
returns-clause-counts c =
    let s = c.args.heap.now.core in
    let made = c.in-Ok.ensures in
    let is : option_map pair_in c.take_pair.result ≡ flip_at s c.args.event.now =
    c.take_pair.ensures.taken ∙ made.pair ∙ ap (λ (kept : Option CertifiedPair). kept_with Pair kept s c.args.event.now) c.requires.taken in
    counts_of_kept s c.args.event.now c.take_pair.result c.requires.sound c.requires.small (c.scans_and_pairs_are_bounded.ensures.pairs s c.requires.sound) c.requires.few is (flip_certified s c.args.event.now c.take_pair.result is (λ reply e. made.sound reply (made.answer ∙ e)))

pub returns-clause-small : goal.returns-clause-small
returns-clause-small c =
    let s = c.args.heap.now.core in
    let rest : c.take_pair.new.self.core ≡ c.perform.new.self.core = ap (λ (h : Collected). h.core) c.take_pair.ensures.rest in
    subst (HasSizesWithin most_words) (sym (rest ∙ c.in-Ok.ensures.happened)) (event_within most_words s.mutators s c.args.event.now c.requires.small c.requires.event)
