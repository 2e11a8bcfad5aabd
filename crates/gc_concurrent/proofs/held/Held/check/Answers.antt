-- The checker is shown the flip of this heap, whose certificate holds, so that it cannot refuse.
use Rattle.std.proofs.lemmas.Grind.{common_steps}
use Rattle.std.proofs.Common.{◌≡◌, ℕ, true, List, length, map, Option, Some, None, refl, ap, sym, ◌∙◌, subst, arith}
use Rattle.gc_words.specs.Certificate.{Certified}
use Rattle.gc_words.specs.Image.{Image}
use Rattle.gc_words.specs.Space.{SpaceWords, IsSpace, end_of, image_with}
use Rattle.gc_words.specs.Views.{addresses}
use Rattle.gc_words.specs.declared.refusal.Refusal.{Refusal}
use Rattle.gc_heap.specs.Heap.{image_of}
use Rattle.gc_check.specs.Verdict.{IsRefusalOf}
use Rattle.gc_check.specs.declared.verdict.CheckFault.{CheckFault}
use Rattle.gc_check.specs.declared.verdict.CheckFault.TheVariants.{Refused}
use Rattle.gc_cert.specs.Grammar.{CertifiedPair}
use Rattle.gc_model.specs.Linked.{new_links}
use Rattle.gc_copy.specs.Words.{replicas_in}
use Rattle.gc_model.specs.Members.{In}
use Rattle.gc_model.proofs.Public.{in_map}
use Rattle.gc_model.specs.State.{pairs_of}
use Rattle.gc_concurrent.specs.Checking.{flip_shown}
use Rattle.gc_concurrent.specs.Ends.{its}
use Rattle.gc_concurrent.specs.Holders.{heap_held, known_to}
use Rattle.gc_concurrent.specs.Internal.Flip.{Flips, linked, linked_in, moved_words}
use Rattle.gc_concurrent.specs.Internal.Rule.{Sat}
use Rattle.gc_concurrent.specs.declared.held.Held.{Held}
use Rattle.gc_concurrent.proofs.InHand.{mem}
use Rattle.gc_concurrent.proofs.held.Held.check.Given as given
use Rattle.gc_concurrent.proofs.held.Held.check.Goals as goal
use Rattle.gc_concurrent.proofs.held.Held.check.Goals.{After-as_slice-3}

-- the words of a space are a space without room
whole : (s : SpaceWords) → IsSpace s → IsSpace (record { size = length s.words; words = s.words })
whole s is = record { size_low = is.end_low; size_high = (let e = is.end_high in let h = is.size_high in omega arith); end_low = is.end_low; end_high = omega arith; count = is.count; reserved = is.reserved; walked = is.walked }

-- what is known of the flip of a heap that is held
abbrev FlipOf : Held → Type 0
FlipOf h = Flips h.roots.items h.copier.seat.me.0.mine h.copier.seat.me.0.theirs

-- the words of the mutator's space with its roots
old_is : (h : Held) (size end : ℕ) (words roots : List ℕ) → size ≡ h.copier.size → end ≡ h.end → words ≡ h.copier.seat.me.0.mine.space.words → roots ≡ h.roots.items
    → ◌≡◌ {A = Image} (record { size = size; end = end; words = words; roots = roots; raws = true }) (image_of (heap_held h))
old_is h size end words roots s e w r = λ i. record { size = (s ∙ sym h.ended.1) i; end = (e ∙ sym h.ended.0) i; words = w i; roots = r i; raws = true }

-- the new space with the moved roots
new_is : (h : Held) (size end : ℕ) (words moved : List ℕ) → FlipOf h → size ≡ h.copier.space.size → end ≡ end_of h.copier.space → words ≡ h.copier.space.words → moved ≡ moved_words (known_to h.copier) h.roots.items
    → ◌≡◌ {A = Image} (record { size = size; end = end; words = words; roots = moved; raws = true }) (flip_shown (heap_held h) (known_to h.copier)).new
new_is h size end words moved told s e w m = ◌∙◌ {b = image_with h.copier.space (moved_words (known_to h.copier) h.roots.items)} (λ i. record { size = s i; end = e i; words = w i; roots = m i; raws = true }) (told.image h.copier.space (mem h.copier))

-- its links
linked_is : (h : Held) (words : List ℕ) → words ≡ h.copier.space.words → linked_in words ≡ pairs_of (its (known_to h.copier))
linked_is h words s = ap linked_in s ∙ sym (ap (map linked) h.copier.same)

-- what the checker is shown
asks : (h : Held) (size : ℕ) (words roots moved : List ℕ) (new_size new_end : ℕ) (placed : List ℕ) (pairs : List (ℕ × ℕ)) → FlipOf h → size ≡ h.copier.size
    → words ≡ h.copier.seat.me.0.mine.space.words → roots ≡ h.roots.items → moved ≡ moved_words (known_to h.copier) h.roots.items
    → new_size ≡ h.copier.space.size → new_end ≡ end_of h.copier.space → placed ≡ h.copier.space.words → pairs ≡ linked_in h.copier.space.words
    → ◌≡◌ {A = CertifiedPair} (record { old = record { size = size; end = h.end; words = words; roots = roots; raws = true }; new = record { size = new_size; end = new_end; words = placed; roots = moved; raws = true }; pairs = pairs })
    (flip_shown (heap_held h) (known_to h.copier))
asks h size words roots moved new_size new_end placed pairs told s w r m ns ne p l =
    let old = old_is h size h.end words roots s refl w r in
    let image = new_is h new_size new_end placed moved told ns ne p m in
    let links = l ∙ linked_is h h.copier.space.words refl in
    λ i. record { old = old i; new = image i; pairs = links i }

-- a refusal without a fault
no_fault : (first : Option Refusal) (fault : CheckFault) (refusal : Refusal) → first ≡ None → fault ≡ Refused refusal → IsRefusalOf first fault → ⊥
no_fault first fault refusal none is told = let some : first ≡ Some refusal = subst (IsRefusalOf first) is told in grind (arith, common_steps)

pub linked_pairs-requires-clause-shaped : goal.linked_pairs-requires-clause-shaped
linked_pairs-requires-clause-shaped g c =
    let h = c.args.self.now in
    subst (λ (words : List ℕ). IsSpace (record { size = length words; words = words })) (sym (c.words-placed.ensures ∙ ap (λ (s : SpaceWords). s.words) (c.old_words.ensures.space ∙ c.look.ensures.space)))
    (whole h.copier.space h.copier.shaped)

pub linked_pairs-requires-clause-links : goal.linked_pairs-requires-clause-links
linked_pairs-requires-clause-links g c r l =
    let h = c.args.self.now in
    let words : c.words-placed.result.now ≡ h.copier.space.words = c.words-placed.ensures ∙ ap (λ (s : SpaceWords). s.words) (c.old_words.ensures.space ∙ c.look.ensures.space) in
    (c.look.ensures.told h.roots.items h.sound c.requires.left).low (linked r)
    (subst (In (linked r)) (linked_is h c.words-placed.result.now words) (in_map linked r (replicas_in c.words-placed.result.now) l))

-- what is known of this flip, and what the checker is shown
told : (g : given.Over) (c : After-as_slice-3 g) → FlipOf c.args.self.now
told g c = c.look.ensures.told c.args.self.now.roots.items c.args.self.now.sound c.requires.left

shown : (g : given.Over) (c : After-as_slice-3 g)
    → ◌≡◌ {A = CertifiedPair} (record {
      old = record { size = c.old_words.new.self.size; end = c.args.self.now.end; words = c.as_slice.result.now; roots = c.as_slice-2.result.now; raws = true };
      new = record { size = c.size.result; end = c.end-new_end.result; words = c.words-placed.result.now; roots = c.args.moved.now; raws = true };
      pairs = map addresses c.as_slice-3.result.now;
    }) (flip_shown (heap_held c.args.self.now) (known_to c.args.self.now.copier))
shown g c =
    let still = c.old_words.ensures.space ∙ c.look.ensures.space in
    let placed = c.words-placed.ensures ∙ ap (λ (s : SpaceWords). s.words) still in
    asks c.args.self.now _ _ _ _ _ _ _ _ (told g c) (c.old_words.ensures.row.1 ∙ c.look.ensures.row.1)
    (c.as_slice.ensures.value ∙ (c.in_ok-words.ensures.words ∙ ap (λ (m : Sat). m.0.mine.space.words) c.look.ensures.same))
    c.as_slice-2.ensures.value c.requires.moved (c.size.ensures.value ∙ ap (λ (s : SpaceWords). s.size) still) (c.end-new_end.ensures.value ∙ ap (λ (s : SpaceWords). end_of s) still)
    placed (ap (map addresses) c.as_slice-3.ensures.value ∙ (c.in_ok-pairs.ensures.pairs ∙ ap linked_in placed))

pub returns-in-Err-Refused-clause-memory : goal.returns-in-Err-Refused-clause-memory
returns-in-Err-Refused-clause-memory g c =
    let l = (goal.at.returns-in-Err-Refused-clause-memory g c).After-as_slice-3 in
    absurd (no_fault _ c.in-Err-Refused.field-0 c.in-Err-Refused.field-0-0
    ((c.no_fault_where_certified.ensures _ _ _).1 (subst (λ (p : CertifiedPair). Certified p.old p.new p.pairs) (sym (shown g l)) ((told g l).certified (new_links (its (known_to c.args.self.now.copier))))))
    c.in-Err-Refused.field-0-is c.in-Err-Refused.ensures.refused)

pub returns-in-Ok-clause-asked : goal.returns-in-Ok-clause-asked
returns-in-Ok-clause-asked g c =
    let l = (goal.at.returns-in-Ok-clause-asked g c).After-as_slice-3 in
    subst (g.C.Checks.says_yes c.args.checker.now) (shown g l) c.in-Ok.ensures.said

pub returns-in-Ok-clause-certified : goal.returns-in-Ok-clause-certified
returns-in-Ok-clause-certified g c = (c.look.ensures.told c.args.self.now.roots.items c.args.self.now.sound c.requires.left).certified (new_links (its (known_to c.args.self.now.copier)))
