-- An object starts here, so the walk has a next place: the one after as many words as its header says.
use Rattle.std.proofs.Common.{◌≡◌, ℕ, List, length, Option, Some, refl, sym, ◌∙◌, ap, subst, arith}
use Rattle.std.specs.Prelude.{IsSome}
use Rattle.gc_words.specs.Space.{SpaceWords}
use Rattle.gc_words.specs.Walking.{next_of}
use Rattle.gc_words.proofs.Bodies.{NextRead, next_seen}
use Rattle.gc_words.proofs.space.Space.next_start.Goals as goal

-- the code's result, in terms of the words that contracts see
found : (s t : SpaceWords) (words : List ℕ) (a : ℕ) (o : Option ℕ) → words ≡ s.words → s ≡ t → o ≡ next_of words a → next_of t.words a ≡ o
found s t words a o lent same is = sym (is ∙ ap (λ ws. next_of ws a) (lent ∙ ap (λ (s : SpaceWords). s.words) same))

pub next_start-requires : goal.next_start-requires
next_start-requires c =
    let r : NextRead c.args.self.now.words c.args.at.0 = next_seen _ _ c.args.at.0 c.self.view_is c.self.invariant.0 c.requires in
    omega (arith, c.deref.ensures.len, ap length c.deref.ensures.value, ap (λ (s : SpaceWords). length s.words) c.self.view_is, r.inside)

pub unwrap-requires : goal.unwrap-requires
unwrap-requires c =
    let r : NextRead c.args.self.now.words c.args.at.0 = next_seen _ _ c.args.at.0 c.self.view_is c.self.invariant.0 c.requires in
    subst IsSome (sym r.found ∙ found _ _ c.deref.result.now c.args.at.0 _ c.deref.ensures.value c.self.view_is c.next_start.ensures) refl

pub returns-clause-place : goal.returns-clause-place
returns-clause-place c = λ h e.
    let r : NextRead c.args.self.now.words c.args.at.0 = next_seen _ _ c.args.at.0 c.self.view_is c.self.invariant.0 c.requires in
    let same : Some r.next ≡ Some c.unwrap.result = sym r.found ∙ found _ _ c.deref.result.now c.args.at.0 _ c.deref.ensures.value c.self.view_is c.next_start.ensures ∙ c.unwrap.ensures in
    (let one : c.unwrap.result ≡ r.next = cc in one) ∙ r.place h e
