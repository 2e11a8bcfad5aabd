-- A watch still watches both spaces after a write that it allows.
use Rattle.std.proofs.lemmas.Grind.{common_steps}
use Rattle.std.proofs.Common.{◌≡◌, ◌⊎◌, inl, inr, ⊎_elim, ℕ, zero, suc, true, List, [], ◌∷◌, refl, set, get_or, take, Option, Some, None, IsTrue, sym, ◌∙◌, ap, subst, arith, length-set, length-take}
use Rattle.std.specs.Prelude.{slice_get, slice_set, ◌≢◌, IsSome}
use Rattle.std.proofs.lemmas.Bool.{cases_eq}
use Rattle.std.proofs.Math.Seq.{take-set-lt}
use Rattle.gc_words.specs.Image.{Block, block_at, is_start, field_at, with_field_word, block_in}
use Rattle.gc_words.specs.Space.{IsSpace}
use Rattle.gc_words.specs.Layout.{field_place, link_place}
use Rattle.gc_words.proofs.Public.{field_read, field_written, link_written, header_read, field_block, field_beside}
use Rattle.gc_monitor.specs.Watch.{Watch, IsSeen, IsWatched, Watches, NewIsDue, is_due, seen_at, front}
use Rattle.gc_monitor.specs.Internal.Watch.{OldIsDue}

-- the element at place j after a write at place i
get_set : (xs : List ℕ) (i j y z : ℕ) → slice_get (set xs i y) j ≡ Some z → ((j ≡ i) × (y ≡ z)) ⊎ ((j ≢ i) × (slice_get xs j ≡ Some z))
get_set [] i j y z h = absurd cc
get_set (x ∷ xs) zero zero y z h = inl (refl, cc)
get_set (x ∷ xs) zero (suc j) y z h = inr ((omega arith), h)
get_set (x ∷ xs) (suc i) zero y z h = inr ((omega arith), h)
get_set (x ∷ xs) (suc i) (suc j) y z h = ⊎_elim (λ a. inl (ap suc a.0, a.1)) (λ b. inr ((let n = b.0 in omega arith), b.1)) (get_set xs i j y z h)

-- ---- what is seen of a space with a field written

module _ (n : ℕ) (words : List ℕ) (a i x : ℕ) (seen : IsSeen n words) (some : IsSome (field_at (take n words) a i)) where
  front_is : take n (slice_set words (field_place a i) x) ≡ slice_set (take n words) (field_place a i) x
  front_is = grind (arith, common_steps, take-set-lt, field_read, length-take)

  seen_written : IsSeen n (slice_set words (field_place a i) x)
  seen_written = record {
    within = (let w = seen.within in omega (arith, length-set words (field_place a i) x));
    space = subst (λ ws. IsSpace (record { size = 4294967295; words = ws })) (sym front_is) (field_written (front n words) a i x seen.space some).0;
  }

  pub block_written : (b : Block) → seen_at n words a ≡ Some b → seen_at n (slice_set words (field_place a i) x) a ≡ Some (with_field_word b i x)
  block_written b e = ap (λ ws. block_at ws a) front_is ∙ field_block (front n words) a i x b seen.space some e

  pub block_beside : (c : ℕ) → (a ≡ c → ⊥) → seen_at n (slice_set words (field_place a i) x) c ≡ seen_at n words c
  block_beside c other = ap (λ ws. block_at ws c) front_is ∙ field_beside (front n words) a i x c seen.space some other

  pub block_there : (b : Block) × (seen_at n words a ≡ Some b)
  block_there = let f = field_read (take n words) a i seen.space.walked some in (f.block, f.found)

-- ---- with a link written

module _ (n : ℕ) (words : List ℕ) (a x : ℕ) (seen : IsSeen n words) (start : is_start (take n words) a ≡ true) where
  link_front : take n (slice_set words (link_place a) x) ≡ slice_set (take n words) (link_place a) x
  link_front = grind (arith, common_steps, header_read, take-set-lt)

  seen_linked : IsSeen n (slice_set words (link_place a) x)
  seen_linked = record {
    within = (let w = seen.within in omega (arith, length-set words (link_place a) x));
    space = subst (λ ws. IsSpace (record { size = 4294967295; words = ws })) (sym link_front) (link_written (front n words) a x seen.space start).0;
  }

  pub block_linked : (c : ℕ) → seen_at n (slice_set words (link_place a) x) c ≡ seen_at n words c
  block_linked c = ap (λ ws. block_at ws c) link_front ∙ ap (λ bs. block_in bs c) (link_written (front n words) a x seen.space start).1

-- ---- blocks with a due field written

old_field_due : (w : Watch) (b i x : ℕ) (c : Block) (q : Option Block) → is_due w b i ≡ true → IsWatched w b (Some c) q → IsWatched w b (Some (with_field_word c i x)) q
old_field_due w b i x c None due h = absurd h
old_field_due w b i x c (Some d) due h = (
  h.0,
  λ j v u k l. ⊎_elim
      (λ e. inl (ap (is_due w b) e.0 ∙ due))
      (λ e. h.1 j v u e.1 l)
      (get_set c.fields i j x v k),
)

new_field_due : (w : Watch) (b i x : ℕ) (o : Option Block) (d : Block) → is_due w b i ≡ true → IsWatched w b o (Some d) → IsWatched w b o (Some (with_field_word d i x))
new_field_due w b i x None d due h = absurd h
new_field_due w b i x (Some c) d due h = (
  h.0,
  λ j v u k l. ⊎_elim
      (λ e. inl (ap (is_due w b) e.0 ∙ due))
      (λ e. h.1 j v u k e.1)
      (get_set d.fields i j x u l),
)

-- ---- the watch goes on

pub old_field : (old new : List ℕ) (w : Watch) (a i x : ℕ) → Watches old new w → IsSome (field_at (take w.old_seen old) a i) → OldIsDue w a i → Watches (slice_set old (field_place a i) x) new w
old_field old new w a i x h some due = record {
  old_seen = seen_written w.old_seen old a i x h.old_seen some;
  new_seen = h.new_seen;
  pairs = λ k d n. each (get_or w.pairs k d) (h.pairs k d n) (due k d n);
  row = h.row;
  rising = h.rising;
  once = h.once;
}
  where
    each : (p : ℕ × ℕ) → IsWatched w p.1 (seen_at w.old_seen old p.0) (seen_at w.new_seen new p.1) → (p.0 ≡ a → IsTrue (is_due w p.1 i))
        → IsWatched w p.1 (seen_at w.old_seen (slice_set old (field_place a i) x) p.0) (seen_at w.new_seen new p.1)
    each p k d = elim (cases_eq p.0 a) [
      | inl e ↦ (let b = block_there w.old_seen old a i x h.old_seen some in
          subst (λ c. IsWatched w p.1 (seen_at w.old_seen (slice_set old (field_place a i) x) c) (seen_at w.new_seen new p.1)) (sym e)
          (subst (λ o. IsWatched w p.1 o (seen_at w.new_seen new p.1)) (sym (block_written w.old_seen old a i x h.old_seen some b.0 b.1))
          (old_field_due w p.1 i x b.0 (seen_at w.new_seen new p.1) (d e)
          (subst (λ o. IsWatched w p.1 o (seen_at w.new_seen new p.1)) (ap (seen_at w.old_seen old) e ∙ b.1) k))))
      | inr other ↦ subst (λ o. IsWatched w p.1 o (seen_at w.new_seen new p.1)) (sym (block_beside w.old_seen old a i x h.old_seen some p.0 (λ e. other (sym e)))) k
    ]

pub new_field : (old new : List ℕ) (w : Watch) (b i x : ℕ) → Watches old new w → IsSome (field_at (take w.new_seen new) b i) → NewIsDue w b i → Watches old (slice_set new (field_place b i) x) w
new_field old new w b i x h some due = record {
  old_seen = h.old_seen;
  new_seen = seen_written w.new_seen new b i x h.new_seen some;
  pairs = λ k d n. each (get_or w.pairs k d) (h.pairs k d n) (due k d n);
  row = h.row;
  rising = h.rising;
  once = h.once;
}
  where
    each : (p : ℕ × ℕ) → IsWatched w p.1 (seen_at w.old_seen old p.0) (seen_at w.new_seen new p.1) → (p.1 ≡ b → IsTrue (is_due w b i))
        → IsWatched w p.1 (seen_at w.old_seen old p.0) (seen_at w.new_seen (slice_set new (field_place b i) x) p.1)
    each p k d = elim (cases_eq p.1 b) [
      | inl e ↦ (let c = block_there w.new_seen new b i x h.new_seen some in
          subst (λ q. IsWatched w q (seen_at w.old_seen old p.0) (seen_at w.new_seen (slice_set new (field_place b i) x) q)) (sym e)
          (subst (IsWatched w b (seen_at w.old_seen old p.0)) (sym (block_written w.new_seen new b i x h.new_seen some c.0 c.1))
          (new_field_due w b i x (seen_at w.old_seen old p.0) c.0 (d e)
          (subst (IsWatched w b (seen_at w.old_seen old p.0)) c.1 (subst (λ q. IsWatched w q (seen_at w.old_seen old p.0) (seen_at w.new_seen new q)) e k)))))
      | inr other ↦ subst (IsWatched w p.1 (seen_at w.old_seen old p.0)) (sym (block_beside w.new_seen new b i x h.new_seen some p.1 (λ e. other (sym e)))) k
    ]

pub old_link : (old new : List ℕ) (w : Watch) (a x : ℕ) → Watches old new w → is_start (take w.old_seen old) a ≡ true → Watches (slice_set old (link_place a) x) new w
old_link old new w a x h start = grind (arith, common_steps, seen_linked, block_linked)

pub new_link : (old new : List ℕ) (w : Watch) (b x : ℕ) → Watches old new w → is_start (take w.new_seen new) b ≡ true → Watches old (slice_set new (link_place b) x) w
new_link old new w b x h start = grind (arith, common_steps, seen_linked, block_linked)
