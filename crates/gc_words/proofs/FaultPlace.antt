-- What the place of a fault means.
use Rattle.std.proofs.lemmas.Grind.{common_steps}
use Rattle.std.proofs.Common.{◌≡◌, ℕ, suc, zero, ◌+◌, ◌<◌, ◌≤◌, Bool, true, false, cond, ◌&&◌, ◌==◌, List, [], ◌∷◌, length, Option, Some, None, Result, Ok, Err, refl, sym, ◌∙◌, ap, subst, inl, inr, arith}
use Rattle.std.specs.Prelude.{slice_index}
use Rattle.std.specs.Result.{result_err}
use Rattle.std.proofs.lemmas.Bool.{eqb-true, eq-eqb, leb-true, le-leb, and_parts, and_from, both_ways, cases_lt}
use Rattle.std.proofs.lemmas.List.{drop_all}
use Rattle.gc_words.specs.Image.{Block, Image, walk, with_front}
use Rattle.gc_words.specs.Fault.{first_difference, has_size, shape_fault}
use Rattle.gc_words.specs.FaultPlace.{DifferFirstAt, IsFramed, LieBetween, StopsAt, ShapeFailsAt}
use Rattle.gc_words.specs.Walking.{next_in}
use Rattle.gc_words.specs.Internal.Walking.{walk_on, block_from, StepsIn}
use Rattle.gc_words.proofs.Steps.{step, no_step, framed}

-- ---- the first difference of two lists

module _ (alike : ℕ → ℕ → Bool) where
  -- the lists after words that correspond differ one place earlier
  later : (v w : ℕ) (vs ws : List ℕ) (i : ℕ) → alike v w ≡ true → DifferFirstAt alike vs ws i → DifferFirstAt alike (v ∷ vs) (w ∷ ws) (suc i)
  later v w vs ws i t d = grind (arith, common_steps)

  differ_from : (n j : ℕ) (vs ws : List ℕ) → first_difference alike n vs ws ≡ Some j → (i : ℕ) × (j ≡ n + i) × DifferFirstAt alike vs ws i
  differ_from n j [] [] e = absurd cc
  differ_from n j [] (w ∷ ws) e = grind (arith, common_steps)
  differ_from n j (v ∷ vs) [] e = grind (arith, common_steps)
  differ_from n j (v ∷ vs) (w ∷ ws) e = grind (arith, common_steps, later, differ_from (suc n) j vs ws)

  found_from : (n i : ℕ) (vs ws : List ℕ) → DifferFirstAt alike vs ws i → first_difference alike n vs ws ≡ Some (n + i)
  found_from n i [] [] d = absurd d.here
  found_from n zero [] (w ∷ ws) d = ap (λ k. Some k) (omega arith)
  found_from n (suc i) [] (w ∷ ws) d = absurd (d.before 0 (omega arith))
  found_from n zero (v ∷ vs) [] d = ap (λ k. Some k) (omega arith)
  found_from n (suc i) (v ∷ vs) [] d = absurd (d.before 0 (omega arith))
  found_from n zero (v ∷ vs) (w ∷ ws) d = ap (λ b. cond b (first_difference alike (suc n) vs ws) (Some n)) d.here ∙ ap (λ k. Some k) (omega arith)
  found_from n (suc i) (v ∷ vs) (w ∷ ws) d =
      ap (λ b. cond b (first_difference alike (suc n) vs ws) (Some n)) (d.before 0 (omega arith))
      ∙ found_from (suc n) i vs ws (record { before = λ k h. d.before (suc k) (omega arith); here = d.here })
      ∙ ap (λ k. Some k) (omega arith)

  pub differ_first : (vs ws : List ℕ) (i : ℕ) → first_difference alike 0 vs ws ≡ Some i → DifferFirstAt alike vs ws i
  differ_first vs ws i e = grind (arith, common_steps, differ_from)

  pub first_found : (vs ws : List ℕ) (i : ℕ) → DifferFirstAt alike vs ws i → first_difference alike 0 vs ws ≡ Some i
  first_found vs ws i d = found_from 0 i vs ws d ∙ ap (λ k. Some k) (omega arith)

-- ---- the walk

module _ (raws : Bool) (words : List ℕ) where
  rises : (at next : ℕ) → next_in raws words at ≡ Some next → at < next
  rises at next e = grind (arith, common_steps)

  between : (from : ℕ) (nexts : List ℕ) (to : ℕ) → LieBetween raws words from nexts to → from ≤ to
  between from [] to lie = let same : from ≡ to = lie in omega arith
  between from (next ∷ nexts) to lie = grind (arith, common_steps, rises, between next nexts to lie.1)

  err_behind : (x : ℕ × Block) (r : Result (List (ℕ × Block)) ℕ) (at : ℕ) → with_front x r ≡ Err at → r ≡ Err at
  err_behind x r at e = grind (arith, common_steps)

  stops : (fuel from at : ℕ) → length words ≤ from + fuel → walk_on raws words from ≡ Err at → StopsAt raws words from at
  stops zero from at enough e = absurd (let no : Ok [] ≡ Err at = sym (ap (walk raws 0 from) (drop_all from words (omega arith))) ∙ e in cc)
  stops (suc fuel) from at enough e =
      elim (cases_lt from (length words)) [
        | inl inside ↦ go (λ next up f. stops fuel next at up f) inside (next_in raws words from) refl
        | inr past ↦ absurd (let no : Ok [] ≡ Err at = sym (ap (walk raws 0 from) (drop_all from words past)) ∙ e in cc)
      ]
    where
      go : ((next : ℕ) → length words ≤ next + fuel → walk_on raws words next ≡ Err at → StopsAt raws words next at)
          → from < length words → (o : Option ℕ) → next_in raws words from ≡ o → StopsAt raws words from at
      go again inside None is =
          let same : from ≡ at = cc (sym (no_step raws words from inside is) ∙ e) in
          record { nexts = []; objects = same; inside = omega arith; none = subst (λ n. next_in raws words n ≡ None) same is }
      go again inside (Some next) is =
          let up : from < next = rises from next is in
          let rest : StopsAt raws words next at = again next (omega arith) (err_behind _ (walk_on raws words next) at (sym (step raws words from next inside is).walk_is ∙ e)) in
          record { nexts = next ∷ rest.nexts; objects = (is, rest.objects); inside = rest.inside; none = rest.none }

  stopped : (from : ℕ) (nexts : List ℕ) (at : ℕ) → LieBetween raws words from nexts at → at < length words → next_in raws words at ≡ None → walk_on raws words from ≡ Err at
  stopped from [] at lie inside none = subst (λ n. walk_on raws words n ≡ Err at) (sym lie) (no_step raws words at inside none)
  stopped from (next ∷ nexts) at lie inside none =
      let low : from ≤ at = between from (next ∷ nexts) at lie in
      let s : StepsIn raws words from next = step raws words from next (omega arith) lie.0 in
      s.walk_is ∙ ap (with_front (from, block_from words from s.header)) (stopped next nexts at lie.1 inside none)

-- ---- shapes

err_of : {X : Type 0} (r : Result X ℕ) (at : ℕ) → result_err r ≡ Some at → r ≡ Err at
err_of r at e = grind (arith, common_steps)

sizes_of : (image : Image) → IsFramed image → has_size image ≡ true
sizes_of image f = and_from _ _ (and_from _ _ (and_from _ _ (le-leb _ _ f.0) (le-leb _ _ f.1)) (le-leb _ _ f.2)) (le-leb _ _ f.3)

words_of : (image : Image) → IsFramed image → ((length image.words == image.end) && (slice_index image.words 0 == 0)) ≡ true
words_of image f = and_from _ _ (eq-eqb _ _ f.4) (eq-eqb _ _ f.5)

framed_of : (image : Image) → has_size image ≡ true → ((length image.words == image.end) && (slice_index image.words 0 == 0)) ≡ true → IsFramed image
framed_of image sizes words = grind (arith, common_steps, and_parts, leb-true, eqb-true)

pub shape_fails : (image : Image) (at : ℕ) → shape_fault image ≡ Some at → ShapeFailsAt image at
shape_fails image at e = go (has_size image) refl ((length image.words == image.end) && (slice_index image.words 0 == 0)) refl e
  where
    at_zero : (IsFramed image → ⊥) → Some 0 ≡ Some at → ShapeFailsAt image at
    at_zero bad f = let same : 0 ≡ at = cc f in subst (ShapeFailsAt image) same bad

    behind_zero : IsFramed image → (n : ℕ) → StopsAt image.raws image.words 1 n → ShapeFailsAt image n
    behind_zero f zero s = absurd (let low : 1 ≤ 0 = between image.raws image.words 1 s.nexts 0 s.objects in omega arith)
    behind_zero f (suc n) s = (f, s)

    go : (b : Bool) → has_size image ≡ b → (c : Bool) → ((length image.words == image.end) && (slice_index image.words 0 == 0)) ≡ c
        → cond b (cond c (result_err (walk_on image.raws image.words 1)) (Some 0)) (Some 0) ≡ Some at → ShapeFailsAt image at
    go false hb c hc f = at_zero (λ framed. both_ways (has_size image) hb (sizes_of image framed)) f
    go true hb false hc f = at_zero (λ framed. both_ways ((length image.words == image.end) && (slice_index image.words 0 == 0)) hc (words_of image framed)) f
    go true hb true hc f = behind_zero (framed_of image hb hc) at (stops image.raws image.words (length image.words) 1 at (omega arith) (err_of (walk_on image.raws image.words 1) at f))

pub failing_shape : (image : Image) (at : ℕ) → ShapeFailsAt image at → shape_fault image ≡ Some at
failing_shape image at bad = grind (arith, common_steps, framed_of, sizes_of, framed, stopped)
