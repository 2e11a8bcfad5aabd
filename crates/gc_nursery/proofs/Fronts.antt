-- The objects of old and young words together.
use Rattle.std.proofs.lemmas.Grind.{common_steps}
use Rattle.std.proofs.Common.{◌≡◌, ℕ, zero, suc, ◌+◌, ◌-◌, ◌<◌, ◌≤◌, Bool, true, false, List, [], ◌∷◌, ◌++◌, length, take, drop, Option, Some, None, Result, Ok, Err, refl, ap, sym, ◌∙◌, subst, arith, length-append}
use Rattle.std.specs.Prelude.{IsOk, slice_index}
use Rattle.std.specs.Result.{result_unwrap_or}
use Rattle.std.proofs.lemmas.List.{take-append-le, drop-append-le}
use Rattle.gc_words.specs.Word.{read_header}
use Rattle.gc_words.specs.Image.{Block, walk, walk_words, blocks, block_in, block_at, HasShape}
use Rattle.gc_words.specs.Space.{IsSpace}
use Rattle.gc_words.proofs.Public.{StandsIn, Walked, First, first, fields_in, object_walked, StandsAt, stands, ok_is, walked_blocks, stands_in}
use Rattle.gc_nursery.proofs.Lists.{Rising}
use Rattle.gc_nursery.specs.Minor.{young_blocks}

length_drop_one : (xs : List ℕ) → length (drop 1 xs) ≡ length xs - 1
length_drop_one xs = grind (arith, common_steps)

-- a walk goes on behind the last object
walk_on : (ws : List ℕ) (inside at : ℕ) (bs : List (ℕ × Block)) (ys : List ℕ) (cs : List (ℕ × Block)) → inside ≤ length ws → Walked inside at ws bs → Walked 0 (at + length ws) ys cs → Walked inside at (ws ++ ys) (bs ++ cs)
walk_on [] zero at bs ys cs room e f =
    (let here : at + 0 ≡ at = omega arith in subst (λ n. Walked 0 n ys cs) here f) ∙ (let none : [] ≡ bs = cc in (λ i. Ok (none i ++ cs)))
walk_on [] (suc inside) at bs ys cs room e f = absurd (omega arith)
walk_on (w ∷ ws) (suc inside) at bs ys cs room e f =
    walk_on ws inside (suc at) bs ys cs (omega arith) e (let here : at + suc (length ws) ≡ suc at + length ws = omega arith in subst (λ n. Walked 0 n ys cs) here f)
walk_on (w ∷ ws) zero at bs ys cs room e f =
    let g : First at ws bs (read_header w) = first at w ws bs e in
    let r : g.0.len + 1 ≤ length ws = g.2 in
    let longer : length (ws ++ ys) ≡ length ws + length ys = length-append ws ys in
    let survivors : fields_in g.0 (ws ++ ys) ≡ fields_in g.0 ws
    = ap (take g.0.len) (drop-append-le 1 ws ys (omega arith)) ∙ take-append-le g.0.len (drop 1 ws) ys (let d : length (drop 1 ws) ≡ length ws - 1 = length_drop_one ws in omega arith) in
    object_walked at w (ws ++ ys) g.0 _ g.1 (omega arith) (walk_on ws (g.0.len + 1) (suc at) g.3 ys cs g.2 g.4 (subst (λ n. Walked 0 n ys cs) (omega arith) f))
    ∙ (λ i. Ok ((at, record { header = g.0; fields = survivors i }) ∷ (g.3 ++ cs)))
    ∙ ap (λ bs. Ok (bs ++ cs)) (sym g.5)

-- ---- in a whole space

whole_walked : (size : ℕ) (front young : List ℕ) → IsSpace (record { size = size; words = front }) → IsOk (walk true 0 (length front) young)
    → walk_words (front ++ young) ≡ Ok (blocks front ++ young_blocks (length front) young)
whole_walked size front young shaped ok = grind (arith, common_steps, walk_on, walked_blocks, ok_is)

pub whole_blocks : (size : ℕ) (front young : List ℕ) → IsSpace (record { size = size; words = front }) → IsOk (walk true 0 (length front) young)
    → blocks (front ++ young) ≡ blocks front ++ young_blocks (length front) young
whole_blocks size front young shaped ok = ap (λ r. result_unwrap_or r []) (whole_walked size front young shaped ok)

first_word : (front young : List ℕ) → 1 ≤ length front → slice_index (front ++ young) 0 ≡ slice_index front 0
first_word front young low = grind (arith, common_steps)

pub whole_shaped : (size : ℕ) (front young : List ℕ) → IsSpace (record { size = size; words = front }) → IsOk (walk true 0 (length front) young) → length (front ++ young) ≤ size
    → HasShape true size (length (front ++ young)) (front ++ young)
whole_shaped size front young shaped ok fits = record {
  size_low = shaped.size_low;
  size_high = shaped.size_high;
  end_low = (let low : 1 ≤ length front = shaped.end_low in let n : length (front ++ young) ≡ length front + length young = length-append front young in omega arith);
  end_high = fits;
  count = refl;
  reserved = first_word front young shaped.end_low ∙ shaped.reserved;
  walked = ap is_ok_of (whole_walked size front young shaped ok);
}
  where
    is_ok_of : Result (List (ℕ × Block)) ℕ → Bool
    is_ok_of (Ok xs) = true
    is_ok_of (Err at) = false

-- ---- old and young starts

pub old_below : (size : ℕ) (front : List ℕ) (a : ℕ) (b : Block) → IsSpace (record { size = size; words = front }) → block_at front a ≡ Some b → a < length front
old_below size front a b shaped e =
    let s : StandsIn front a b = stands_in front a b shaped.walked e in
    let f : a + (b.header.len + 2) ≤ length front = s.fits in omega arith

pub not_old : (size : ℕ) (front : List ℕ) (a : ℕ) → IsSpace (record { size = size; words = front }) → length front ≤ a → block_at front a ≡ None
not_old size front a shaped high = go (block_at front a) refl
  where
    go : (o : Option Block) → block_at front a ≡ o → o ≡ None
    go None e = refl
    go (Some b) e = absurd (let l : a < length front = old_below size front a b shaped e in omega arith)

pub young_above : (base : ℕ) (young : List ℕ) (a : ℕ) (b : Block) → IsOk (walk true 0 base young) → block_in (young_blocks base young) a ≡ Some b → base ≤ a
young_above base young a b ok e =
    let s : StandsAt young base a b = stands young 0 base (young_blocks base young) a b (ok_is (walk true 0 base young) ok) e in
    let p : a ≡ base + s.offset = s.place in omega arith

-- ---- starts rise

rises : (ws : List ℕ) (inside at : ℕ) (bs : List (ℕ × Block)) → Walked inside at ws bs → Rising (at + inside) bs
rises [] inside at [] e = tt
rises [] inside at (b ∷ bs) e = cc
rises (w ∷ ws) (suc inside) at bs e = (let here : suc at + inside ≡ at + suc inside = omega arith in subst (λ n. Rising n bs) here (rises ws inside (suc at) bs e))
rises (w ∷ ws) zero at bs e =
    let f : First at ws bs (read_header w) = first at w ws bs e in
    subst (Rising (at + 0)) (sym f.5) (omega arith, lower f.3 (suc at + (f.0.len + 1)) (suc at) (omega arith) (rises ws (f.0.len + 1) (suc at) f.3 f.4))
  where
    lower : (bs : List (ℕ × Block)) (low less : ℕ) → less ≤ low → Rising low bs → Rising less bs
    lower [] low less h r = tt
    lower (x ∷ bs) low less h r = (let l : low ≤ x.0 = r.0 in omega arith, r.1)

pub old_rise : (size : ℕ) (front : List ℕ) → IsSpace (record { size = size; words = front }) → Rising 1 (blocks front)
old_rise size front shaped = grind (arith, common_steps, rises, walked_blocks)
