-- A watch still watches both spaces after a field is taken for due, or compared.
use Rattle.std.proofs.lemmas.Grind.{common_steps}
use Rattle.std.proofs.Common.{◌≡◌, ◌≢◌, ◌⊎◌, inl, inr, ⊎_elim, ℕ, ◌+◌, ◌<◌, ◌≤◌, Bool, true, false, List, length, set, get_or, take, Option, Some, is_some, All, AllPairs, IsTrue, sym, ◌∙◌, ap, subst, arith, length-set}
use Rattle.std.specs.Prelude.{slice_get}
use Rattle.std.proofs.lemmas.Bool.{cases_Bool, cases_eq, cases_lt}
use Rattle.std.proofs.lemmas.List.{get_or-set_other, get_or_default, get_or-set_same, get_or_past}
use Rattle.std.proofs.lemmas.List.Elements.{All-weaker}
use Rattle.std.proofs.lemmas.Option.{slice_get_within}
use Rattle.gc_words.specs.Word.{field_words_correspond}
use Rattle.gc_words.specs.Image.{Block, blocks, block_at, header_at, field_at}
use Rattle.gc_words.specs.Layout.{field_place}
use Rattle.gc_words.specs.declared.header.Header.{Header}
use Rattle.gc_words.proofs.Public.{field_read, stands_in, laid_out_words, objects_apart}
use Rattle.gc_monitor.specs.Watch.{Watch, IsWatched, Watches, is_due, seen_at}
use Rattle.gc_monitor.specs.Internal.Watch.{mark, looked, pair_at}

abbrev pub Fine : Watch → ℕ → Header → ℕ → ℕ → ℕ → Type 0
Fine w b h i v u = IsTrue (is_due w b i) ⊎ IsTrue (field_words_correspond h w.pairs v u)

-- what is fine for one watch is for another
pub watched_by : (w x : Watch) (b : ℕ) (o q : Option Block)
    → ((c d : Block) → o ≡ Some c → q ≡ Some d → (i v u : ℕ) → slice_get c.fields i ≡ Some v → slice_get d.fields i ≡ Some u → Fine w b c.header i v u → Fine x b c.header i v u)
    → IsWatched w b o q → IsWatched x b o q
watched_by w x b o q f h = grind (arith, common_steps)

-- ---- due

pub set_true : (ds : List Bool) (p q : ℕ) → get_or ds q false ≡ true → get_or (set ds p true) q false ≡ true
set_true ds p q h = grind (arith, common_steps, cases_eq, cases_lt, get_or-set_same, get_or-set_other, get_or_past, length-set)

-- the same pairs and walks
rewatched : (old new : List ℕ) (w : Watch) (due : List Bool) → length due ≡ length w.due → Watches old new w
    → All (λ p. IsWatched (record w { due = due }) p.1 (seen_at w.old_seen old p.0) (seen_at w.new_seen new p.1)) w.pairs → Watches old new (record w { due = due })
rewatched old new w due same h pairs = record { old_seen = h.old_seen; new_seen = h.new_seen; pairs = pairs; row = same ∙ h.row; rising = h.rising; once = h.once }

pub taken_for_due : (old new : List ℕ) (w : Watch) (place : ℕ) → Watches old new w → Watches old new (mark w place true)
taken_for_due old new w place h = rewatched old new w (set w.due place true) (length-set w.due place true) h (All-weaker
    (λ (p : ℕ × ℕ). IsWatched w p.1 (seen_at w.old_seen old p.0) (seen_at w.new_seen new p.1))
    (λ (p : ℕ × ℕ). IsWatched (mark w place true) p.1 (seen_at w.old_seen old p.0) (seen_at w.new_seen new p.1))
    (λ p k. watched_by w (mark w place true) p.1 _ _ (λ c d e f i v u x y. ⊎_elim (λ t. inl (set_true w.due place (field_place p.1 i) t)) (λ t. inr t)) k)
    w.pairs h.pairs)

-- ---- fields do not overlap

-- one word is a field of one object
same_field : (words : List ℕ) (a x i j : ℕ) (b d : Block) → Rattle.std.specs.Prelude.IsOk (Rattle.gc_words.specs.Image.walk_words words) → block_at words a ≡ Some b → block_at words x ≡ Some d → i < b.header.len → j < d.header.len → field_place a i ≡ field_place x j → (a ≡ x) × (i ≡ j)
same_field words a x i j b d ok e f k l same =
    elim (cases_eq a x) [
      | inl is ↦ (is, omega arith)
      | inr other ↦ elim (cases_lt a x) [
        | inl less ↦ (let past : a + (b.header.len + 2) ≤ x = objects_apart (blocks words) 1 a x b (laid_out_words words ok) e (ap is_some f) less in absurd (omega arith))
        | inr more ↦ (let past : x + (d.header.len + 2) ≤ a = objects_apart (blocks words) 1 x a d (laid_out_words words ok) f (ap is_some e) (omega arith) in absurd (omega arith))
      ]
    ]

-- pairs with one new address are one
same_pair : (pairs : List (ℕ × ℕ)) → AllPairs (λ p q. p.1 < q.1) pairs → (k l : ℕ) (d : ℕ × ℕ) → k < length pairs → l < length pairs → (get_or pairs k d).1 ≡ (get_or pairs l d).1 → k ≡ l
same_pair pairs rising k l d m n same = grind (arith, common_steps, cases_eq, cases_lt)

-- ---- a field compared

module _ (old new : List ℕ) (w : Watch) (k i v u : ℕ) (h : Header) (is : Watches old new w) (m : k < length w.pairs)
    (he : header_at (take w.old_seen old) (pair_at w k).0 ≡ Some h) (fv : field_at (take w.old_seen old) (pair_at w k).0 i ≡ Some v) (fu : field_at (take w.new_seen new) (pair_at w k).1 i ≡ Some u) where
  miss : (b : ℕ) (c : Header) (j x y : ℕ) → field_place b j ≢ field_place (pair_at w k).1 i → Fine w b c j x y → Fine (looked w h (pair_at w k).1 i v u) b c j x y
  miss b c j x y other h = grind (arith, common_steps, get_or-set_other)

  hit : (c d : Block) → seen_at w.old_seen old (pair_at w k).0 ≡ Some c → seen_at w.new_seen new (pair_at w k).1 ≡ Some d → (j x y : ℕ) → j ≡ i → slice_get c.fields j ≡ Some x → slice_get d.fields j ≡ Some y
      → Fine w (pair_at w k).1 c.header j x y → Fine (looked w h (pair_at w k).1 i v u) (pair_at w k).1 c.header j x y
  hit c d e f j x y same gx gy fine = grind (arith, common_steps, cases_Bool, set_true)

  its_own : IsWatched w (pair_at w k).1 (seen_at w.old_seen old (pair_at w k).0) (seen_at w.new_seen new (pair_at w k).1)
      → IsWatched (looked w h (pair_at w k).1 i v u) (pair_at w k).1 (seen_at w.old_seen old (pair_at w k).0) (seen_at w.new_seen new (pair_at w k).1)
  its_own = watched_by w (looked w h (pair_at w k).1 i v u) (pair_at w k).1 _ _ (λ c d e f j x y gx gy fine. elim (cases_eq j i) [
    | inl same ↦ hit c d e f j x y same gx gy fine
    | inr other ↦ miss (pair_at w k).1 c.header j x y (λ s. other (omega arith)) fine
  ])

  another : (l : ℕ) → l < length w.pairs → l ≢ k
      → IsWatched w (pair_at w l).1 (seen_at w.old_seen old (pair_at w l).0) (seen_at w.new_seen new (pair_at w l).1)
      → IsWatched (looked w h (pair_at w k).1 i v u) (pair_at w l).1 (seen_at w.old_seen old (pair_at w l).0) (seen_at w.new_seen new (pair_at w l).1)
  another l n other = watched_by w (looked w h (pair_at w k).1 i v u) (pair_at w l).1 _ _ (λ c d e f j x y gx gy fine.
      miss (pair_at w l).1 c.header j x y (λ s.
      let r = field_read (take w.new_seen new) (pair_at w k).1 i is.new_seen.space.walked (ap is_some fu) in
      let len : length d.fields ≡ d.header.len = (stands_in (take w.new_seen new) (pair_at w l).1 d is.new_seen.space.walked f).whole.fields in
      let inside : j < length d.fields = slice_get_within d.fields j y gy in
      let one = same_field (take w.new_seen new) (pair_at w l).1 (pair_at w k).1 j i d r.block is.new_seen.space.walked f r.found (omega arith) r.has_field s in
      other (same_pair w.pairs is.rising l k (0, 0) n m one.0)) fine)

  pub compared : Watches old new (looked w h (pair_at w k).1 i v u)
  compared = rewatched old new w _ (length-set w.due _ _) is (λ l d n.
      let P : ℕ × ℕ → Type 0 = (λ p. IsWatched (looked w h (pair_at w k).1 i v u) p.1 (seen_at w.old_seen old p.0) (seen_at w.new_seen new p.1)) in
      let same : get_or w.pairs l (0, 0) ≡ get_or w.pairs l d = get_or_default w.pairs l (0, 0) d n in
      subst P same (elim (cases_eq l k) [
        | inl e ↦ subst (λ q. P (pair_at w q)) (sym e) (its_own (is.pairs k (0, 0) m))
        | inr other ↦ another l n other (is.pairs l (0, 0) n)
      ]))
