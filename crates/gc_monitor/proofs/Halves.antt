-- The originals of replicas, as bits and halves of addresses hold them.
use Rattle.std.proofs.Math.Seq.{get_or-append_seam}
use Rattle.std.proofs.lemmas.Grind.{common_steps}
use Rattle.std.proofs.Common.{◌≡◌, ◌≢◌, inl, inr, ℕ, zero, suc, ◌+◌, ◌-◌, ◌*◌, ◌/◌, ◌%◌, ◌<◌, ◌≤◌, ◌==◌, true, false, List, [], ◌∷◌, ◌++◌, length, set, get_or, replicate, refl, sym, ◌∙◌, ap, subst, arith, length-append, length-set, get_or-set_same, get_or-set_other, rules}
use Rattle.std.specs.Prelude.{slice_index, if◌then◌else◌}
use Rattle.std.specs.Int.{bit_at}
use Rattle.std.proofs.lemmas.Bool.{cases_eq, cases_lt, cases_Bool}
use Rattle.std.proofs.lemmas.List.{length-replicate, get_or_default, get_or_past, ext_get_or}
use Rattle.std.proofs.lemmas.List.FromFn.{length-map-range_with_len, get_or-map-range_with_len}
use Rattle.gc_words.specs.Marks.{is_marked}
use Rattle.gc_words.proofs.Public.{no_mark}
use Rattle.gc_monitor.specs.Internal.InWords.{Origins, origin_at, origins_in, HasOrigins}
use Rattle.gc_monitor.proofs.Packed.{zeros_at, zeros_behind}

-- ---- marks

more_marks : (bits : List ℕ) (n place : ℕ) → is_marked (bits ++ replicate n 0) place ≡ is_marked bits place
unfolding is_marked
more_marks bits n place = ap (λ word. bit_at word (place % 64) == 1) (zeros_behind bits n (place / 64))

-- ---- originals by place

pub length-origins : (starts originals : List ℕ) (len : ℕ) → length (origins_in starts originals len) ≡ len
unfolding origins_in
length-origins starts originals len = length-map-range_with_len (origin_at starts originals) 0 len

origins_at : (starts originals : List ℕ) (len place : ℕ) → place < len → get_or (origins_in starts originals len) place 0 ≡ origin_at starts originals place
unfolding origins_in
origins_at starts originals len place inside = get_or-map-range_with_len (origin_at starts originals) 0 len place place 0 inside (omega arith)

origin_of : (starts originals : List ℕ) (place : ℕ) → is_marked starts place ≡ true → origin_at starts originals place ≡ slice_index originals (place / 2)
unfolding origin_at
origin_of starts originals place start = ap (λ b. if b then slice_index originals (place / 2) else 0) start

no_origin : (starts originals : List ℕ) (place : ℕ) → is_marked starts place ≡ false → origin_at starts originals place ≡ 0
unfolding origin_at
no_origin starts originals place none = ap (λ b. if b then slice_index originals (place / 2) else 0) none

-- ---- a replica more

-- the row with a replica's original at the end
abbrev originals_with : List ℕ → ℕ → ℕ → ℕ → List ℕ
originals_with originals m len original = set (originals ++ replicate m 0) (len / 2) original

-- the rows have grown far enough, and the last place is marked
record HasGrown (starts originals marked : List ℕ) (len n m fields : ℕ) : Type 0 where
  pub has : HasOrigins starts originals len
  pub words : length starts + n ≡ (len + (fields + 2) + 63) / 64
  pub halves : length originals + m ≡ 32 * (length starts + n)
  pub long : length marked ≡ length starts + n
  pub some : 1 ≤ len
  pub here : is_marked marked len ≡ true
  pub beside : (place : ℕ) → place ≢ len → is_marked marked place ≡ is_marked starts place

half_within : (starts originals marked : List ℕ) (len n m fields : ℕ) → HasGrown starts originals marked len n m fields → len / 2 < length (originals ++ replicate m 0)
half_within starts originals marked len n m fields g = omega (arith, length-append originals (replicate m 0), length-replicate {A = ℕ} m 0, g.halves, g.words)

has_more : (starts originals marked : List ℕ) (len n m fields original : ℕ) → HasGrown starts originals marked len n m fields
    → HasOrigins marked (originals_with originals m len original) (len + (fields + 2))
has_more starts originals marked len n m fields original g = record {
  bits = g.long ∙ g.words;
  halves = length-set (originals ++ replicate m 0) (len / 2) original ∙ length-append originals (replicate m 0) ∙ ap (λ k. length originals + k) (length-replicate {A = ℕ} m 0) ∙ g.halves ∙ ap (λ k. 32 * k) (sym g.long);
  first = g.beside 0 (λ e. (let some : 1 ≤ len = g.some in omega arith)) ∙ g.has.first;
  rest = λ place past. g.beside place (λ e. omega arith) ∙ g.has.rest place (omega arith);
}

-- the row of originals with one more, at each place
behind_at : (xs : List ℕ) (original fields place : ℕ) → place ≢ length xs → get_or (xs ++ original ∷ 0 ∷ replicate fields 0) place 0 ≡ get_or xs place 0
behind_at [] original fields zero other = absurd (other refl)
behind_at [] original fields (suc place) other = zeros_at (suc fields) place
behind_at (x ∷ xs) original fields zero other = refl
behind_at (x ∷ xs) original fields (suc place) other = behind_at xs original fields place (λ e. other (ap suc e))

end_at : (xs : List ℕ) (original fields : ℕ) → get_or (xs ++ original ∷ 0 ∷ replicate fields 0) (length xs) 0 ≡ original
end_at xs original fields = get_or-append_seam xs original (0 ∷ replicate fields 0) 0

origin_beside : (starts originals marked : List ℕ) (len n m fields original place : ℕ) → HasGrown starts originals marked len n m fields → place ≢ len
    → origin_at marked (originals_with originals m len original) place ≡ origin_at starts originals place
origin_beside starts originals marked len n m fields original place g other = elim (cases_Bool (is_marked starts place)) [
  | inl start ↦ origin_of marked (originals_with originals m len original) place (g.beside place other ∙ start)
      ∙ get_or-set_other (originals ++ replicate m 0) (len / 2) (place / 2) original 0 (λ e. omega (arith, below start))
      ∙ zeros_behind originals m (place / 2)
      ∙ sym (origin_of starts originals place start)
  | inr none ↦ no_origin marked (originals_with originals m len original) place (g.beside place other ∙ none)
      ∙ sym (no_origin starts originals place none)
]
  where
    below : is_marked starts place ≡ true → place + 2 ≤ len
    below start = grind (arith, common_steps, cases_lt)

origins_past : (starts originals : List ℕ) (len place : ℕ) → HasOrigins starts originals len → get_or (origins_in starts originals len) place 0 ≡ origin_at starts originals place
origins_past starts originals len place has = grind (arith, common_steps, cases_lt, origins_at, get_or_past, length-origins, no_origin)

origins_more : (starts originals marked : List ℕ) (len n m fields original : ℕ) → HasGrown starts originals marked len n m fields
    → origins_in marked (originals_with originals m len original) (len + (fields + 2)) ≡ origins_in starts originals len ++ original ∷ 0 ∷ replicate fields 0
origins_more starts originals marked len n m fields original g =
    ext_get_or 0 after (before ++ original ∷ 0 ∷ replicate fields 0)
    (length-origins marked (originals_with originals m len original) (len + (fields + 2))
    ∙ sym (length-append before (original ∷ 0 ∷ replicate fields 0)
    ∙ (let e : length before + length {A = ℕ} (original ∷ 0 ∷ replicate fields 0) ≡ len + (fields + 2) = omega (arith, length-origins starts originals len, length-replicate {A = ℕ} fields 0) in e)))
    (λ place within. past place ∙ same place)
  where
    before : List ℕ
    before = origins_in starts originals len

    after : List ℕ
    after = origins_in marked (originals_with originals m len original) (len + (fields + 2))

    past : (place : ℕ) → get_or after place 0 ≡ origin_at marked (originals_with originals m len original) place
    past place = origins_past marked (originals_with originals m len original) (len + (fields + 2)) place (has_more starts originals marked len n m fields original g)

    same : (place : ℕ) → origin_at marked (originals_with originals m len original) place ≡ get_or (before ++ original ∷ 0 ∷ replicate fields 0) place 0
    same place = elim (cases_eq place len) [
      | inl here ↦ subst (λ at. origin_at marked (originals_with originals m len original) at ≡ get_or (before ++ original ∷ 0 ∷ replicate fields 0) at 0) (sym here)
          (origin_of marked (originals_with originals m len original) len g.here
          ∙ get_or-set_same (originals ++ replicate m 0) (len / 2) original 0 (half_within starts originals marked len n m fields g)
          ∙ sym (subst (λ at. get_or (before ++ original ∷ 0 ∷ replicate fields 0) at 0 ≡ original) (length-origins starts originals len) (end_at before original fields)))
      | inr other ↦ origin_beside starts originals marked len n m fields original place g other
          ∙ sym (behind_at before original fields place (λ e. other (e ∙ length-origins starts originals len)) ∙ origins_past starts originals len place g.has)
    ]

-- ---- the row of place 0

one_origin : origins_in (replicate 1 0) (replicate 32 0) 1 ≡ 0 ∷ []
unfolding origins_in origin_at is_marked
one_origin = refl

no_origins : origins_in [] [] 0 ≡ []
unfolding origins_in
no_origins = refl

-- ---- what a caller sees

pub seen_fits : (starts originals : List ℕ) (len room more : ℕ) (seen : Origins) → record { origins = origins_in starts originals len; room = room } ≡ seen → length seen.origins + more ≤ seen.room → len + more ≤ room
seen_fits starts originals len room more seen is fits = grind (arith, common_steps, length-origins)

seen_at : (starts originals : List ℕ) (len room place : ℕ) (seen : Origins) → record { origins = origins_in starts originals len; room = room } ≡ seen → get_or (origins_in starts originals len) place 0 ≡ get_or seen.origins place 0
seen_at starts originals len room place seen is = ap (λ (t : Origins). get_or t.origins place 0) is

pub none_past : (starts originals : List ℕ) (len room place : ℕ) (seen : Origins) → record { origins = origins_in starts originals len; room = room } ≡ seen → len ≤ place → 0 ≡ get_or seen.origins place 0
none_past starts originals len room place seen is past = grind (arith, common_steps, get_or_past, length-origins, seen_at)

pub none_unmarked : (starts originals : List ℕ) (len room place : ℕ) (seen : Origins) → record { origins = origins_in starts originals len; room = room } ≡ seen → place < len → false ≡ is_marked starts place → 0 ≡ get_or seen.origins place 0
none_unmarked starts originals len room place seen is inside none = grind (arith, origins_at, no_origin, seen_at)

pub original_read : (starts originals : List ℕ) (len room place original : ℕ) (seen : Origins) → record { origins = origins_in starts originals len; room = room } ≡ seen → HasOrigins starts originals len → place < len
    → true ≡ is_marked starts place → original ≡ get_or originals (place / 2) original → original ≡ get_or seen.origins place 0
original_read starts originals len room place original seen is has inside start at = search (rules, get_or_default, origins_at, origin_of, seen_at)

-- ---- as the code writes them

pub has_one_of : (s0 o0 starts originals : List ℕ) (n m : ℕ) → s0 ≡ [] → n ≡ 0 → starts ≡ s0 ++ replicate (1 - n) 0 → o0 ≡ [] → m ≡ 0 → originals ≡ o0 ++ replicate (32 - m) 0
    → HasOrigins starts originals 1
has_one_of s0 o0 starts originals n m s_none n_zero s o_none m_zero o = grind (arith, common_steps, no_mark, zeros_at)

pub one_origin_of : (s0 o0 starts originals : List ℕ) (n m : ℕ) → s0 ≡ [] → n ≡ 0 → starts ≡ s0 ++ replicate (1 - n) 0 → o0 ≡ [] → m ≡ 0 → originals ≡ o0 ++ replicate (32 - m) 0
    → origins_in starts originals 1 ≡ 0 ∷ []
one_origin_of s0 o0 starts originals n m s_none n_zero s o_none m_zero o = grind (arith, common_steps, one_origin)

pub has_none_of : (starts originals : List ℕ) → starts ≡ [] → originals ≡ [] → HasOrigins starts originals 0
has_none_of starts originals s o = grind (arith, common_steps, no_mark)

pub no_origins_of : (starts originals : List ℕ) → starts ≡ [] → originals ≡ [] → origins_in starts originals 0 ≡ []
no_origins_of starts originals s o = (λ i. origins_in (s i) (o i) 0) ∙ no_origins

-- the rows that the code writes for a replica more
pub record IsAdded (starts originals starts' originals' : List ℕ) (len len' fields original : ℕ) : Type 0 where
  pub has : HasOrigins starts' originals' len'
  pub origins : origins_in starts' originals' len' ≡ origins_in starts originals len ++ original ∷ 0 ∷ replicate fields 0

pub added : (starts originals more_starts more_originals marked kept : List ℕ) (len len' words starts_len originals_len fields original : ℕ) → HasOrigins starts originals len → 1 ≤ len → starts_len ≡ length starts → originals_len ≡ length originals
    → more_starts ≡ starts ++ replicate (words - starts_len) 0 → more_originals ≡ originals ++ replicate (32 * words - originals_len) 0 → len' ≡ len + (fields + 2) → words ≡ (len' + 63) / 64
    → length marked ≡ length more_starts → is_marked marked len ≡ true → ((other : ℕ) → other ≢ len → is_marked marked other ≡ is_marked more_starts other) → kept ≡ marked
    → IsAdded starts originals kept (set more_originals (len / 2) original) len len' fields original
added starts originals more_starts more_originals marked kept len len' words starts_len originals_len fields original has some starts_has originals_has starts_are originals_are len_is words_are long here beside same =
    let n = words - starts_len in
    let m = 32 * words - originals_len in
    let g : HasGrown starts originals marked len n m fields = record {
      has = has;
      words = omega (arith, has.bits);
      halves = omega (arith, has.bits, has.halves);
      some = some;
      long = long ∙ ap (λ (row : List ℕ). length row) starts_are ∙ length-append starts (replicate n 0) ∙ ap (λ k. length starts + k) (length-replicate {A = ℕ} n 0);
      here = here;
      beside = λ place other. beside place other ∙ ap (λ row. is_marked row place) starts_are ∙ more_marks starts n place;
    } in
    let o : set more_originals (len / 2) original ≡ originals_with originals m len original = ap (λ row. set row (len / 2) original) originals_are in
    subst (λ row. IsAdded starts originals row (set more_originals (len / 2) original) len len' fields original) (sym same) (record {
      has = subst (λ originals. HasOrigins marked originals len') (sym o)
          (subst (λ len'. HasOrigins marked (originals_with originals m len original) len') (sym len_is) (has_more starts originals marked len n m fields original g));
      origins = (λ i. origins_in marked (o i) (len_is i)) ∙ origins_more starts originals marked len n m fields original g;
    })
