-- A number for each object, by half the address at which it starts, is a row by address.
use Rattle.std.proofs.lemmas.Grind.{common_steps}
use Rattle.std.proofs.Common.{◌≡◌, ℕ, zero, suc, ◌+◌, ◌/◌, ◌<◌, ◌≤◌, Bool, true, false, cond, ◌==◌, List, [], ◌∷◌, length, set, replicate, Some, is_some, sym, ◌∙◌, ap, subst, inl, inr, arith, length-set, get_or-set_same, get_or-set_other}
use Rattle.std.specs.Prelude.{slice_index, not, IsOk}
use Rattle.std.specs.List.{AllByRecursion}
use Rattle.std.proofs.lemmas.Bool.{ne_eqb, cases_eq, cases_lt, cases_order}
use Rattle.std.proofs.lemmas.List.{length-replicate, get_or_past, ext_get_or}
use Rattle.std.proofs.lemmas.List.FromFn.{length-map-range_with_len, get_or-map-range_with_len}
use Rattle.gc_words.specs.Word.{read_header}
use Rattle.gc_words.specs.Image.{Block, walk_words, block_in, is_start}
use Rattle.gc_words.proofs.Public.{Walked, First, first, fields_in, starts_above, walked_blocks}
use Rattle.gc_check.specs.Internal.Tables.{HasEntries, entry_at, by_address}
use Rattle.gc_check.proofs.StartMarks.{nothing_at, start_within, no_start_past}

-- ---- two objects start at least two words apart

abbrev IsIn : List (ℕ × Block) → ℕ → Type 0
IsIn bs place = is_some (block_in bs place) ≡ true

not_below : (bs : List (ℕ × Block)) (low place : ℕ) → AllByRecursion (λ b. low ≤ b.0) bs → IsIn bs place → low ≤ place
not_below [] low place all start = absurd (let no : false ≡ true = start in cc)
not_below (b ∷ bs) low place all start =
    elim (cases_eq b.0 place) [
      | inl same ↦ subst (λ n. low ≤ n) same all.0
      | inr other ↦ not_below bs low place all.1 (sym (ap (λ t. is_some (cond t (Some b.1) (block_in bs place))) (ne_eqb b.0 place other)) ∙ start)
    ]

apart_in : (ws : List ℕ) (inside at : ℕ) (bs : List (ℕ × Block)) (a c : ℕ) → Walked inside at ws bs → IsIn bs a → IsIn bs c → a < c → a + 2 ≤ c
apart_in [] inside at [] a c w s t less = absurd (let no : false ≡ true = s in cc)
apart_in [] inside at (x ∷ bs) a c w s t less = cc
apart_in (v ∷ ws) (suc inside) at bs a c w s t less = apart_in ws inside (suc at) bs a c w s t less
apart_in (v ∷ ws) zero at bs a c w s t less =
    let f : First at ws bs (read_header v) = first at v ws bs w in
    let here : Block = record { header = f.0; fields = fields_in f.0 ws } in
    let later : (place : ℕ) → (at ≡ place → ⊥) → IsIn bs place → IsIn f.3 place
    = λ place other start. sym (ap (λ bs. is_some (block_in bs place)) f.5 ∙ ap (λ t. is_some (cond t (Some here) (block_in f.3 place))) (ne_eqb at place other)) ∙ start in
    let above : AllByRecursion (λ b. suc at + (f.0.len + 1) ≤ b.0) f.3 = starts_above ws (f.0.len + 1) (suc at) f.3 f.4 in
    elim (cases_eq at a) [
      | inl same ↦ (let low : suc at + (f.0.len + 1) ≤ c = not_below f.3 (suc at + (f.0.len + 1)) c above (later c (λ e. omega arith) t) in omega arith)
      | inr other ↦ (let low : suc at + (f.0.len + 1) ≤ a = not_below f.3 (suc at + (f.0.len + 1)) a above (later a other s) in
          apart_in ws (f.0.len + 1) (suc at) f.3 a c f.4 (later a other s) (later c (λ e. omega arith) t) less)
    ]

apart : (words : List ℕ) (a c : ℕ) → IsOk (walk_words words) → is_start words a ≡ true → is_start words c ≡ true → a < c → a + 2 ≤ c
apart words a c ok s t less = grind (arith, common_steps, apart_in, walked_blocks)

-- so half an address tells the object
half_is_own : (words : List ℕ) (a c : ℕ) → IsOk (walk_words words) → is_start words a ≡ true → is_start words c ≡ true → a / 2 ≡ c / 2 → a ≡ c
half_is_own words a c ok s t same = grind (arith, common_steps, cases_order, apart)

-- ---- the row by address

pub length_by_address : (words entries : List ℕ) → length (by_address words entries) ≡ length words
unfolding by_address
length_by_address words entries = length-map-range_with_len (entry_at words entries) 0 (length words)

inside_is : (words entries : List ℕ) (place : ℕ) → place < length words → slice_index (by_address words entries) place ≡ entry_at words entries place
unfolding by_address
inside_is words entries place inside = get_or-map-range_with_len (entry_at words entries) 0 (length words) place place 0 inside (omega arith)

no_entry : (words entries : List ℕ) (place : ℕ) → is_start words place ≡ false → entry_at words entries place ≡ 0
no_entry words entries place none = ap (λ b. cond b (slice_index entries (place / 2)) 0) none

pub entry_within : (words entries : List ℕ) (place : ℕ) → HasEntries words entries → is_start words place ≡ true → place / 2 < length entries
entry_within words entries place h start = let within : place < length words = start_within words place h.walked start in omega (arith, h.len, within)

-- the number of an object, and that of a place at which none starts
pub number_read : (words entries : List ℕ) (place : ℕ) → HasEntries words entries → is_start words place ≡ true → slice_index entries (place / 2) ≡ slice_index (by_address words entries) place
number_read words entries place h start = grind (arith, common_steps, cases_lt, inside_is, get_or_past, length_by_address, no_entry, no_start_past)

pub no_number : (words entries : List ℕ) (place : ℕ) → HasEntries words entries → is_start words place ≡ false → 0 ≡ slice_index (by_address words entries) place
no_number words entries place h none = grind (arith, common_steps, no_entry, cases_lt, inside_is, get_or_past, length_by_address, no_start_past)

pub zero_at : (words entries : List ℕ) (place half : ℕ) → HasEntries words entries → place / 2 ≡ half → slice_index entries half ≡ 0 → slice_index (by_address words entries) place ≡ 0
zero_at words entries place half h same none = grind (arith, common_steps, cases_lt, inside_is, get_or_past, length_by_address, no_entry, no_start_past)

-- an entry that is not 0 is that of a start
pub number_starts : (words entries : List ℕ) (place : ℕ) → IsOk (walk_words words) → not (slice_index (by_address words entries) place == 0) ≡ true → is_start words place ≡ true
number_starts words entries place ok some = grind (arith, common_steps, cases_lt, inside_is, get_or_past, length_by_address, no_entry, no_start_past)

pub zeros_by_address : (words entries : List ℕ) (n : ℕ) → entries ≡ replicate n 0 → by_address words entries ≡ replicate (length words) 0
zeros_by_address words entries n e =
    ext_get_or 0 (by_address words entries) (replicate (length words) 0) (length_by_address words entries ∙ sym (length-replicate (length words) 0))
    (λ place h. inside_is words entries place (omega (arith, length_by_address words entries)) ∙ zero_entry place (is_start words place) ∙ sym (nothing_at (length words) place))
  where
    zero_entry : (place : ℕ) (b : Bool) → cond b (slice_index entries (place / 2)) 0 ≡ 0
    zero_entry place b = grind (arith, common_steps, nothing_at)

pub set_by_address : (words entries : List ℕ) (place number : ℕ) → HasEntries words entries → is_start words place ≡ true
    → by_address words (set entries (place / 2) number) ≡ set (by_address words entries) place number
set_by_address words entries place number h start =
    ext_get_or 0 (by_address words (set entries (place / 2) number)) (set (by_address words entries) place number)
    (length_by_address words (set entries (place / 2) number) ∙ sym (length-set (by_address words entries) place number ∙ length_by_address words entries)) (λ other _. same other)
  where
    within : place < length words
    within = start_within words place h.walked start

    same : (other : ℕ) → slice_index (by_address words (set entries (place / 2) number)) other ≡ slice_index (set (by_address words entries) place number) other
    same other = grind (arith, common_steps, cases_lt, inside_is, get_or_past, length_by_address, no_entry, no_start_past, cases_eq, get_or-set_same, within, get_or-set_other, half_is_own)
