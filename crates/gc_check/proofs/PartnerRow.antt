-- Pairs are entered into the table of partners, one after the other.
use Rattle.std.proofs.lemmas.Grind.{common_steps}
use Rattle.std.proofs.Common.{◌≡◌, ℕ, ◌+◌, ◌<◌, ◌≤◌, Bool, true, ◌||◌, ◌==◌, List, [], ◌∷◌, ◌++◌, length, take, drop, get_or, set, Option, Some, None, refl, sym, ◌∙◌, ap, subst, arith}
use Rattle.std.specs.Prelude.{slice_index, nat_le}
use Rattle.std.specs.Bool.{then_some}
use Rattle.std.specs.List.{list_any}
use Rattle.std.proofs.lemmas.Bool.{eqb-true, eq-eqb, ne_eqb, cases_eq, cases_Bool, not-false, or_right}
use Rattle.std.proofs.lemmas.List.{map_more, at_drop_more, take-map}
use Rattle.std.proofs.lemmas.List.Folds.{list_any-append}
use Rattle.gc_words.specs.Image.{Image, is_start}
use Rattle.gc_words.specs.Views.{addresses}
use Rattle.gc_words.specs.Fault.{◌or_else◌, first_over_pairs, not_above_last, place_fault, place_faults}
use Rattle.gc_words.specs.declared.image.Pair.{Pair}
use Rattle.gc_words.specs.declared.refusal.Refusal.{Refusal}
use Rattle.gc_check.specs.Internal.Tables.{HasEntries, HoldsPartners, by_address, entry_fault}
use Rattle.gc_check.specs.Verdict.{pairs_of}
use Rattle.gc_check.proofs.StartMarks.{start_within}
use Rattle.gc_check.proofs.ByAddress.{length_by_address}
use Rattle.gc_words.proofs.Public.{or_none, when_none}

-- ---- the table of partners

taken_push : (pairs : List (ℕ × ℕ)) (p : ℕ × ℕ) (a : ℕ) → list_any (λ q. q.0 == a) (pairs ++ p ∷ []) ≡ (list_any (λ q. q.0 == a) pairs || (p.0 == a))
taken_push pairs p a = grind (arith, common_steps, list_any-append)

-- one more pair, whose old address is free
pub holds_one : (row : List ℕ) (pairs : List (ℕ × ℕ)) (p : ℕ × ℕ) → p.0 < length row → 1 ≤ p.1 → slice_index row p.0 ≡ 0 → HoldsPartners row pairs → HoldsPartners (set row p.0 p.1) (pairs ++ p ∷ [])
holds_one row pairs p inside low free h = grind (arith, common_steps, cases_eq, ne_eqb, list_any-append, eq-eqb, taken_push, or_right)

-- ---- new addresses rise

-- the last new address among the pairs, or 0, which is below all starts
abbrev EndsAt : List (ℕ × ℕ) → ℕ → Type 0
EndsAt before last = (n : ℕ) → 1 ≤ n → not_above_last before n ≡ nat_le n last

ends_one : (before : List (ℕ × ℕ)) (p : ℕ × ℕ) → EndsAt (before ++ p ∷ []) p.1
ends_one before p n low = push before
  where
    push : (before : List (ℕ × ℕ)) → not_above_last (before ++ p ∷ []) n ≡ nat_le n p.1
    push [] = refl
    push (x ∷ []) = refl
    push (x ∷ y ∷ rest) = push (y ∷ rest)

-- ---- the fault that the tables find in a pair's addresses is the right one

settled : (o : Option Refusal) (r s : Refusal) (b c : Bool) (w : Option Refusal) → (o or_else Some r or_else then_some b s or_else w) ≡ (o or_else Some r or_else then_some c s or_else w)
settled o r s b c w = grind (arith, common_steps)

entry_is : (old new : Image) (row : List ℕ) (before : List (ℕ × ℕ)) (last k : ℕ) (p : ℕ × ℕ) → HoldsPartners row before → EndsAt before last → (is_start new.words p.1 ≡ true → 1 ≤ p.1)
    → entry_fault old new row last k p ≡ place_fault old new before k p
entry_is old new row before last k p held ends low = grind (arith, common_steps, cases_Bool, settled)

-- a pair whose addresses have no fault
pub record Placed (old new : Image) (row : List ℕ) (p : ℕ × ℕ) : Type 0 where
  pub old_start : is_start old.words p.0 ≡ true
  pub new_start : is_start new.words p.1 ≡ true
  pub free : slice_index row p.0 ≡ 0

no_entry_fault : (old new : Image) (row : List ℕ) (last k : ℕ) (p : ℕ × ℕ) → entry_fault old new row last k p ≡ None → Placed old new row p
no_entry_fault old new row last k p e = grind (arith, common_steps, or_none, not-false, when_none, eqb-true)

-- ---- all pairs

-- the first fault of addresses from pair k on
abbrev places_from : Image → Image → List Pair → ℕ → Option Refusal
places_from old new cert k = first_over_pairs (λ k. place_fault old new (take k (pairs_of cert)) k) k (pairs_of (drop k cert))

-- the first k pairs of a certificate have been entered
pub record Entered (old new : Image) (cert : List Pair) (entries : List ℕ) (last k : ℕ) : Type 0 where
  pub fits : HasEntries old.words entries
  pub held : HoldsPartners (by_address old.words entries) (pairs_of (take k cert))
  pub ends : EndsAt (pairs_of (take k cert)) last
  pub same : place_faults old new (pairs_of cert) ≡ places_from old new cert k

-- the next pair
unrolled : (old new : Image) (cert : List Pair) (k : ℕ) (d : Pair) → k < length cert
    → places_from old new cert k ≡ (place_fault old new (pairs_of (take k cert)) k (addresses (get_or cert k d)) or_else places_from old new cert (k + 1))
unrolled old new cert k d inside = grind (arith, common_steps, at_drop_more, take-map)

pub entered_fault : (old new : Image) (cert : List Pair) (entries : List ℕ) (last k : ℕ) (d : Pair) (refusal : Refusal) → k < length cert → (is_start new.words (addresses (get_or cert k d)).1 ≡ true → 1 ≤ (addresses (get_or cert k d)).1)
    → Entered old new cert entries last k → entry_fault old new (by_address old.words entries) last k (addresses (get_or cert k d)) ≡ Some refusal → place_faults old new (pairs_of cert) ≡ Some refusal
entered_fault old new cert entries last k d refusal inside low s e =
    s.same ∙ unrolled old new cert k d inside
    ∙ ap (λ o. o or_else places_from old new cert (k + 1)) (sym (entry_is old new (by_address old.words entries) (pairs_of (take k cert)) last k (addresses (get_or cert k d)) s.held s.ends low) ∙ e)

pub entered_one : (old new : Image) (cert : List Pair) (entries after : List ℕ) (last k : ℕ) (d : Pair) → k < length cert
    → let p = addresses (get_or cert k d) in (is_start new.words p.1 ≡ true → 1 ≤ p.1)
    → Entered old new cert entries last k → entry_fault old new (by_address old.words entries) last k p ≡ None
    → HasEntries old.words after → by_address old.words after ≡ set (by_address old.words entries) p.0 p.1 → Entered old new cert after p.1 (k + 1)
entered_one old new cert entries after last k d inside low s e long one =
    let p : ℕ × ℕ = addresses (get_or cert k d) in
    let row : List ℕ = by_address old.words entries in
    let before : List (ℕ × ℕ) = pairs_of (take k cert) in
    let placed : Placed old new row p = no_entry_fault old new row last k p e in
    let within : p.0 < length old.words = start_within old.words p.0 long.walked placed.old_start in
    let more : pairs_of (take (k + 1) cert) ≡ before ++ p ∷ [] = map_more addresses cert k d inside in
    record {
      fits = long;
      held = subst (λ row. HoldsPartners row (pairs_of (take (k + 1) cert))) (sym one)
          (subst (HoldsPartners (set row p.0 p.1)) (sym more) (holds_one row before p (omega (arith, length_by_address old.words entries, within)) (low placed.new_start) placed.free s.held));
      ends = subst (λ pairs. EndsAt pairs p.1) (sym more) (ends_one before p);
      same = s.same ∙ unrolled old new cert k d inside
          ∙ ap (λ o. o or_else places_from old new cert (k + 1)) (sym (entry_is old new row before last k p s.held s.ends low) ∙ e);
    }

-- an object starts at the pair's old address
pub entered_start : (old new : Image) (row : List ℕ) (last k : ℕ) (p : ℕ × ℕ) → entry_fault old new row last k p ≡ None → is_start old.words p.0 ≡ true
entered_start old new row last k p e = (no_entry_fault old new row last k p e).old_start
