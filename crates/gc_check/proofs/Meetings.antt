-- Two words meet, and perhaps they are one more pair.
use Rattle.std.proofs.lemmas.Grind.{common_steps}
use Rattle.std.proofs.Common.{◌≡◌, ℕ, suc, ◌<◌, ◌≤◌, ◌+◌, Bool, true, cond, not, ◌&&◌, ◌||◌, ◌==◌, List, [], ◌∷◌, ◌++◌, length, replicate, get_or, set, refl, sym, ◌∙◌, ap, subst, arith, length-set}
use Rattle.std.specs.Prelude.{slice_index, vec_capacity}
use Rattle.std.specs.List.{list_any}
use Rattle.std.proofs.lemmas.Bool.{eqb-true, eq-eqb, ne_eqb, and_parts, cases_Bool, both_ways}
use Rattle.gc_graph.specs.Correspond.{paired}
use Rattle.gc_words.specs.Image.{Image, is_start}
use Rattle.gc_words.specs.Views.{addresses}
use Rattle.gc_words.specs.declared.image.Pair.{Pair}
use Rattle.gc_check.specs.declared.meet.Found.{Found}
use Rattle.gc_check.specs.Internal.Starts.{starts_from}
use Rattle.gc_check.specs.Internal.Tables.{HasEntries}
use Rattle.gc_check.specs.Internal.Meetings.{is_free, swapped, taken_in, partners_in, originals_in, HoldsFound}
use Rattle.std.proofs.lemmas.List.{get_or-map, length-append}
use Rattle.std.proofs.lemmas.List.Sums.{sum_by-cons, sum_by-set, count_by-le-length}
use Rattle.std.proofs.lemmas.List.Folds.{sum_by-replicate}
use Rattle.gc_check.specs.Pairs.{pair_at}
use Rattle.gc_check.specs.Verdict.{pairs_of}
use Rattle.gc_check.proofs.StartMarks.{low_start, start_within}
use Rattle.gc_check.proofs.ByAddress.{length_by_address, number_starts}
use Rattle.gc_check.proofs.PartnerRow.{holds_one}

-- ---- swapped pairs

any_swapped : (pairs : List (ℕ × ℕ)) (b : ℕ) → list_any (λ q. q.0 == b) (swapped pairs) ≡ list_any (λ q. q.1 == b) pairs
any_swapped [] b = refl
any_swapped (p ∷ pairs) b = ap (λ t. (p.1 == b) || t) (any_swapped pairs b)

and_turned : (a b : Bool) → (a && b) ≡ (b && a)
and_turned a b = grind (arith, common_steps)

pub paired_swapped : (pairs : List (ℕ × ℕ)) (a b : ℕ) → paired (swapped pairs) b a ≡ paired pairs a b
paired_swapped [] a b = refl
paired_swapped (p ∷ pairs) a b = λ i. and_turned (p.1 == b) (p.0 == a) i || paired_swapped pairs a b i

swapped_push : (pairs : List (ℕ × ℕ)) (p : ℕ × ℕ) → swapped (pairs ++ p ∷ []) ≡ swapped pairs ++ (p.1, p.0) ∷ []
swapped_push [] p = refl
swapped_push (q ∷ pairs) p = ap (λ rest. (q.1, q.0) ∷ rest) (swapped_push pairs p)

pairs_push : (cert : List Pair) (x : Pair) → pairs_of (cert ++ x ∷ []) ≡ pairs_of cert ++ addresses x ∷ []
pairs_push [] x = refl
pairs_push (y ∷ cert) x = ap (λ rest. addresses y ∷ rest) (pairs_push cert x)

-- ---- free addresses

turned : (b c : Bool) → not b ≡ c → b ≡ not c
turned b c e = grind (arith, common_steps)

old_entry : (old new : Image) (f : Found) (a : ℕ) → HoldsFound old new f → (slice_index (partners_in old f) a == 0) ≡ not (list_any (λ q. q.0 == a) (pairs_of f.pairs.items))
old_entry old new f a held = turned _ _ (held.partners.taken a)

pub record Free (old new : Image) (pairs : List (ℕ × ℕ)) (a b : ℕ) : Type 0 where
  pub old_start : is_start old.words a ≡ true
  pub new_start : is_start new.words b ≡ true
  pub old_free : not (list_any (λ q. q.0 == a) pairs) ≡ true
  pub new_free : not (list_any (λ q. q.1 == b) pairs) ≡ true

pub free_parts : (old new : Image) (pairs : List (ℕ × ℕ)) (a b : ℕ) → is_free old new pairs a b ≡ true → Free old new pairs a b
free_parts old new pairs a b e = grind (arith, common_steps, and_parts)

pub has_original : (old new : Image) (f : Found) (a b : ℕ) → HoldsFound old new f → is_start old.words a ≡ true → is_start new.words b ≡ true → (slice_index (partners_in old f) a == 0) ≡ true
    → (slice_index (originals_in new f) b == 0) ≡ is_free old new (pairs_of f.pairs.items) a b
has_original old new f a b held s t e = grind (arith, common_steps, old_entry, turned, any_swapped)

-- ---- the number of pairs

abbrev taken : ℕ → ℕ
taken entry = cond (not (entry == 0)) 1 0

pub taken_few : (row : List ℕ) → taken_in row ≤ length row
taken_few row = count_by-le-length (λ entry. not (entry == 0)) row

pub taken_one : (row : List ℕ) (k x : ℕ) → k < length row → slice_index row k ≡ 0 → 1 ≤ x → taken_in (set row k x) ≡ suc (taken_in row)
taken_one row k x inside free some =
    let now = sum_by-set taken row k x 0 inside in
    let now_taken : taken x ≡ 1 = ap (λ b. cond (not b) 1 0) (ne_eqb x 0 (λ e. omega arith)) in
    omega (arith, ap taken free)

pub taken_none : (n : ℕ) → taken_in (replicate n 0) ≡ 0
taken_none n = let all = sum_by-replicate taken n 0 in omega arith

-- ---- room for a pair of each old object

-- each entry that is not 0 stands at a start, from address `at` on
abbrev StandAtStarts : List ℕ → ℕ → List ℕ → Type 0
StandAtStarts words at row = (k : ℕ) → not (slice_index row k == 0) ≡ true → is_start words (at + k) ≡ true

pub few_taken : (words : List ℕ) (at : ℕ) (row : List ℕ) → StandAtStarts words at row → taken_in row ≤ starts_from words at (length row)
few_taken words at [] h = omega arith
few_taken words at (entry ∷ row) h = subst (λ n. n ≤ starts_from words at (suc (length row))) (sym (sum_by-cons taken entry row))
    (one (entry == 0) (is_start words at) (λ some. subst (λ place. is_start words place ≡ true) here (h 0 some)) (few_taken words (suc at) row (λ k some. subst (λ place. is_start words place ≡ true) (after k) (h (suc k) some))))
  where
    here : at + 0 ≡ at
    here = omega arith

    after : (k : ℕ) → at + suc k ≡ suc at + k
    after k = omega arith

    one : (b start : Bool) → (not b ≡ true → start ≡ true) → taken_in row ≤ starts_from words (suc at) (length row)
        → cond (not b) 1 0 + taken_in row ≤ cond start (suc (starts_from words (suc at) (length row))) (starts_from words (suc at) (length row))
    one b start e few = grind (arith, common_steps)

-- the entries after one more, at a start
pub starts_one : (words row : List ℕ) (a x : ℕ) → is_start words a ≡ true → ((k : ℕ) → not (slice_index row k == 0) ≡ true → is_start words k ≡ true)
    → (k : ℕ) → not (slice_index (set row a x) k == 0) ≡ true → is_start words k ≡ true
starts_one words row a x start h k some = grind (arith, common_steps, cases_Bool, eqb-true, both_ways, eq-eqb)

-- a free pair has room
pub has_room : (old new : Image) (f : Found) (a b : ℕ) → HoldsFound old new f → is_free old new (pairs_of f.pairs.items) a b ≡ true → length f.pairs.items < vec_capacity f.pairs
has_room old new f a b held free =
    let parts : Free old new (pairs_of f.pairs.items) a b = free_parts old new (pairs_of f.pairs.items) a b free in
    let within : a < length old.words = start_within old.words a held.old_entries.walked parts.old_start in
    let partners : List ℕ = partners_in old f in
    let row : List ℕ = set partners a 1 in
    let old_len : length partners ≡ length old.words = length_by_address old.words f.partners in
    let more : taken_in row ≡ suc (taken_in partners) = taken_one partners a 1 (omega arith) (eqb-true _ _ (old_entry old new f a held ∙ parts.old_free)) (omega arith) in
    let few : taken_in row ≤ starts_from old.words 0 (length row)
    = few_taken old.words 0 row (λ k some. subst (λ place. is_start old.words place ≡ true) (from_0 k) (starts_one old.words partners a 1 parts.old_start (λ k some. number_starts old.words f.partners k held.old_entries.walked some) k some)) in
    let long : length row ≡ length old.words = length-set partners a 1 ∙ old_len in
    let few' : taken_in row ≤ starts_from old.words 0 (length old.words) = subst (λ n. taken_in row ≤ starts_from old.words 0 n) long few in
    omega (arith, held.count, held.room, more, few')
  where
    from_0 : (k : ℕ) → k ≡ 0 + k
    from_0 k = omega arith

-- ---- one more pair

pub held_one : (old new : Image) (f g : Found) (x : Pair) → HoldsFound old new f → is_free old new (pairs_of f.pairs.items) x.old.0 x.new.0 ≡ true
    → HasEntries old.words g.partners → HasEntries new.words g.originals → partners_in old g ≡ set (partners_in old f) x.old.0 x.new.0 → originals_in new g ≡ set (originals_in new f) x.new.0 x.old.0
    → g.pairs.items ≡ f.pairs.items ++ x ∷ [] → vec_capacity g.pairs ≡ vec_capacity f.pairs → HoldsFound old new g
held_one old new f g x held free old_entries new_entries e1 e2 e3 e4 = grind (arith, common_steps, length_by_address, free_parts, low_start, start_within, pairs_push, eqb-true, old_entry, turned, any_swapped, holds_one, swapped_push, taken_one, length-append)

-- ---- no pairs

-- ---- pairs by their places

pub pair_is : (cert : List Pair) (k : ℕ) (x : Pair) → k < length cert → x ≡ get_or cert k x → pair_at (pairs_of cert) k ≡ addresses x
pair_is cert k x inside e = get_or-map addresses cert k x (0, 0) inside ∙ ap addresses (sym e)
