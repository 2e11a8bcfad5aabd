-- What a collector's fields say of its memory.
use Rattle.std.proofs.Common.{◌≡◌, ◌≢◌, ◌⊎◌, ◌&&◌, ℕ, zero, suc, ◌<◌, ◌≤◌, Bool, true, false, List, [], ◌∷◌, ◌++◌, length, Some, refl, ap, sym, ◌∙◌, subst, inl, inr, ⊎_elim, arith}
use Rattle.gc_words.specs.Image.{Block, is_start, block_at, header_at, header_of}
use Rattle.gc_words.specs.Space.{SpaceWords, IsSpace, end_of}
use Rattle.gc_words.specs.Closed.{IsWordOfField, IsFieldWord}
use Rattle.gc_copy.specs.Words.{replicas_in}
use Rattle.gc_words.specs.declared.header.Header.{Header}
use Rattle.gc_model.specs.State.{Replica, replica_of}
use Rattle.gc_model.specs.Steps.{is_empty}
use Rattle.gc_concurrent.specs.declared.copier.Copier.{Copier}
use Rattle.gc_concurrent.specs.Internal.Spares.{claims_spared}
use Rattle.gc_concurrent.specs.Ends.{Theirs, its}
use Rattle.gc_concurrent.specs.Moves.{half}
use Rattle.std.specs.Prelude.{slice_index, drop, IsSome}
use Rattle.std.proofs.Math.Logic.{∥∥₁_elim}
use Rattle.std.proofs.Props.{props}
use Rattle.gc_concurrent.specs.Internal.Rule.{Sat, StartsThere, entries_of_fields}
use Rattle.gc_concurrent.specs.Internal.Flip.{Holds}
use Rattle.gc_concurrent.specs.Internal.Copiers.{HasOwnHalf, KeepsReplicas, KeepsSeat}
use Rattle.gc_concurrent.proofs.Memory.{Stands, stands_at, stands_for, one_there, claimed, scan_start, scan_low}

pub mem : (a : Copier) → Holds a.space a.seat.me.0.theirs
mem a = record { shaped = a.shaped; sized = a.sized.1; same = a.same }

-- ---- the space after loads, which leave it as it was

pub still_shaped : (a : Copier) (space : SpaceWords) → space ≡ a.space → IsSpace space
still_shaped a space e = subst IsSpace (sym e) a.shaped

pub still_sized : (a : Copier) (space : SpaceWords) → space ≡ a.space → space.size ≡ a.seat.me.0.theirs.size
still_sized a space e = ap (λ (s : SpaceWords). s.size) e ∙ a.sized.1

pub still_same : (a : Copier) (space : SpaceWords) → space ≡ a.space → a.seat.me.0.theirs.replicas ≡ replicas_in space.words
still_same a space e = a.same ∙ ap (λ (s : SpaceWords). replicas_in s.words) (sym e)

pub still_spared : (a : Copier) (size : ℕ) → size ≡ a.space.size → claims_spared a.spare (half size) ≡ half size
still_spared a size e = subst (λ n. claims_spared a.spare (half n) ≡ half n) (sym e) a.spared

pub at_scan : (a : Copier) → a.scan_place < end_of a.space → Stands a.seat.me.0.theirs a.space a.scan_place
at_scan a less = stands_at a.seat.me.0.theirs a.space a.scan_place (mem a)
    (subst (λ p. is_start a.space.words p ≡ true) a.scans.0 (scan_start a.seat.me.0.theirs a.space (mem a) a.loose (let e = a.scans.0 in omega arith)))

-- the header that was read is that of the object that stands there
pub header_there : (words : List ℕ) (place : ℕ) (b : Block) (h : Header) → block_at words place ≡ Some b → header_at words place ≡ Some h → b.header ≡ h
header_there words place b h found read = let e : Some b.header ≡ Some h = sym (ap header_of found) ∙ read in cc

-- a word that may be in a field of the object that stands here
pub word_fits : (words : List ℕ) (place w : ℕ) (h : Header) → header_at words place ≡ Some h → IsWordOfField h.raw words w → (space : SpaceWords) → space.words ≡ words
    → (b : Block) → block_at space.words place ≡ Some b → IsFieldWord space.words b.header w
word_fits words place w h read is space e b found =
    let found' : block_at words place ≡ Some b = subst (λ ws. block_at ws place ≡ Some b) e found in
    let same = header_there words place b h found' read in
    subst (λ (z : Header × List ℕ). IsWordOfField z.0.raw z.1 w) (λ i. (sym same i, sym e i)) is

-- the seat after a step that changes the collector's view alone
pub keeps_seat : (a b : Sat) (t : Theirs) → b ≡ (record a.0 { theirs = t }, a.1) → t.old ≡ a.0.theirs.old → t.base ≡ a.0.theirs.base → t.size ≡ a.0.theirs.size → KeepsReplicas a.0.theirs t
    → (a.0.writes ≡ true → StartsThere a.0.mine a.0.theirs → StartsThere a.0.mine t) → KeepsSeat a b
keeps_seat a b t e old base size replicas starts = record {
  writes = ap (λ (m : Sat). m.0.writes) e;
  mine = ap (λ (m : Sat). m.0.mine) e;
  begun = record { base = ap (λ (m : Sat). m.0.theirs.base) e ∙ base; from = ap (λ (m : Sat). m.0.theirs.old) e ∙ old; into = ap (λ (m : Sat). m.0.theirs.size) e ∙ size };
  replicas = λ x there. subst (λ (y : Theirs). IsSome (replica_of (its y) x)) (sym (ap (λ (m : Sat). m.0.theirs) e)) (replicas x there);
  starts = λ writes there. subst (λ (m : Sat). StartsThere m.0.mine m.0.theirs) (sym e) (starts writes there);
  holds = ap (λ (m : Sat). m.1) e;
}

pub theirs_is : (a b : Sat) (t : Theirs) → b ≡ (record a.0 { theirs = t }, a.1) → b.0.theirs ≡ t
theirs_is a b t e = ap (λ (m : Sat). m.0.theirs) e

pub copies_is : (a b : Sat) (t : Theirs) → b ≡ (record a.0 { theirs = t }, a.1) → a.0.copies ≡ true → b.0.copies ≡ true
copies_is a b t e c = ap (λ (m : Sat). m.0.copies) e ∙ c

-- the object at the scan pointer has a field to scan
pub scan_left : (a : Copier) → (less : a.scan_place < end_of a.space) → (h : Header) → header_at a.space.words a.scan_place ≡ Some h → (h.raw ≡ false) × (a.scan_field < h.len)
    → ((at_scan a less).replica.object.raw ≡ false) × (a.seat.me.0.theirs.scan_field < length (at_scan a less).replica.object.fields)
scan_left a less h read left =
    let s = at_scan a less in
    let same = header_there a.space.words a.scan_place s.block h s.found read in (
      s.raw ∙ (ap (λ (x : Header). x.raw) same ∙ left.0),
      (let e = ap (λ (x : Header). x.len) same in let m = s.many in let f = a.scans.1 in let l = left.1 in omega arith),
    )

-- nothing of the object at the scan pointer is left to scan
pub scan_over : (a : Copier) → (less : a.scan_place < end_of a.space) → (h : Header) → header_at a.space.words a.scan_place ≡ Some h → (h.raw ≡ true) ⊎ (h.len ≤ a.scan_field)
    → ((at_scan a less).replica.object.raw ≡ true) ⊎ (a.seat.me.0.theirs.scan_field ≡ length (at_scan a less).replica.object.fields)
scan_over a less h read done =
    let s = at_scan a less in
    let same = header_there a.space.words a.scan_place s.block h s.found read in
    ⊎_elim
    (λ raw. inl (s.raw ∙ (ap (λ (x : Header). x.raw) same ∙ raw)))
    (λ (past : h.len ≤ a.scan_field). inr (
    let low = scan_low a.seat.me.0.theirs a.space (mem a) a.loose (let e = a.scans.0 in omega arith) s.replica s.there (s.place_is ∙ sym a.scans.0) in
    let e = ap (λ (x : Header). x.len) same in let m = s.many in let f = a.scans.1 in omega arith))
    done

abbrev pub entries : Copier → List (ℕ × ℕ)
entries a = entries_of_fields a.fill a.fill_next a.fill_left ++ drop a.next a.due.items

-- the replica of a claim, in memory
pub claim_stands : (a : Copier) (name place : ℕ) → HasOwnHalf a.seat.me.0.theirs name → slice_index a.claims.items (half name) ≡ place → place ≢ 0
    → (s : Stands a.seat.me.0.theirs a.space place) × (s.replica.original ≡ name)
claim_stands a name place own is ne =
    let t : Theirs = a.seat.me.0.theirs in
    let q = claimed a.claims.items t name a.claimed own (λ e. ne (sym is ∙ e)) in
    let at : q.0.place ≡ place = q.4 ∙ is in
    let start : is_start a.space.words place ≡ true = subst (λ p. is_start a.space.words p ≡ true) at (stands_for t a.space q.0 (mem a) q.2) in
    let s = stands_at t a.space place (mem a) start in (
      s,
      ∥∥₁_elim (one_there t a.loose s.replica q.0 s.there q.2 (s.place_is ∙ sym at)) (hlevel props) (λ (e : s.replica ≡ q.0). ap (λ (r : Replica). r.original) e ∙ q.3),
    )

drop_all : (l : List (ℕ × ℕ)) (k : ℕ) → length l ≤ k → drop k l ≡ []
drop_all [] zero h = refl
drop_all [] (suc k) h = refl
drop_all (x ∷ xs) zero h = absurd (omega arith)
drop_all (x ∷ xs) (suc k) h = drop_all xs k (omega arith)

pub none_left : (fill fill_next fill_left next : ℕ) (row : List (ℕ × ℕ)) → fill_left ≡ 0 → length row ≤ next → entries_of_fields fill fill_next fill_left ++ drop next row ≡ []
none_left fill fill_next fill_left next row z l = ap (λ n. entries_of_fields fill fill_next n ++ drop next row) z ∙ drop_all row next l

drop_left : (l : List (ℕ × ℕ)) (k : ℕ) → k < length l → is_empty (drop k l) ≡ false
drop_left [] k h = absurd (omega arith)
drop_left (x ∷ xs) zero h = refl
drop_left (x ∷ xs) (suc k) h = drop_left xs k (omega arith)

-- an entry is left
pub some_left : (fill fill_next fill_left next : ℕ) (row : List (ℕ × ℕ)) → fill_left ≡ 0 → next < length row → is_empty (entries_of_fields fill fill_next fill_left ++ drop next row) ≡ false
some_left fill fill_next fill_left next row z l = ap (λ n. is_empty (entries_of_fields fill fill_next n ++ drop next row)) z ∙ drop_left row next l

pub and_false : (b : Bool) → b && false ≡ false
and_false true = refl
and_false false = refl
