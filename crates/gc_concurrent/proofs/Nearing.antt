-- Each step of the collector leaves fewer steps ahead.
use Rattle.std.proofs.Common.{◌≡◌, ℕ, zero, suc, ◌+◌, ◌*◌, ◌<◌, ◌≤◌, Bool, true, false, List, [], ◌∷◌, ◌++◌, length, map, refl, ap, sym, ◌∙◌, subst, length-append, arith}
use Rattle.std.specs.Prelude.{drop, if◌then◌else◌}
use Rattle.std.proofs.Math.Logic.{∥∥₁_elim}
use Rattle.std.proofs.Props.{props}
use Rattle.gc_graph.specs.Graph.{Value, Object}
use Rattle.gc_graph.specs.Machine.{object_words}
use Rattle.gc_words.specs.Space.{end_of}
use Rattle.gc_model.specs.State.{Replica, new_end, new_free}
use Rattle.gc_model.specs.Steps.{is_empty}
use Rattle.gc_model.specs.Members.{In}
use Rattle.gc_model.proofs.Public.{laid_range, in_map, placed, replicas_end}
use Rattle.gc_concurrent.specs.Ends.{Theirs, its}
use Rattle.gc_concurrent.specs.Nearing.{work_ahead, ComesNearer}
use Rattle.gc_concurrent.specs.Internal.Copiers.{Nears}
use Rattle.gc_concurrent.specs.Internal.Rule.{Loose, Sat, wants, scanned, applied, passed, placed_one, entry_dropped, entries_of_fields, to_fill}
use Rattle.gc_concurrent.proofs.Fitting.{end_brought, end_after}

-- what has room behind the replicas ends within the new space
ends_within : (t : Theirs) (n : ℕ) → ∥ Loose t ∥₁ → n ≤ new_free (its t) → new_end (its t) + n ≤ t.size
ends_within t n loose room = ∥∥₁_elim loose (hlevel props) (λ (x : Loose t). let r = (x.belongs).room in omega arith)

-- a replica at the scan pointer ends no later than all do
pub scan_within : (t : Theirs) → ∥ Loose t ∥₁ → (q : Replica) → In q t.replicas → q.place ≡ t.scan_place → t.scan_place + (length q.object.fields + 2) ≤ new_end (its t)
scan_within t loose q k e = ∥∥₁_elim loose (hlevel props) (λ (x : Loose t).
    let range = laid_range 1 (map placed t.replicas) (replicas_end t.replicas) (placed q) (x.belongs).laid (in_map placed q t.replicas k) in
    let r = range.1 in omega arith)

pub wants_nears : (end a : ℕ) (t : Theirs) → t.wanted ≡ [] → ComesNearer end t (wants a t)
wants_nears end a t none = subst (λ b. 2 * work_ahead end t + 0 < 2 * work_ahead end t + (if b then 1 else 0)) (sym (ap (is_empty {X = ℕ}) none)) (omega arith)

pub left_nears : (end : ℕ) (t : Theirs) (entry : ℕ × ℕ) (rest : List (ℕ × ℕ)) → t.due ≡ entry ∷ rest → ComesNearer end t (entry_dropped t)
left_nears end t entry rest due =
    let now : length (drop 1 t.due) ≡ length rest = ap (λ (l : List (ℕ × ℕ)). length (drop 1 l)) due in
    let was : length t.due ≡ suc (length rest) = ap (length {A = ℕ × ℕ}) due in
    omega arith

pub applied_nears : (end : ℕ) (t : Theirs) (name i : ℕ) (v : Value) (entry : ℕ × ℕ) (rest : List (ℕ × ℕ)) → t.due ≡ entry ∷ rest → ComesNearer end t (applied name i v t)
applied_nears end t name i v entry rest due =
    let now : length (drop 1 t.due) ≡ length rest = ap (λ (l : List (ℕ × ℕ)). length (drop 1 l)) due in
    let was : length t.due ≡ suc (length rest) = ap (length {A = ℕ × ℕ}) due in
    let same : new_end (its (applied name i v t)) ≡ new_end (its t) = end_brought t name i v in
    omega arith

pub scanned_nears : (end : ℕ) (t : Theirs) (name : ℕ) (v : Value) (len : ℕ) → t.scan_field < len → t.scan_place + (len + 2) ≤ new_end (its t) → ComesNearer end t (scanned name t.scan_field v t)
scanned_nears end t name v len less within =
    let same : new_end (its (scanned name t.scan_field v t)) ≡ new_end (its t) = end_brought t name t.scan_field v in
    omega arith

pub passed_nears : (end : ℕ) (t : Theirs) (q : Replica) → t.scan_field ≤ length q.object.fields → t.scan_place + (length q.object.fields + 2) ≤ new_end (its t) → ComesNearer end t (passed q t)
passed_nears end t q low within = omega arith

entries_counted : (name i n : ℕ) → length (entries_of_fields name i n) ≡ n
entries_counted name i zero = refl
entries_counted name i (suc n) = ap suc (entries_counted name (suc i) n)

fills_few : (o : Object) → to_fill o ≤ length o.fields
fills_few o = go o.raw
  where
    go : (b : Bool) → (if b then length o.fields else 0) ≤ length o.fields
    go true = omega arith
    go false = omega arith

one_or_none : (b : Bool) → (if b then 1 else 0) ≤ 1
one_or_none true = omega arith
one_or_none false = omega arith

placed_nears : (end : ℕ) (t : Theirs) (name : ℕ) (o : Object) → new_end (its t) + object_words (length o.fields) ≤ end → ComesNearer end t (placed_one name o t)
placed_nears end t name o fits =
    let now : new_end (its (placed_one name o t)) ≡ new_end (its t) + object_words (length o.fields) = end_after t name o in
    let due : length (entries_of_fields name 0 (to_fill o) ++ t.due) ≡ to_fill o + length t.due = length-append (entries_of_fields name 0 (to_fill o)) t.due ∙ ap (λ n. n + length t.due) (entries_counted name 0 (to_fill o)) in
    let few = fills_few o in
    let flag = one_or_none (is_empty t.wanted) in
    omega arith

-- the seat after a step that changes the collector's view alone
nears_at : (a b : Sat) (t : Theirs) (end : ℕ) → b ≡ (record a.0 { theirs = t }, a.1) → ComesNearer end a.0.theirs t → ComesNearer end a.0.theirs b.0.theirs
nears_at a b t end e less = subst (ComesNearer end a.0.theirs) (sym (ap (λ (m : Sat). m.0.theirs) e)) less

pub nears_by : (a b : Sat) (t : Theirs) → b ≡ (record a.0 { theirs = t }, a.1) → ((end : ℕ) → ComesNearer end a.0.theirs t) → Nears a b
nears_by a b t e less = ((λ _. nears_at a b t (end_of a.0.mine.space) e (less (end_of a.0.mine.space))), nears_at a b t a.0.theirs.size e (less a.0.theirs.size))

-- the same if a replica was placed, for which the new space had room
pub nears_placed : (a b : Sat) (name : ℕ) (o : Object) → b ≡ (record a.0 { theirs = placed_one name o a.0.theirs }, a.1) → ∥ Loose a.0.theirs ∥₁
    → (a.0.writes ≡ true → new_end (its a.0.theirs) + object_words (length o.fields) ≤ end_of a.0.mine.space) → object_words (length o.fields) ≤ new_free (its a.0.theirs) → Nears a b
nears_placed a b name o e loose held room = (
  (λ writes. nears_at a b (placed_one name o a.0.theirs) (end_of a.0.mine.space) e (placed_nears (end_of a.0.mine.space) a.0.theirs name o (held writes))),
  nears_at a b (placed_one name o a.0.theirs) a.0.theirs.size e (placed_nears a.0.theirs.size a.0.theirs name o (ends_within a.0.theirs (object_words (length o.fields)) loose room)),
)
