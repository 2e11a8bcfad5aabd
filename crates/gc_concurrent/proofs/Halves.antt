-- No two objects start at addresses with the same half, so half of an object's address finds its replica.
use Rattle.std.proofs.lemmas.Grind.{common_steps}
use Rattle.std.proofs.Common.{◌≡◌, ℕ, ◌+◌, ◌<◌, ◌≤◌, ◌==◌, true, true≢false, List, [], ◌∷◌, Some, None, is_some, refl, ap, sym, ◌∙◌, subst, inl, inr, arith}
use Rattle.std.specs.Prelude.{slice_index, IsOk, IsSome, if◌then◌else◌}
use Rattle.std.specs.Option.{option_map, option_map_or}
use Rattle.std.specs.List.{find}
use Rattle.std.specs.declared.option.Option.{Option as Opt}
use Rattle.std.proofs.Math.Logic.{∥∥₁_elim}
use Rattle.std.proofs.Props.{props}
use Rattle.std.proofs.lemmas.Bool.{cond-true, cond-false, eq-eqb, ne_eqb, cases_order}
use mathlib.Core.Logic.{dite}
use native.Mathlib.Decide.{ℕ_discrete}
use Rattle.gc_graph.specs.Graph.{Value, Ref, Object, lookup}
use Rattle.gc_words.specs.Image.{Block, walk_words, blocks, block_in, block_at, is_start, objects_of, object_of_block}
use Rattle.gc_words.specs.Space.{IsSpace}
use Rattle.gc_words.proofs.Public.{header_read, laid_out_words, object_found, objects_apart, some_of}
use Rattle.gc_model.specs.State.{Replica, replica_of}
use Rattle.gc_model.specs.Linked.{old_links}
use Rattle.gc_model.specs.Members.{In}
use Rattle.gc_model.proofs.Public.{replica_in}
use Rattle.gc_concurrent.specs.Ends.{Mine, Theirs, its}
use Rattle.gc_concurrent.specs.Moves.{half}
use Rattle.gc_concurrent.specs.Internal.Rule.{Loose, StartsThere, after_read, lacks, wants}
use Rattle.gc_concurrent.specs.Internal.Copiers.{Claims, HasOwnHalf}

-- ---- where objects start

far : (words : List ℕ) (a b : ℕ) → IsOk (walk_words words) → is_start words a ≡ true → is_start words b ≡ true → a < b → a + 2 ≤ b
far words a b ok s t less =
    let found = some_of (block_in (blocks words) a) s in
    let behind = objects_apart (blocks words) 1 a b found.0 (laid_out_words words ok) found.1 t less in
    omega arith

pub starts_apart : (words : List ℕ) (a b : ℕ) → IsOk (walk_words words) → is_start words a ≡ true → is_start words b ≡ true → half a ≡ half b → a ≡ b
starts_apart words a b ok s t e = grind (arith, common_steps, cases_order, far)

some_mapped : (o : Opt Block) → is_some (option_map object_of_block o) ≡ true → is_some o ≡ true
some_mapped None e = absurd (true≢false (sym e))
some_mapped (Some b) e = refl

-- an object of the graph starts among the words
pub start_of : (words : List ℕ) (a : ℕ) → IsSome (lookup (objects_of words) a) → is_start words a ≡ true
start_of words a there = some_mapped (block_at words a) (ap is_some (sym (object_found words a)) ∙ there)

-- ---- addresses whose half no other original has

-- with both ends at hand: an object of the mutator's space
pub own_there : (m : Mine) (t : Theirs) → IsSpace m.space → m.space.size ≡ t.old → StartsThere m t → (a : ℕ) → is_start m.space.words a ≡ true → HasOwnHalf t a
own_there m t space old starts a there = record {
  near = let r = header_read m.space.words a space.walked there in let w = r.within in let e = space.end_high in omega arith;
  apart = λ q k e. starts_apart m.space.words q.original a space.walked (starts q k) there e;
}

own_prop : (t : Theirs) (a : ℕ) → IsProp (HasOwnHalf t a)
own_prop t a = hlevel props

-- the collector knows it of each object that it names
own_of : (t : Theirs) (l : Loose t) (a : ℕ) (o : Object) → lookup l.objects a ≡ Some o → HasOwnHalf t a
own_of t l a o found = record {
  near = let w = l.within a o found in omega arith;
  apart = λ q k e. l.apart q.original a (ap is_some ((l.belongs).replicas q k).found) (ap is_some found) e;
}

pub original_own : (t : Theirs) → ∥ Loose t ∥₁ → (q : Replica) → In q t.replicas → HasOwnHalf t q.original
original_own t loose q k = ∥∥₁_elim loose (own_prop _ _) (λ (l : Loose t). let r = (l.belongs).replicas q k in own_of t l q.original r.original r.found)

pub wanted_own : (t : Theirs) → ∥ Loose t ∥₁ → (a : ℕ) → In a t.wanted → HasOwnHalf t a
wanted_own t loose a k = ∥∥₁_elim loose (own_prop _ _) (λ (l : Loose t). let o = l.wanted a k in own_of t l a o.0 o.1)

-- the object of the oldest entry
pub entry_own : (t : Theirs) → ∥ Loose t ∥₁ → (name i : ℕ) (rest : List (ℕ × ℕ)) → t.due ≡ (name, i) ∷ rest → HasOwnHalf t name
entry_own t loose name i rest due = ∥∥₁_elim loose (own_prop _ _) (λ (l : Loose t).
    let h = (l.belongs).entries name i (0, subst (In {X = ℕ × ℕ} (name, i)) (sym due) (inl refl)) in own_of t l name h.0 h.1)

-- the target of a value that was read
pub target_own : (t : Theirs) (v : Value) (follow : Theirs → Theirs) → ∥ Loose t ∥₁ → ∥ Loose (after_read follow (lacks (its t) v) t) ∥₁ → (a : ℕ) → v ≡ Ref a → HasOwnHalf t a
target_own t v follow l l' a is = go (replica_of (its t) a) refl (subst (λ x. ∥ Loose (after_read follow (lacks (its t) x) t) ∥₁) is l')
  where
    go : (o : Opt Replica) → replica_of (its t) a ≡ o → ∥ Loose (after_read follow (if is_some (replica_of (its t) a) then None else Some a) t) ∥₁ → HasOwnHalf t a
    go None e x =
        let own = wanted_own (wants a t) (subst (λ (o : Opt Replica). ∥ Loose (after_read follow (if is_some o then None else Some a) t) ∥₁) e x) a (inl refl) in
        record { near = own.near; apart = own.apart }
    go (Some q) e x = let r = replica_in (its t) a q e in subst (HasOwnHalf t) r.1 (original_own t l q r.0)

-- ---- what its half finds

pub same_found : (rs : List Replica) (a : ℕ) → ((q : Replica) → In q rs → half q.original ≡ half a → q.original ≡ a) → find (λ r. half r.original == half a) rs ≡ find (λ r. r.original == a) rs
same_found [] a apart = refl
same_found (r ∷ rs) a apart = dite (ℕ_discrete r.original a)
    (λ e. cond-true (half r.original == half a) (Some r) (find (λ r. half r.original == half a) rs) (eq-eqb (half r.original) (half a) (ap half e))
    ∙ sym (cond-true (r.original == a) (Some r) (find (λ r. r.original == a) rs) (eq-eqb r.original a e)))
    (λ ne. cond-false (half r.original == half a) (Some r) (find (λ r. half r.original == half a) rs) (ne_eqb (half r.original) (half a) (λ e. ne (apart r (inl refl) e)))
    ∙ (same_found rs a (λ q k. apart q (inr k))
    ∙ sym (cond-false (r.original == a) (Some r) (find (λ r. r.original == a) rs) (ne_eqb r.original a ne))))

-- the claim of an object is the place of its own replica, or 0
pub told_own : (row : List ℕ) (t : Theirs) (a : ℕ) → Claims row t → HasOwnHalf t a → slice_index row (half a) ≡ old_links (its t) a
told_own row t a c own = c.told (half a) (let n = own.near in omega arith) ∙ ap (λ (o : Opt Replica). option_map_or (λ (r : Replica). r.place) o 0) (same_found t.replicas a own.apart)
