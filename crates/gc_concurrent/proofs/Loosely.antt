-- After each step the collector knows that its collection belongs to some heap.
use Rattle.std.proofs.Common.{◌≡◌, ℕ, zero, suc, ◌+◌, ◌≤◌, List, [], ◌∷◌, length, get_or, set, Some, None, inl, refl, ap, sym, ◌∙◌, subst, arith}
use Rattle.std.specs.Option.{option_map}
use Rattle.std.specs.declared.option.Option.{Option as Opt}
use lib.ListN.{get_elem?}
use mathlib.Core.Option.{some, some-ne-none}
use Rattle.atomic_table.specs.Table.{Act, Valid, carried_after, stepped}
use Rattle.gc_graph.specs.Graph.{Object}
use Rattle.gc_words.specs.Image.{Block, block_at, objects_of, object_of_block}
use Rattle.gc_words.proofs.Public.{object_found, fields_counted, stands_in}
use Rattle.gc_model.specs.Belonging.{IsLogged}
use Rattle.gc_concurrent.specs.Ends.{Known, Mine, Theirs}
use Rattle.gc_concurrent.specs.Internal.Plans.{collection_of}
use Rattle.gc_concurrent.specs.Internal.Rule.{RootWords, IsConcurrent, Loose, KnowsBelonging, Sat}
use Rattle.gc_concurrent.specs.Ends.{its}
use Rattle.gc_concurrent.proofs.Hands.{St}
use Rattle.gc_concurrent.proofs.Halves.{start_of, starts_apart}

-- what a load of the word k by this seat leaves
abbrev pub Leaves : (size : ℕ) (s : St) (k id : ℕ) (me : Sat) → (ℕ → Sat → Type 0) → Type 0
Leaves size s k id me tells = (w : Known) × (a : Act RootWords) × Valid s.homes me.1 a × IsConcurrent size (stepped s k (get_or s.words k 0) id me.1 w a) × tells (get_or s.words k 0) (w, carried_after me.1 a)

pub block_is : (o : Opt Block) (q : Object) → option_map object_of_block o ≡ Some q → (b : Block) × (o ≡ Some b) × (object_of_block b ≡ q)
block_is None q e = absurd cc
block_is (Some b) q e = (b, refl, cc e)

entries_its : (m : Mine) (t : Theirs) (a i : ℕ) → IsLogged (its t) a i → IsLogged (collection_of m t) a i
entries_its m t a i (zero, h) = (1, h)
entries_its m t a i (suc k, h) = absurd h

pub loose_of : (size : ℕ) (s : St) (r : IsConcurrent size s) → Loose r.theirs
loose_of size s r =
    let words : List ℕ = r.mine.space.words in
    let b = (r.opened).belongs in record {
      objects = objects_of words;
      belongs = record {
        laid = b.laid;
        room = b.room;
        once = b.once;
        replicas = λ q k. let rep = b.replicas q k in record { original = rep.original; found = rep.found; raw = rep.raw; kind = rep.kind; len = rep.len; current = λ i v w x y. inl tt };
        scan = b.scan;
        entries = λ a i x. b.entries a i (entries_its r.mine r.theirs a i x);
        numbers = b.numbers;
      };
      within = λ a o found.
          let c = block_is (block_at words a) o (sym (object_found words a) ∙ found) in
          let ok = (r.space).walked in
          let stands = stands_in words a c.0 ok c.1 in
          let fits : a + (c.0.header.len + 2) ≤ length words = stands.fits in
          let many : length (object_of_block c.0).fields ≡ c.0.header.len = fields_counted words a c.0 ok c.1 in
          let count : c.0.header.len ≡ length o.fields = sym many ∙ ap (λ (x : Object). length x.fields) c.2 in
          let end = (r.space).end_high in let sized = r.sized in let older = r.older in
          omega arith;
      apart = λ a b x y. starts_apart words a b (r.space).walked (start_of words a x) (start_of words b y);
      wanted = r.wanted;
      high = (r.opened).size;
      old_low = let low = (r.space).size_low in let sized = r.sized in let older = r.older in omega arith;
      old_high = let high = (r.space).size_high in let sized = r.sized in let older = r.older in omega arith;
    }

-- a view that was set is there
set_same : (l : List Known) (i : ℕ) (a b : Known) → get_elem? l i ≡ some a → get_elem? (set l i b) i ≡ some b
set_same [] i a b e = absurd (some-ne-none a (sym e))
set_same (x ∷ xs) zero a b e = refl
set_same (x ∷ xs) (suc i) a b e = set_same xs i a b e

pub loosely : (size : ℕ) (s : St) (k id : ℕ) (me : Sat) (tells : ℕ → Sat → Type 0) → get_elem? s.views id ≡ some me.0 → Leaves size s k id me tells → Leaves size s k id me (λ n m. tells n m × KnowsBelonging m)
loosely size s k id me tells seat l =
    let b = l.3 in (
      l.0,
      l.1,
      l.2,
      b,
      (
        l.4,
        λ copies. ∣ subst Loose (sym ((b.seats id l.0 (set_same s.views id me.0 l.0 seat)).1 copies).1) (loose_of size (stepped s k (get_or s.words k 0) id me.1 l.0 l.1) b) ∣₁,
      ),
    )
