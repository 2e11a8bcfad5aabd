-- What is found at an address, and a root that takes a reference to it.
use Rattle.std.proofs.lemmas.Grind.{common_steps}
use Rattle.std.proofs.lemmas.Bool.{cond-true, cond-false}
use Rattle.std.proofs.Common.{◌≡◌, ◌||◌, ℕ, ◌+◌, ◌≤◌, Bool, true, false, List, length, Option, Some, None, is_some, refl, ap, sym, ◌∙◌, subst, arith}
use Rattle.std.specs.Prelude.{slice_set}
use Rattle.std.specs.Option.{option_map}
use Rattle.gc_graph.specs.Graph.{Object, Ref, Value, lookup, set_root}
use Rattle.gc_graph.specs.declared.reply.Reply.TheVariants.{Done, NoObject}
use Rattle.gc_words.specs.Closed.{IsRootWord, RefersToStart}
use Rattle.gc_words.specs.Image.{Block, block_at, is_start, object_of_block, objects_of}
use Rattle.gc_words.specs.Space.{SpaceWords, IsSpace}
use Rattle.gc_words.specs.Word.{HasAddress, is_value, read_value, value_of}
use Rattle.gc_words.proofs.Public.{StandsIn, graph_root, object_found, some_of, stands_in}
use Rattle.gc_heap.specs.Heap.{HeapWords, graph_in, roomy_in}
use Rattle.gc_heap.proofs.Public.{meaning}
use Rattle.gc_concurrent.specs.Ends.{Beginning}
use Rattle.gc_concurrent.specs.Referring.{root_refers}

some_object : (o : Option Block) → is_some (option_map object_of_block o) ≡ is_some o
some_object None = refl
some_object (Some b) = refl

-- an object has this name where one starts
pub start_named : (words : List ℕ) (a : ℕ) → is_some (lookup (objects_of words) a) ≡ is_start words a
start_named words a = ap is_some (object_found words a) ∙ some_object (block_at words a)

none_of_it : (o : Option Object) → is_some o ≡ false → o ≡ None
none_of_it None e = refl
none_of_it (Some x) e = absurd cc

-- and none has it elsewhere
pub none_named : (words : List ℕ) (a : ℕ) → is_start words a ≡ false → lookup (objects_of words) a ≡ None
none_named words a none = none_of_it (lookup (objects_of words) a) (start_named words a ∙ none)

-- a word can hold the address
pub start_fits : (s : SpaceWords) (a : ℕ) → IsSpace s → is_start s.words a ≡ true → HasAddress (Ref a)
start_fits s a space start =
    let b : (b : Block) × (block_at s.words a ≡ Some b) = some_of (block_at s.words a) start in
    let t : StandsIn s.words a b.0 = stands_in s.words a b.0 space.walked b.1 in
    let fits : a + (b.0.header.len + 2) ≤ length s.words = t.fits in
    let end : length s.words ≤ s.size = space.end_high in
    let high : s.size ≤ 4294967295 = space.size_high in
    (t.low, omega arith)

value_read : (w : ℕ) (v : Value) → read_value w ≡ Some v → is_value w ≡ true
value_read w v read = grind (arith, common_steps)

-- the word of a reference to an object is one that a root can hold
pub refer_word : (words : List ℕ) (a w : ℕ) → read_value w ≡ Some (Ref a) → is_start words a ≡ true → IsRootWord words w
refer_word words a w read start = record { value = value_read w (Ref a) read; start = subst (RefersToStart words) (sym (meaning w (Ref a) read)) start }

-- a root takes it
pub refer_done : (h new : HeapWords) (d a w : ℕ) → new ≡ record h { roots = slice_set h.roots d w } → value_of w ≡ Ref a → is_start h.space.words a ≡ true → root_refers (roomy_in h) d a ≡ (Done, roomy_in new)
refer_done h new d a w after means start =
    let taken : graph_in new ≡ set_root (graph_in h) d (Ref a) = ap graph_in after ∙ graph_root h.space d w h.roots ∙ ap (set_root (graph_in h) d) means in
    cond-true (is_some (lookup (graph_in h).objects a)) _ _ (start_named h.space.words a ∙ start)
    ∙ (λ i. (Done, record { graph = sym taken i; free = (roomy_in (sym after i)).free }))

-- there is none
pub refer_missed : (h : HeapWords) (d a : ℕ) → is_start h.space.words a ≡ false → root_refers (roomy_in h) d a ≡ (NoObject, roomy_in h)
refer_missed h d a none = cond-false (is_some (lookup (graph_in h).objects a)) _ _ (start_named h.space.words a ∙ none)

or_true : (b : Bool) → b || true ≡ true
or_true true = refl
or_true false = refl

or_false : (b : Bool) → b || false ≡ b
or_false true = refl
or_false false = refl

-- how the collection began, after a reference from an address or none
pub began_referred : (b : Beginning) (some : Bool) → some ≡ true → record b { referred = true } ≡ record b { referred = b.referred || some }
began_referred b some is = λ i. record b { referred = sym (ap (λ x. b.referred || x) is ∙ or_true b.referred) i }

pub began_still : (b : Beginning) (some : Bool) → some ≡ false → b ≡ record b { referred = b.referred || some }
began_still b some none = λ i. record { heap = b.heap; referred = sym (ap (λ x. b.referred || x) none ∙ or_false b.referred) i }
