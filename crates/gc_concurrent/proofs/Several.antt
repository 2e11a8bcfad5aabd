-- Commands that one call performs: the first of those that are left, and then the others.
use Rattle.std.proofs.lemmas.Grind.{common_steps}
use Rattle.std.proofs.lemmas.Bool.{cases_Bool}
use Rattle.std.proofs.Common.{◌≡◌, ℕ, zero, suc, ◌+◌, ◌-◌, ◌<◌, false, List, ◌∷◌, length, drop, map, slice_index, refl, sym, ap, subst, inl, inr, drop-cons, arith}
use Rattle.gc_graph.specs.Graph.{Num}
use Rattle.gc_graph.specs.Runs.{is_full}
use Rattle.gc_graph.specs.Machine.{words_taken}
use Rattle.gc_graph.specs.declared.command.Op.{Op}
use Rattle.gc_graph.specs.declared.command.Op.TheVariants as ops
use Rattle.gc_graph.specs.declared.reply.Reply.{Reply}
use Rattle.gc_graph.specs.declared.reply.Reply.TheVariants.{Made}
use Rattle.gc_graph.proofs.Public.{make_object}
use Rattle.gc_words.specs.Space.{end_of}
use Rattle.gc_heap.specs.Heap.{HeapWords, IsHeap, graph_in, roomy_in}
use Rattle.gc_heap.specs.Places.{root_at}
use Rattle.gc_concurrent.specs.Bulk.{MakesFrom, PerformsEach, PutsEach, CopiesEach, clear_commands, fill_commands, get_commands, places_from, put_commands, value_in}
use Rattle.gc_concurrent.specs.Law.{HasNoFull}
use Rattle.gc_concurrent.specs.Machines.{Does, PutsValue}
use Rattle.gc_concurrent.proofs.Running.{no_room}

-- a command that makes no object finds room
finds_room : (old new : HeapWords) (op : Op) (reply : Reply) → words_taken op ≡ 0 → Does old op reply new → is_full reply ≡ false
finds_room old new op reply none does = elim (cases_Bool (is_full reply)) [
  | inl yes' ↦ absurd (let less = (no_room old new op reply does yes').1 in omega (arith, less, none))
  | inr no' ↦ no'
]

all_fine : (told : List Reply) (reply : Reply) → is_full reply ≡ false → HasNoFull told → HasNoFull (reply ∷ told)
all_fine told reply e h = grind (arith, common_steps)

each_first : (old mid new : HeapWords) (op : Op) (rest : List Op) (reply : Reply) → words_taken op ≡ 0 → IsHeap mid → Does old op reply mid → PerformsEach rest mid new → PerformsEach (op ∷ rest) old new
each_first old mid new op rest reply none sound does did = (reply ∷ did.0, all_fine did.0 reply (finds_room old mid op reply none does) did.1, (mid, sound, does, did.2))

-- ---- with so many left, the loops' next turn

pub one_more : (n k : ℕ) → k < n → n - k ≡ suc (n - (k + 1))
one_more n k less = omega (arith, less)

pub clear_next : (p to : ℕ) (old mid new : HeapWords) (reply : Reply) → p < to → IsHeap mid → Does old (ops.Nil (root_at p)) reply mid
    → PerformsEach (clear_commands (p + 1) (to - (p + 1))) mid new → PerformsEach (clear_commands p (to - p)) old new
clear_next p to old mid new reply less sound does rest =
    subst (λ n. PerformsEach (clear_commands p n) old new) (sym (one_more to p less))
    (each_first old mid new (ops.Nil (root_at p)) (clear_commands (suc p) (to - (p + 1))) reply refl sound does
    (subst (λ q. PerformsEach (clear_commands q (to - (p + 1))) mid new) (let e : p + 1 ≡ suc p = omega arith in e) rest))

pub put_next : (d k : ℕ) (places : List ℕ) (old mid new : HeapWords) (reply : Reply) → k < length places → IsHeap mid → Does old (ops.Put (root_at d) k (root_at (slice_index places k))) reply mid
    → PerformsEach (put_commands d (k + 1) (drop (k + 1) places)) mid new → PerformsEach (put_commands d k (drop k places)) old new
put_next d k places old mid new reply less sound does rest =
    let more : k + 1 ≡ suc k = omega arith in
    subst (λ ps. PerformsEach (put_commands d k ps) old new) (sym (drop-cons places k 0 less))
    (each_first old mid new (ops.Put (root_at d) k (root_at (slice_index places k))) (put_commands d (suc k) (drop (suc k) places)) reply refl sound does
    (subst (λ i. PerformsEach (put_commands d i (drop i places)) mid new) more rest))

pub row_next : (d k first count : ℕ) (old mid new : HeapWords) (reply : Reply) → k < count → IsHeap mid → Does old (ops.Put (root_at d) k (root_at (first + k))) reply mid
    → PerformsEach (put_commands d (k + 1) (places_from (first + (k + 1)) (count - (k + 1)))) mid new → PerformsEach (put_commands d k (places_from (first + k) (count - k))) old new
row_next d k first count old mid new reply less sound does rest =
    let one : k + 1 ≡ suc k = omega arith in
    let place : first + (k + 1) ≡ suc (first + k) = omega arith in
    subst (λ n. PerformsEach (put_commands d k (places_from (first + k) n)) old new) (sym (one_more count k less))
    (each_first old mid new (ops.Put (root_at d) k (root_at (first + k))) (put_commands d (suc k) (places_from (suc (first + k)) (count - (k + 1)))) reply refl sound does
    (subst (λ (x : ℕ × ℕ). PerformsEach (put_commands d x.0 (places_from x.1 (count - (k + 1)))) mid new) (λ i. (one i, place i)) rest))

pub get_next : (first s k count : ℕ) (old mid new : HeapWords) (reply : Reply) → k < count → IsHeap mid → Does old (ops.Get (root_at (first + k)) (root_at s) k) reply mid
    → PerformsEach (get_commands (first + (k + 1)) s (k + 1) (count - (k + 1))) mid new → PerformsEach (get_commands (first + k) s k (count - k)) old new
get_next first s k count old mid new reply less sound does rest =
    let one : k + 1 ≡ suc k = omega arith in
    let place : first + (k + 1) ≡ suc (first + k) = omega arith in
    subst (λ n. PerformsEach (get_commands (first + k) s k n) old new) (sym (one_more count k less))
    (each_first old mid new (ops.Get (root_at (first + k)) (root_at s) k) (get_commands (suc (first + k)) s (suc k) (count - (k + 1))) reply refl sound does
    (subst (λ (x : ℕ × ℕ). PerformsEach (get_commands x.1 s x.0 (count - (k + 1))) mid new) (λ i. (one i, place i)) rest))

pub fill_next : (s from t k count : ℕ) (old mid new : HeapWords) (reply : Reply) → k < count → IsHeap mid → Does old (ops.Put (root_at s) (from + k) (root_at t)) reply mid
    → PerformsEach (fill_commands s (from + (k + 1)) (count - (k + 1)) t) mid new → PerformsEach (fill_commands s (from + k) (count - k) t) old new
fill_next s from t k count old mid new reply less sound does rest =
    let place : from + (k + 1) ≡ suc (from + k) = omega arith in
    subst (λ n. PerformsEach (fill_commands s (from + k) n t) old new) (sym (one_more count k less))
    (each_first old mid new (ops.Put (root_at s) (from + k) (root_at t)) (fill_commands s (suc (from + k)) (count - (k + 1)) t) reply refl sound does
    (subst (λ i. PerformsEach (fill_commands s i (count - (k + 1)) t) mid new) place rest))

pub write_next : (s first k : ℕ) (numbers : List ℕ) (old mid new : HeapWords) (reply : Reply) → k < length numbers → IsHeap mid → PutsValue s (first + k) (Num (slice_index numbers k)) old reply mid
    → PutsEach s (first + (k + 1)) (map Num (drop (k + 1) numbers)) mid new → PutsEach s (first + k) (map Num (drop k numbers)) old new
write_next s first k numbers old mid new reply less sound puts rest =
    let one : k + 1 ≡ suc k = omega arith in
    let place : first + (k + 1) ≡ suc (first + k) = omega arith in
    subst (λ ns. PutsEach s (first + k) (map Num ns) old new) (sym (drop-cons numbers k 0 less))
    (mid, reply, sound, puts, subst (λ (x : ℕ × ℕ). PutsEach s x.1 (map Num (drop x.0 numbers)) mid new) (λ i. (one i, place i)) rest)

pub copy_next : (d to s from k count : ℕ) (old mid new : HeapWords) (reply : Reply) → k < count → IsHeap mid → PutsValue d (to + k) (value_in (graph_in old) s (from + k)) old reply mid
    → CopiesEach d (to + (k + 1)) s (from + (k + 1)) (count - (k + 1)) mid new → CopiesEach d (to + k) s (from + k) (count - k) old new
copy_next d to s from k count old mid new reply less sound puts rest =
    let one : to + (k + 1) ≡ suc (to + k) = omega arith in
    let other : from + (k + 1) ≡ suc (from + k) = omega arith in
    subst (λ n. CopiesEach d (to + k) s (from + k) n old new) (sym (one_more count k less))
    (mid, reply, sound, puts, subst (λ (x : ℕ × ℕ). CopiesEach d x.0 s x.1 (count - (k + 1)) mid new) (λ i. (one i, other i)) rest)

-- ---- a new object

pub places_counted : (p n : ℕ) → length (places_from p n) ≡ n
places_counted p zero = refl
places_counted p (suc n) = ap suc (places_counted (suc p) n)

full_reply : (old new : HeapWords) (d kind : ℕ) (places : List ℕ) (reply : Reply) → (reply, roomy_in new) ≡ make_object (roomy_in old) d false kind (length places) (end_of old.space) → (reply ≡ Made → ⊥) → MakesFrom d kind places old reply new
full_reply old new d kind places reply step other = grind (arith, common_steps)

-- an object that was not made found no room
pub full_from : (old new : HeapWords) (d kind len : ℕ) (places : List ℕ) (reply : Reply) → len ≡ length places → (reply, roomy_in new) ≡ make_object (roomy_in old) d false kind len (end_of old.space) → (reply ≡ Made → ⊥) → MakesFrom d kind places old reply new
full_from old new d kind len places reply same step other =
    full_reply old new d kind places reply (subst (λ n. (reply, roomy_in new) ≡ make_object (roomy_in old) d false kind n (end_of old.space)) same step) other
