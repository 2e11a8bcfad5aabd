-- What a put of a value leaves is what the machine with one more root leaves, which holds the value.
use Rattle.std.proofs.lemmas.Grind.{common_steps}
use Rattle.std.proofs.lemmas.Bool.{cases_Bool}
use Rattle.std.proofs.lemmas.List.{length-map}
use Rattle.std.proofs.Common.{◌≡◌, ℕ, zero, suc, ◌-◌, ◌<◌, List, [], ◌∷◌, ◌++◌, length, map, Option, Some, None, refl, sym, ap, ◌∙◌, arith}
use Rattle.std.specs.Prelude.{slice_get}
use Rattle.std.specs.Option.{unwrap_or}
use Rattle.gc_graph.specs.Graph.{Value, Nil, Num, Ref, Object, Graph, field_of, object_of, root}
use Rattle.gc_graph.specs.Machine.{Roomy, put_field, roomy_step}
use Rattle.gc_graph.specs.declared.command.Op.TheVariants.{Put}
use Rattle.gc_graph.specs.declared.reply.Reply.{Reply}
use Rattle.gc_graph.proofs.Public.{in_place, with_free}
use Rattle.gc_words.specs.Word.{value_of}
use Rattle.gc_words.specs.Space.{end_of}
use Rattle.gc_heap.specs.Heap.{HeapWords, graph_in, roomy_in}
use Rattle.gc_heap.specs.Places.{root_at}
use Rattle.gc_concurrent.specs.Machines.{Does, PutsValue, with_root}

-- a put reads two roots and writes none
abbrev beside : List Value → Reply × Graph → Reply × Graph
beside rs x = (x.0, record x.1 { roots = rs })

put_beside : (g : Graph) (rs : List Value) (w : Value) (o : Option Object) (before : Option Value) (i : ℕ) (v : Value) → put_field (record g { roots = rs }) w o before i v ≡ beside rs (put_field g w o before i v)
put_beside g rs Nil o before i v = refl
put_beside g rs (Num n) o before i v = refl
put_beside g rs (Ref a) None before i v = refl
put_beside g rs (Ref a) (Some object) None i v = refl
put_beside g rs (Ref a) (Some object) (Some b) i v = grind (arith, common_steps, cases_Bool)

root_before : (vs : List Value) (p : ℕ) (v : Value) → p < length vs → unwrap_or (slice_get (vs ++ v ∷ []) p) Nil ≡ unwrap_or (slice_get vs p) Nil
root_before [] p v less = absurd (omega (arith, less))
root_before (x ∷ vs) zero v less = refl
root_before (x ∷ vs) (suc p) v less = root_before vs p v (omega (arith, less))

root_last : (vs : List Value) (v : Value) → unwrap_or (slice_get (vs ++ v ∷ []) (length vs)) Nil ≡ v
root_last [] v = refl
root_last (x ∷ vs) v = root_last vs v

-- the reply to a put of this value, and the graph after it, given the value of the root with the object
abbrev given : Graph → Value → ℕ → Value → Reply × Graph
given g w i v = let o = object_of g.objects w in put_field g w o (field_of o i) i v

-- the machine with one more root performs the put
one_more : (s : Roomy) (p i : ℕ) (v : Value) (name : ℕ) → p < length s.graph.roots
    → roomy_step (with_root v s) 0 (Put (root_at p) i (root_at (length s.graph.roots))) name ≡ with_free s.free (beside (s.graph.roots ++ v ∷ []) (given s.graph (root s.graph p) i v))
one_more s p i v name less =
    let rs = s.graph.roots in
    let more = with_root v s in
    in_place more 0 (Put (root_at p) i (root_at (length rs))) name (λ none. none)
    ∙ (λ k. with_free s.free (given more.graph (root_before rs p v less k) i (root_last rs v k)))
    ∙ ap (with_free s.free) (put_beside s.graph (rs ++ v ∷ []) (root s.graph p) (object_of s.graph.objects (root s.graph p)) (field_of (object_of s.graph.objects (root s.graph p)) i) i v)

-- what a write leaves: the roots, and as many words
pub record Writes (old : HeapWords) (s i : ℕ) (v : Value) (reply : Reply) (new : HeapWords) : Type 0 where
  pub roots : new.roots ≡ old.roots
  pub words : length new.space.words ≡ length old.space.words
  pub size : new.space.size ≡ old.space.size
  pub graph : (reply, graph_in new) ≡ given (graph_in old) (root (graph_in old) s) i v

pub puts_value : (old new : HeapWords) (s i : ℕ) (v : Value) (reply : Reply) → s < length old.roots → Writes old s i v reply new → PutsValue s i v old reply new
puts_value old new s i v reply less w =
    let n : length (graph_in old).roots ≡ length old.roots = length-map old.roots value_of in
    let rs = (graph_in old).roots in
    let free : (roomy_in new).free ≡ (roomy_in old).free = (λ k. w.size k - w.words k) in
    (λ k. roomy_step (with_root v (roomy_in old)) 0 (Put (root_at s) i (root_at (sym n k))) (end_of old.space))
    ∙ one_more (roomy_in old) s i v (end_of old.space) (omega (arith, n, less))
    ∙ ap (λ x. with_free (roomy_in old).free (beside (rs ++ v ∷ []) x)) (sym w.graph)
    ∙ (λ k. (reply, record { graph = record (graph_in new) { roots = map value_of (sym w.roots k) ++ v ∷ [] }; free = sym free k }))

-- the same for the value of a root that is there
pub put_does : (old new : HeapWords) (s i t : ℕ) (reply : Reply) → Writes old s i (root (graph_in old) t) reply new → Does old (Put (root_at s) i (root_at t)) reply new
put_does old new s i t reply w =
    let free : (roomy_in new).free ≡ (roomy_in old).free = (λ k. w.size k - w.words k) in
    in_place (roomy_in old) 0 (Put (root_at s) i (root_at t)) (end_of old.space) (λ none. none)
    ∙ ap (with_free (roomy_in old).free) (sym w.graph)
    ∙ (λ k. (reply, record { graph = graph_in new; free = sym free k }))
