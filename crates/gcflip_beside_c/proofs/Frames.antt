-- The commands that move a frame are performed.
use Rattle.std.proofs.Common.{◌≡◌, [], ◌∷◌, refl, sym, ap, ◌∙◌, subst}
use Rattle.gc_graph.specs.Machine.{MakesObject, step}
use Rattle.gc_graph.specs.declared.command.Op.{Op}
use Rattle.gc_graph.specs.declared.reply.Reply.{Reply}
use Rattle.gc_graph.specs.declared.reply.Reply.TheVariants.{Done}
use Rattle.gc_graph.proofs.Public.{in_place}
use Rattle.gc_words.specs.Space.{end_of}
use Rattle.gc_heap.specs.Heap.{HeapWords, IsHeap, graph_in, roomy_in}
use Rattle.gc_concurrent.specs.Bulk.{PerformsEach}
use Rattle.gc_concurrent.specs.Machines.{Does}

-- the reply is the machine's
is_done : (old new : HeapWords) (op : Op) (reply : Reply) → (MakesObject op → ⊥) → (step (graph_in old) 0 op (end_of old.space)).0 ≡ Done → Does old op reply new → Does old op Done new
is_done old new op reply none says does =
    let same : reply ≡ Done = sym (ap (λ x. x.0) (sym (in_place (roomy_in old) 0 op (end_of old.space) none) ∙ does)) ∙ says in
    subst (λ r. Does old op r new) same does

pub one_done : (old new : HeapWords) (op : Op) (reply : Reply) → (MakesObject op → ⊥) → (step (graph_in old) 0 op (end_of old.space)).0 ≡ Done → IsHeap new → Does old op reply new → PerformsEach (op ∷ []) old new
one_done old new op reply none says sound does = (Done ∷ [], refl, (new, sound, is_done old new op reply none says does, refl))

pub two_done : (old mid new : HeapWords) (a b : Op) (reply other : Reply) → (MakesObject a → ⊥) → (MakesObject b → ⊥) → (step (graph_in old) 0 a (end_of old.space)).0 ≡ Done → (step (graph_in mid) 0 b (end_of mid.space)).0 ≡ Done
    → IsHeap mid → IsHeap new → Does old a reply mid → Does mid b other new → PerformsEach (a ∷ b ∷ []) old new
two_done old mid new a b reply other none neither says tells sound fine does did =
    (Done ∷ Done ∷ [], refl, (mid, sound, is_done old mid a reply none says does, (new, fine, is_done mid new b other neither tells did, refl)))
