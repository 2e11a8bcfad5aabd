-- A `Get` is a fetch and a look at the root that took the value: that sees what the reply to the `Get` shows.
use Rattle.std.proofs.lemmas.Grind.{common_steps}
use Rattle.std.proofs.Common.{◌≡◌, ◌≢◌, ℕ, ◌<◌, length, Option, Some, None, refl, ap, sym, ◌∙◌, arith}
use Rattle.std.specs.Option.{unwrap_or}
use Rattle.gc_graph.specs.Graph.{Graph, Object, Value, Nil, root}
use Rattle.gc_graph.specs.Machine.{get_field, view_of}
use Rattle.gc_graph.specs.Slots.{SlotName, place}
use Rattle.gc_graph.specs.declared.command.Op.TheVariants.{Get, Look}
use Rattle.gc_graph.specs.declared.reply.Reply.{Reply}
use Rattle.gc_graph.specs.declared.reply.Reply.TheVariants as replies
use Rattle.gc_graph.specs.declared.reply.View.{View}
use Rattle.gc_graph.specs.declared.reply.View.TheVariants as views
use Rattle.gc_heap.specs.Commands.{fetched_of}
use Rattle.gc_heap.specs.declared.taken.Fetched.{Fetched}
use Rattle.gc_heap.specs.declared.taken.Fetched.TheVariants as fetches
use Rattle.gc_model.specs.State.{State}
use Rattle.gc_model.specs.Steps.{mutate}
use Rattle.gc_model.proofs.Public.{get_set_same}

-- the reply to a `Get` of which this is fetched, where this is the reply to a look at the root
abbrev seen_by : Fetched → Reply → Reply
seen_by fetches.NoObject look = replies.NoObject
seen_by fetches.NoField look = replies.NoField
seen_by fetched look = look

shown : (view : View) → seen_by (fetched_of (replies.Saw view)) (replies.Saw view) ≡ replies.Saw view
shown views.Nil = refl
shown (views.Num n) = refl
shown (views.Obj kind len) = refl
shown (views.RawObj kind len) = refl

got : (g : Graph) (p : ℕ) (object : Option Object) (found : Option Value) → p < length g.roots
    → (let got = get_field g p object found in seen_by (fetched_of got.0) (replies.Saw (view_of got.1.objects (root got.1 p))) ≡ got.0)
got g p None found within = refl
got g p (Some o) None within = refl
got g p (Some o) (Some v) within =
    ap (λ w. seen_by (fetched_of (replies.Saw (view_of g.objects v))) (replies.Saw (view_of g.objects (unwrap_or w Nil)))) (get_set_same g.roots p v within)
    ∙ shown (view_of g.objects v)

get_seen : (s new : State) (m i : ℕ) (d q : SlotName) (reply : Reply) → place d m < length s.heap.graph.roots → mutate s m (Get d q i) ≡ (reply, new) → seen_by (fetched_of reply) (mutate new m (Look d)).0 ≡ reply
get_seen s new m i d q reply within said = grind (arith, common_steps, got)

seen_found : (fetched : Fetched) (look : Reply) → fetched ≢ fetches.NoObject → fetched ≢ fetches.NoField → seen_by fetched look ≡ look
seen_found fetches.NoObject look some has = absurd (some refl)
seen_found fetches.NoField look some has = absurd (has refl)
seen_found fetches.Nil look some has = refl
seen_found (fetches.Num n) look some has = refl
seen_found fetches.Object look some has = refl

pub get_shown : (s new : State) (m i : ℕ) (d q : SlotName) (reply seen : Reply) (fetched : Fetched) → place d m < length s.heap.graph.roots → mutate s m (Get d q i) ≡ (reply, new) → fetched ≡ fetched_of reply → mutate new m (Look d) ≡ (seen, new)
    → fetched ≢ fetches.NoObject → fetched ≢ fetches.NoField → mutate s m (Get d q i) ≡ (seen, new)
get_shown s new m i d q reply seen fetched within said is look some has =
    let same : reply ≡ seen = sym (get_seen s new m i d q reply within said) ∙ (λ k. seen_by (sym is k) (look k).0) ∙ seen_found fetched seen some has in
    said ∙ ap (λ r. (r, new)) same
