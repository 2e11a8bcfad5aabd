-- Commands that led from one state to another, and made no object.
-- For the theorem that the monitor follows its heap.
use Rattle.std.proofs.lemmas.Grind.{common_steps}
use Rattle.std.proofs.Common.{◌≡◌, inl, inr, ⊎_elim, ℕ, arith, Option, Some, None, ◌∙◌}
use Rattle.std.proofs.lemmas.Bool.{cond_both}
use Rattle.gc_graph.specs.Machine.{words_taken}
use Rattle.gc_graph.specs.declared.command.Op.{Op}
use Rattle.gc_graph.specs.declared.reply.Reply.{Reply}
use Rattle.gc_model.specs.State.{Collection, State, heap_end}
use Rattle.gc_model.specs.Steps.{mutate}
use Rattle.gc_model.proofs.Public.{Evolves, WrittenBy}
use Rattle.gc_collected.proofs.Monitor.Events.{command_evolves}

-- the open collections before and after commands have the same replicas
abbrev pub SameReplicas : Option Collection → Option Collection → Type 0
SameReplicas None None = Unit {0}
SameReplicas None (Some d) = ⊥
SameReplicas (Some c) None = ⊥
SameReplicas (Some c) (Some d) = d.replicas ≡ c.replicas

-- commands led from one state to another, and wrote these fields
pub record Leads (s s' : State) (Written : ℕ → ℕ → Type 0) : Type 0 where
  pub collection : SameReplicas s.collection s'.collection
  pub evolves : Evolves s.heap.graph.objects s'.heap.graph.objects Written

pub same_itself : (o : Option Collection) → SameReplicas o o
same_itself o = grind (arith, common_steps)

same_trans : (o p q : Option Collection) → SameReplicas o p → SameReplicas p q → SameReplicas o q
same_trans o p q h k = grind (arith, common_steps)

pub leads_on : (s mid s' : State) (One Two All : ℕ → ℕ → Type 0) → ((a i : ℕ) → One a i → All a i) → ((a i : ℕ) → Two a i → All a i) → Leads s mid One → Leads mid s' Two → Leads s s' All
leads_on s mid s' One Two All f g h k = record {
  collection = same_trans s.collection mid.collection s'.collection h.collection k.collection;
  evolves = λ a o found.
      let x = h.evolves a o found in
      let y = k.evolves a x.now x.found in
      record {
        now = y.now;
        found = y.found;
        raw = y.raw ∙ x.raw;
        kind = y.kind ∙ x.kind;
        len = y.len ∙ x.len;
        fields = λ j w l. ⊎_elim (λ m. ⊎_elim (λ n. inl n) (λ n. inr (f a j n)) (x.fields j w m)) (λ m. inr (g a j m)) (y.fields j w l);
      };
}

pub leads_one : (s s' : State) (m : ℕ) (op : Op) (reply : Reply) → mutate s m op ≡ (reply, s') → Leads s s' (WrittenBy s.heap.graph m op reply)
leads_one s s' m op reply said = grind (arith, common_steps, command_evolves)

-- a command that takes no words leaves the end
pub end_by : (s s' : State) (m : ℕ) (op : Op) (reply : Reply) → mutate s m op ≡ (reply, s') → words_taken op ≡ 0 → heap_end s ≡ heap_end s'
end_by s s' m op reply said none = grind (arith, common_steps, cond_both)
