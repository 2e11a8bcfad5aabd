-- Commands in a row that made no object, and what they wrote and logged.
-- For the theorem that the monitor follows its heap.
use Rattle.std.proofs.lemmas.Grind.{common_steps}
use Rattle.std.proofs.Common.{◌≡◌, inl, ⊎_elim, ℕ, zero, suc, ◌<◌, ◌≤◌, List, [], ◌∷◌, ◌++◌, length, Option, Some, None, refl, ap, sym, ◌∙◌, subst, arith}
use Rattle.std.specs.Prelude.{IfSome, slice_get, slice_set}
use Rattle.std.specs.Option.{unwrap_or}
use Rattle.gc_graph.specs.Machine.{roomy_step, words_taken}
use Rattle.gc_graph.specs.declared.command.Op.{Op}
use Rattle.gc_graph.specs.declared.reply.Reply.{Reply}
use Rattle.gc_model.specs.State.{Collection, State, heap_end}
use Rattle.gc_model.specs.Steps.{log_at, logged, mutate, with_log, written}
use Rattle.gc_model.specs.Members.{In}
use Rattle.gc_model.specs.Belonging.{IsLogged, IsOpened}
use Rattle.gc_model.proofs.Public.{WrittenBy, in_right, unchanged}
use Rattle.gc_collected.proofs.Monitor.CommandsKnown.{Continues, continues_on, continues_one, continues_same}
use Rattle.gc_collected.proofs.Monitor.Leads.{Leads, end_by, leads_on, leads_one, same_itself}

-- no object was made
abbrev pub NoName : ℕ → Type 0
NoName a = ⊥

pub record Ran (s s' : State) (Written : ℕ → ℕ → Type 0) : Type 0 where
  pub leads : Leads s s' Written
  pub end : heap_end s ≡ heap_end s'
  pub on : Continues s s' NoName

pub ran_none : (s : State) (Written : ℕ → ℕ → Type 0) → Ran s s Written
ran_none s Written = record { leads = record { collection = same_itself s.collection; evolves = unchanged s.heap.graph.objects Written }; end = refl; on = continues_same s NoName }

pub ran_one : (s s' : State) (m : ℕ) (op : Op) (reply : Reply) → mutate s m op ≡ (reply, s') → words_taken op ≡ 0 → Ran s s' (WrittenBy s.heap.graph m op reply)
ran_one s s' m op reply said none = let on = continues_one s s' m op reply said in record {
  leads = leads_one s s' m op reply said;
  end = end_by s s' m op reply said none;
  on = record {
    mutators = on.mutators;
    size = on.size;
    collection = on.collection;
    names = λ a n. ⊎_elim (λ l. inl l) (λ new. absurd (let some : 1 ≤ words_taken op = new.0 in omega arith)) (on.names a n);
    stays = on.stays;
  };
}

pub ran_on : (s mid s' : State) (One Two All : ℕ → ℕ → Type 0) → ((a i : ℕ) → One a i → All a i) → ((a i : ℕ) → Two a i → All a i) → Ran s mid One → Ran mid s' Two → Ran s s' All
ran_on s mid s' One Two All f g h k = record {
  leads = leads_on s mid s' One Two All f g h.leads k.leads;
  end = h.end ∙ k.end;
  on = continues_on s mid s' NoName NoName NoName (λ a n. n) (λ a n. n) h.on k.on;
}

-- ---- what is written is logged

-- the open collection has a log of this mutator
abbrev pub HasLog : Option Collection → ℕ → Type 0
HasLog None m = Unit {0}
HasLog (Some c) m = m < length c.logs

pub log_of_open : (s : State) (m : ℕ) → IfSome s.collection (IsOpened s) → m < s.mutators → HasLog s.collection m
log_of_open s m is_open less = grind (arith, common_steps)

log_new : (logs : List (List (ℕ × ℕ))) (m : ℕ) (more : List (ℕ × ℕ)) (e : ℕ × ℕ) → m < length logs → In e more → In e (unwrap_or (slice_get (slice_set logs m (unwrap_or (slice_get logs m) [] ++ more)) m) [])
log_new [] m more e less l = absurd (omega arith)
log_new (log ∷ logs) zero more e less l = in_right e log more l
log_new (log ∷ logs) (suc m) more e less l = log_new logs m more e (omega arith) l

pub noted : (s s' : State) (m : ℕ) (op : Op) (reply : Reply) (a i : ℕ) → HasLog s.collection m → mutate s m op ≡ (reply, s') → WrittenBy s.heap.graph m op reply a i → (d : Collection) → s'.collection ≡ Some d → IsLogged d a i
noted s s' m op reply a i has said w d there = go s.collection has (ap (λ (x : Reply × State). x.1.collection) said ∙ there)
  where
    go : (o : Option Collection) → HasLog o m → logged o m (written s.heap.graph m op (roomy_step s.heap m op (heap_end s)).0) ≡ Some d → IsLogged d a i
    go None k e = absurd (let no : None ≡ Some d = e in cc)
    go (Some c) k e =
        let is : with_log c m (log_at c m ++ written s.heap.graph m op (roomy_step s.heap m op (heap_end s)).0) ≡ d = cc e in
        subst (λ (d : Collection). IsLogged d a i) is (m, log_new c.logs m _ (a, i) k (subst (λ (r : Reply). In {X = ℕ × ℕ} (a, i) (written s.heap.graph m op r)) (sym (ap (λ (x : Reply × State). x.0) said)) w))
