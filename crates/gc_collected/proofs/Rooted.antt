-- A monitor that follows a collected heap goes on following it where a root takes a value: no object changes.
use Rattle.std.proofs.Common.{◌≡◌, inl, ℕ, refl, subst, sym}
use Rattle.std.specs.Prelude.{IfSome}
use Rattle.gc_graph.specs.Graph.{Value}
use Rattle.gc_model.specs.State.{State}
use Rattle.gc_model.specs.Belonging.{IsOpened}
use Rattle.gc_monitor.specs.Tables.{Tables}
use Rattle.gc_collected.specs.Internal.Follows.{Follows}
use Rattle.gc_collected.specs.Internal.Values.{with_value}
use Rattle.gc_collected.proofs.Monitor.Follows.{follows_quiet}
use Rattle.gc_collected.proofs.Monitor.Ran.{Ran, ran_none}

-- no field was written
abbrev Never : ℕ → ℕ → Type 0
Never a i = ⊥

valued_ran : (s : State) (p : ℕ) (v : Value) → Ran s (with_value s p v) Never
valued_ran s p v = let same = ran_none s Never in record {
  leads = record { collection = same.leads.collection; evolves = same.leads.evolves };
  end = refl;
  on = record { mutators = refl; size = refl; collection = same.on.collection; names = λ b n. inl n; stays = λ b n. n };
}

pub follows_valued : (s s' : State) (p : ℕ) (v : Value) (t : Tables) → IfSome s.collection (IsOpened s) → s' ≡ with_value s p v → Follows s t → Follows s' t
follows_valued s s' p v t is_open is = follows_quiet s s' t Never is_open (subst (λ (x : State). Ran s x Never) (sym is) (valued_ran s p v)) (λ b i w. w)
