-- Making an object in a root.
use Rattle.std.specs.Prelude.{ℕ, Bool, ◌-◌, nat_lt, if◌then◌else◌, ◌≡◌}
use Rattle.gc_graph.specs.Graph.{Ref, set_root, new_object, add_object, IsUnused}
use Rattle.gc_graph.specs.declared.reply.Reply.{Reply}
use Rattle.gc_graph.specs.declared.reply.Reply.TheVariants.{Full, Made}
use Rattle.gc_graph.specs.Machine.{Roomy, object_words}

-- the reply and the state after making an object in the root at place `p`; `Full`, with no change, if it has no room
abbrev pub make_object : Roomy → ℕ → Bool → ℕ → ℕ → ℕ → Reply × Roomy
make_object s p raw kind len name =
    if nat_lt s.free (object_words len) then (Full, s)
    else (Made, record { graph = set_root (add_object s.graph name (new_object raw kind len)) p (Ref name); free = s.free - object_words len })

-- `make_object` gives this reply and this state, for some name that is unused in the old state.
pub record Makes (old : Roomy) (p : ℕ) (raw : Bool) (kind len : ℕ) (reply : Reply) (new : Roomy) : Type 0 where
  pub name : ℕ
  pub unused : IsUnused old.graph name
  pub made : (reply, new) ≡ make_object old p raw kind len name
