-- Roots that take the fields of an object.
use Rattle.std.specs.Prelude.{ℕ, zero, suc, ◌+◌, ◌≤◌, max, nat_le, if◌then◌else◌}
use Rattle.gc_graph.specs.declared.command.Op.TheVariants.{Get, Look}
use Rattle.gc_graph.specs.declared.reply.Reply.{Reply}
use Rattle.gc_graph.specs.declared.reply.Reply.TheVariants.{Done, NoObject, NoField, Saw}
use Rattle.gc_graph.specs.declared.reply.View.TheVariants.{Obj, RawObj}
use Rattle.gc_heap.specs.Places.{root_at}
use Rattle.gc_model.specs.State.{State}
use Rattle.gc_model.specs.Steps.{mutate}
use Rattle.gc_collected.specs.Writing.{after_reply}

-- so many fields of the object in root q, from field i on, go into the roots from p on: one `Get` for each, in rising order
abbrev pub gets_step : State → ℕ → ℕ → ℕ → ℕ → State
gets_step s p q i zero = s
gets_step s p q i (suc n) = gets_step (mutate s 0 (Get (root_at p) (root_at q) i)).1 (suc p) q (suc i) n

-- whether a `Look` with this reply saw an object with so many fields
abbrev pub spread_reply : ℕ → Reply → Reply
spread_reply count (Saw (Obj kind len)) = if nat_le count len then Done else NoField
spread_reply count (Saw (RawObj kind len)) = if nat_le count len then Done else NoField
spread_reply count seen = NoObject

-- the first fields of the object in root q go into the roots from p on, if it has so many
abbrev pub spread_step : State → ℕ → ℕ → ℕ → Reply × State
spread_step old p q count =
    let reply = spread_reply count (mutate old 0 (Look (root_at q))).0 in
    (reply, after_reply reply old (gets_step old p q 0 count))

-- so many roots from this one on that take values ask for one look each at most, unless no root from the first of them on was in use
abbrev pub AskForRow : ℕ → ℕ → ℕ → ℕ → Type 0
AskForRow first count was now = (was ≤ now) × (now ≤ max (was + count) (first + count))
