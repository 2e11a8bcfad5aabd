-- What a run of scripts in threads leaves: receipts in the seats, and a history in the world.
use Rattle.std.specs.Prelude.{◌≡◌, ℕ, ◌<◌, ⊤, Bool, true, false, List, [], length, map, filter, All, slice_index_or}
use Rattle.std.specs.declared.vec.Vec.{Vec}
use Rattle.std.specs.declared.alloc.Global.{Global}
use Rattle.gc_graph.specs.declared.command.Op.{Op}
use Rattle.gc_world.specs.declared.entry.Entry.{Entry}
use Rattle.gc_model.specs.declared.event.Event.{Event}
use Rattle.gc_model.specs.declared.event.Event.TheVariants.{Mutate, Collect}
use Rattle.gc_model.specs.declared.event.Answer.{Answer}
use Rattle.gc_model.specs.declared.event.Answer.TheVariants.{Useful}
use Rattle.gc_model.specs.Runs.{commands_of}
use Rattle.gc_world.specs.History.{events_of}
use Rattle.gc_world.specs.World.{Past}

-- script m
abbrev pub script_at : List (Vec Op Global) → ℕ → List Op
script_at scripts m = slice_index_or (map (λ script. script.items) scripts) m []

-- ---- on receipts

-- a collector step whose answer is marked `Useful`
abbrev pub IsUsefulStep : Event → Answer → Type 0
IsUsefulStep (Collect step) (Useful reply) = ⊤
IsUsefulStep event answer = ⊥

-- ---- in a history

-- an event of the collector
abbrev pub is_collect : Event → Bool
is_collect (Mutate m op) = false
is_collect (Collect step) = true

-- the entries of the collector, in order
abbrev pub steps_of : List Entry → List Entry
steps_of entries = filter (λ entry. is_collect entry.event) entries

-- The world was opened with this size and a mutator for each script. The commands of mutator m are those of script m,
-- in order. The collector performed this many steps, and the answer to each is marked `Useful`.
pub record HasRunScripts (size : ℕ) (scripts : List (Vec Op Global)) (turns : ℕ) (w : Past) : Type 0 where
  pub opened : w.size ≡ size
  pub mutators : w.mutators ≡ length scripts
  pub commands : (m : ℕ) → m < length scripts → commands_of m (events_of w.entries) ≡ script_at scripts m
  pub steps : length (steps_of w.entries) ≡ turns
  pub useful : All (λ entry. IsUsefulStep entry.event entry.answer) (steps_of w.entries)
