-- A command that cannot lack memory, because it may give the open collection up.
use Rattle.std.specs.Prelude.{◌≡◌, ◌⊎◌, ℕ, IsSome}
use Rattle.gc_graph.specs.declared.command.Op.{Op}
use Rattle.gc_graph.specs.declared.reply.Reply.{Reply}
use Rattle.gc_model.specs.State.{State}
use Rattle.gc_model.specs.Steps.{collect, mutate}
use Rattle.gc_model.specs.declared.step.Step.TheVariants.{Drop}
use Rattle.gc_collected.specs.Collected.{Beside, Collected, rooms_given_up}
use Rattle.gc_collected.specs.Flip.{new_size}

-- mutator m's command gets this reply and leads from one heap to the other, and changes nothing beside the state
abbrev pub Puts : ℕ → Op → Reply → State → Beside → Collected → Type 0
Puts m op reply core beside new = (mutate core m op ≡ (reply, new.core)) × (new.beside ≡ beside)

-- the command is performed, or the open collection is given up and then the command is performed
abbrev pub PutsSurely : ℕ → Op → Reply → Collected → Collected → Type 0
PutsSurely m op reply old new = Puts m op reply old.core old.beside new
    ⊎ (IsSome old.core.collection × Puts m op reply (collect old.core Drop).1 (record old.beside { rooms = rooms_given_up (new_size old.core) old.beside.rooms }) new)
