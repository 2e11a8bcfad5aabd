-- The replies that mutators can get from a machine without a collector.
use Rattle.std.specs.Prelude.{◌≡◌, ℕ, List, [], ◌∷◌, ◌⊎◌, ⊤}
use Rattle.gc_graph.specs.Graph.{Graph, opening, fresh_name}
use Rattle.gc_graph.specs.Machine.{step, MakesObject}
use Rattle.gc_graph.specs.declared.command.Op.{Op}
use Rattle.gc_graph.specs.declared.reply.Reply.{Reply}
use Rattle.gc_graph.specs.declared.reply.Reply.TheVariants.{Full}

-- a command, its mutator and its reply
pub record Told : Type 0 where
  pub m : ℕ
  pub op : Op
  pub reply : Reply

-- The machine without a collector gives these replies, starting from this graph. A command that makes an object may also
-- get the reply `Full`, and then nothing changes.
abbrev pub IsLegalFrom : Graph → List Told → Type 0
IsLegalFrom g [] = ⊤
IsLegalFrom g (told ∷ rest) =
    (MakesObject told.op × (told.reply ≡ Full) × IsLegalFrom g rest)
    ⊎ ((told.reply ≡ (step g told.m told.op (fresh_name g)).0) × IsLegalFrom (step g told.m told.op (fresh_name g)).1 rest)

abbrev pub IsLegal : ℕ → List Told → Type 0
IsLegal mutators told = IsLegalFrom (opening mutators) told
