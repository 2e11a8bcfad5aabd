-- Whether a reply lets an entry be logged.
use Rattle.std.specs.Prelude.{ℕ, Option, None}
use Rattle.gc_graph.specs.declared.reply.Reply.{Reply}
use Rattle.gc_graph.specs.declared.reply.Reply.TheVariants.{Done}

-- the field that a command wrote, if the reply is `Done`
abbrev pub if_done : Reply → Option (ℕ × ℕ) → Option (ℕ × ℕ)
if_done Done entry = entry
if_done reply entry = None
