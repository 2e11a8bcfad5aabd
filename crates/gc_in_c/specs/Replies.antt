-- Replies as C sees them: the number that a call returns, and what it writes about a value that it saw.
use Rattle.std.specs.Prelude.{ℕ}
use Rattle.gc_check.specs.InC.{done}
use Rattle.gc_graph.specs.declared.reply.Reply.{Reply}
use Rattle.gc_graph.specs.declared.reply.Reply.TheVariants.{Full, Made, Done, NoObject, NoField, NoNumber, Saw, Yes, No}
use Rattle.gc_graph.specs.declared.reply.View.{View}
use Rattle.gc_graph.specs.declared.reply.View.TheVariants.{Nil, Num, Obj, RawObj}
use Rattle.gc_in_c.specs.declared.reply.GcflipView.{GcflipView}

abbrev pub seen_in_c : View → ℕ
seen_in_c Nil = 24
seen_in_c (Num n) = 25
seen_in_c (Obj kind len) = 26
seen_in_c (RawObj kind len) = 27

abbrev pub reply_in_c : Reply → ℕ
reply_in_c Done = done
reply_in_c Made = 16
reply_in_c Full = 17
reply_in_c NoObject = 18
reply_in_c NoField = 19
reply_in_c NoNumber = 20
reply_in_c Yes = 21
reply_in_c No = 22
reply_in_c (Saw view) = seen_in_c view

-- the number that a `get` with this reply returns; `get` does not read an object that it found
abbrev pub got_in_c : Reply → ℕ
got_in_c NoField = reply_in_c NoField
got_in_c (Saw (RawObj kind len)) = seen_in_c (Obj kind len)
got_in_c (Saw view) = seen_in_c view
got_in_c reply = reply_in_c NoObject

-- C's variable after a `get`: the number that it saw, if it saw one
abbrev pub number_after : ℕ → Reply → ℕ
number_after before (Saw (Num n)) = n
number_after before reply = before

abbrev pub view_in_c : View → GcflipView
view_in_c Nil = record { kind = 0; count = 0; number = 0 }
view_in_c (Num n) = record { kind = 0; count = 0; number = n }
view_in_c (Obj kind len) = record { kind = kind; count = len; number = 0 }
view_in_c (RawObj kind len) = record { kind = kind; count = len; number = 0 }

-- C's view after a `look`: what it saw, if it saw a value
abbrev pub view_after : GcflipView → Reply → GcflipView
view_after before (Saw view) = view_in_c view
view_after before reply = before
