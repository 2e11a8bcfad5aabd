-- The event and the answer that each form of an entry stands for.
use Rattle.std.specs.Prelude.{true, false}
use Rattle.gc_graph.specs.declared.command.Op.{Op}
use Rattle.gc_graph.specs.declared.command.Op.TheVariants as ops
use Rattle.gc_graph.specs.declared.reply.Reply.{Reply}
use Rattle.gc_graph.specs.declared.reply.Reply.TheVariants as replies
use Rattle.gc_graph.specs.declared.reply.View.TheVariants as views
use Rattle.gc_model.specs.declared.event.Event.TheVariants.{Mutate, Collect}
use Rattle.gc_model.specs.declared.event.Answer.TheVariants.{Mutator, Collector, Useful}
use Rattle.gc_world.specs.Entries.{EntryValue}
use Rattle.gc_world.specs.declared.bare.BareOp.{BareOp}
use Rattle.gc_world.specs.declared.bare.BareOp.TheVariants as bare_ops
use Rattle.gc_world.specs.declared.bare.BareReply.{BareReply}
use Rattle.gc_world.specs.declared.bare.BareReply.TheVariants as bare_replies
use Rattle.gc_world.specs.declared.entry.Form.{Form}
use Rattle.gc_world.specs.declared.entry.Form.TheVariants.{Command, Shown, GivenAndShown, Step}

abbrev pub op_of : BareOp → Op
op_of (bare_ops.New d kind len) = ops.New d kind len
op_of (bare_ops.NewRaw d kind len) = ops.NewRaw d kind len
op_of (bare_ops.Nil d) = ops.Nil d
op_of (bare_ops.Move d s) = ops.Move d s
op_of (bare_ops.Get d s i) = ops.Get d s i
op_of (bare_ops.Put s i t) = ops.Put s i t
op_of (bare_ops.Same s t) = ops.Same s t
op_of (bare_ops.Look s) = ops.Look s

abbrev pub reply_of : BareReply → Reply
reply_of bare_replies.Full = replies.Full
reply_of bare_replies.Made = replies.Made
reply_of bare_replies.Done = replies.Done
reply_of bare_replies.NoObject = replies.NoObject
reply_of bare_replies.NoField = replies.NoField
reply_of bare_replies.NoNumber = replies.NoNumber
reply_of bare_replies.SawNil = replies.Saw views.Nil
reply_of (bare_replies.SawObj kind len) = replies.Saw (views.Obj kind len)
reply_of (bare_replies.SawRawObj kind len) = replies.Saw (views.RawObj kind len)
reply_of bare_replies.Yes = replies.Yes
reply_of bare_replies.No = replies.No

abbrev pub meaning : Form → EntryValue
meaning (Command m reply op) = record { event = Mutate m op; answer = Mutator (reply_of reply) }
meaning (Shown m op n) = record { event = Mutate m (op_of op); answer = Mutator (replies.Saw (views.Num n)) }
meaning (GivenAndShown m d given n) = record { event = Mutate m (ops.Num d given); answer = Mutator (replies.Saw (views.Num n)) }
meaning (Step false step reply) = record { event = Collect step; answer = Collector reply }
meaning (Step true step reply) = record { event = Collect step; answer = Useful reply }
