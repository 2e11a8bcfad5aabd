-- The form that each entry has.
use Rattle.std.specs.Prelude.{◌≡◌, true, false, refl}
use Rattle.gc_graph.specs.declared.command.Op.TheVariants as ops
use Rattle.gc_graph.specs.declared.reply.Reply.TheVariants as replies
use Rattle.gc_graph.specs.declared.reply.View.TheVariants as views
use Rattle.gc_model.specs.declared.step.Step.TheVariants.{Begin}
use Rattle.gc_model.specs.declared.step.StepReply.TheVariants.{Busy}
use Rattle.gc_model.specs.declared.event.Event.{Event}
use Rattle.gc_model.specs.declared.event.Event.TheVariants.{Mutate, Collect}
use Rattle.gc_model.specs.declared.event.Answer.{Answer}
use Rattle.gc_model.specs.declared.event.Answer.TheVariants.{Mutator, Collector, Useful}
use Rattle.gc_world.specs.declared.bare.BareOp.TheVariants as bare_ops
use Rattle.gc_world.specs.declared.bare.BareReply.TheVariants as bare_replies
use Rattle.gc_world.specs.declared.entry.Form.{Form}
use Rattle.gc_world.specs.declared.entry.Form.TheVariants.{Command, Shown, GivenAndShown, Step}
use Rattle.gc_world.specs.Forms.{meaning}

-- the form of an event and an answer; an arbitrary one if the two do not fit together, which no entry has
abbrev pub form_of : Event → Answer → Form
form_of (Mutate m op) (Mutator replies.Full) = Command m bare_replies.Full op
form_of (Mutate m op) (Mutator replies.Made) = Command m bare_replies.Made op
form_of (Mutate m op) (Mutator replies.Done) = Command m bare_replies.Done op
form_of (Mutate m op) (Mutator replies.NoObject) = Command m bare_replies.NoObject op
form_of (Mutate m op) (Mutator replies.NoField) = Command m bare_replies.NoField op
form_of (Mutate m op) (Mutator replies.NoNumber) = Command m bare_replies.NoNumber op
form_of (Mutate m op) (Mutator (replies.Saw views.Nil)) = Command m bare_replies.SawNil op
form_of (Mutate m op) (Mutator (replies.Saw (views.Obj kind len))) = Command m (bare_replies.SawObj kind len) op
form_of (Mutate m op) (Mutator (replies.Saw (views.RawObj kind len))) = Command m (bare_replies.SawRawObj kind len) op
form_of (Mutate m op) (Mutator replies.Yes) = Command m bare_replies.Yes op
form_of (Mutate m op) (Mutator replies.No) = Command m bare_replies.No op
form_of (Mutate m (ops.New d kind len)) (Mutator (replies.Saw (views.Num n))) = Shown m (bare_ops.New d kind len) n
form_of (Mutate m (ops.NewRaw d kind len)) (Mutator (replies.Saw (views.Num n))) = Shown m (bare_ops.NewRaw d kind len) n
form_of (Mutate m (ops.Num d given)) (Mutator (replies.Saw (views.Num n))) = GivenAndShown m d given n
form_of (Mutate m (ops.Nil d)) (Mutator (replies.Saw (views.Num n))) = Shown m (bare_ops.Nil d) n
form_of (Mutate m (ops.Move d s)) (Mutator (replies.Saw (views.Num n))) = Shown m (bare_ops.Move d s) n
form_of (Mutate m (ops.Get d s i)) (Mutator (replies.Saw (views.Num n))) = Shown m (bare_ops.Get d s i) n
form_of (Mutate m (ops.Put s i t)) (Mutator (replies.Saw (views.Num n))) = Shown m (bare_ops.Put s i t) n
form_of (Mutate m (ops.Same s t)) (Mutator (replies.Saw (views.Num n))) = Shown m (bare_ops.Same s t) n
form_of (Mutate m (ops.Look s)) (Mutator (replies.Saw (views.Num n))) = Shown m (bare_ops.Look s) n
form_of (Collect step) (Collector reply) = Step false step reply
form_of (Collect step) (Useful reply) = Step true step reply
form_of event answer = Step false Begin Busy

-- the form of a form's meaning is that form
pub forms_come_back : (form : Form) → form_of (meaning form).event (meaning form).answer ≡ form
forms_come_back (Command m bare_replies.Full op) = refl
forms_come_back (Command m bare_replies.Made op) = refl
forms_come_back (Command m bare_replies.Done op) = refl
forms_come_back (Command m bare_replies.NoObject op) = refl
forms_come_back (Command m bare_replies.NoField op) = refl
forms_come_back (Command m bare_replies.NoNumber op) = refl
forms_come_back (Command m bare_replies.SawNil op) = refl
forms_come_back (Command m bare_replies.Yes op) = refl
forms_come_back (Command m bare_replies.No op) = refl
forms_come_back (Command m (bare_replies.SawObj kind len) op) = refl
forms_come_back (Command m (bare_replies.SawRawObj kind len) op) = refl
forms_come_back (Shown m (bare_ops.New d kind len) n) = refl
forms_come_back (Shown m (bare_ops.NewRaw d kind len) n) = refl
forms_come_back (Shown m (bare_ops.Nil d) n) = refl
forms_come_back (Shown m (bare_ops.Move d s) n) = refl
forms_come_back (Shown m (bare_ops.Get d s i) n) = refl
forms_come_back (Shown m (bare_ops.Put s i t) n) = refl
forms_come_back (Shown m (bare_ops.Same s t) n) = refl
forms_come_back (Shown m (bare_ops.Look s) n) = refl
forms_come_back (GivenAndShown m d given n) = refl
forms_come_back (Step false step reply) = refl
forms_come_back (Step true step reply) = refl
