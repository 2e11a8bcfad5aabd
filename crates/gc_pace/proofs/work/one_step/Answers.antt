-- The useful step, with the size if it is a begin, gets a sound reply and leaves less to do, unless work ends with it.
use Rattle.std.proofs.Common.{ℕ, ◌≤◌, Result, Ok, Err, refl}
use Rattle.std.specs.Prelude.{◌≢◌, IfOk}
use Rattle.gc_model.specs.declared.step.Step.{Step}
use Rattle.gc_model.specs.declared.step.Step.TheVariants as steps
use Rattle.gc_model.specs.declared.step.StepReply.{StepReply}
use Rattle.gc_pace.proofs.Left.{leaves_reply}
use Rattle.gc_pace.proofs.Useful.{sound_reply}
use Rattle.gc_pace.proofs.Waiting.{rooms_reply, lacks_reply, quiet_reply}
use Rattle.gc_pace.proofs.work.one_step.Goals as goal

pub returns-clause-sound : goal.returns-clause-sound
returns-clause-sound c =
    sound_reply c.args.size c.args.heap.now.core c.args.heap.now.core c.args.step c.collect.result refl c.requires.useful
    c.collect.ensures.sound c.collect.ensures.never_refused c.collect.ensures.passes c.collect.ensures.room

-- where the step is no flip and gives nothing up, no more looks are left
fewer_left : {E : Type 0} (r : Result StepReply E) (quiet : StepReply → Type 0) (step : Step) (old new : ℕ) → (step ≢ steps.Flip → step ≢ steps.Drop → new ≤ old) → IfOk r (λ reply. quiet reply → (step ≢ steps.Flip) × (step ≢ steps.Drop)) → IfOk r (λ reply. quiet reply → new ≤ old)
fewer_left (Ok reply) quiet step old new less other = λ is. let no = other is in less no.0 no.1
fewer_left (Err e) quiet step old new less other = tt

leaves : goal.returns-clause-leaves
leaves c =
    let sound = c.is_sound.ensures in
    let laws = c.useful_steps_end.ensures in
    leaves_reply c.args.size c.args.heap.now.core c.args.heap.now.core c.collect.new.self.core c.args.step c.collect.result refl c.requires.useful
    (laws.lowers c.args.heap.now.core sound.heap sound.open) (laws.useful c.args.heap.now.core sound.heap sound.open) (laws.entries c.args.heap.now.core) c.collect.ensures.step

pub returns-clause-leaves : goal.returns-clause-leaves
returns-clause-leaves c = leaves c

pub returns-clause-rooms : goal.returns-clause-rooms
returns-clause-rooms c =
    rooms_reply c.args.size c.args.heap.now c.args.heap.now c.collect.new.self.core c.collect.new.self.beside.rooms c.args.step c.collect.result refl
    c.requires.useful c.collect.ensures.step (leaves c) c.collect.ensures.rooms

pub returns-clause-lacked : goal.returns-clause-lacked
returns-clause-lacked c =
    lacks_reply c.args.size c.args.heap.now c.args.heap.now c.collect.new.self.beside.rooms c.args.step c.collect.result refl
    c.requires.useful c.collect.ensures.allocates c.collect.ensures.due c.collect.ensures.flipped

pub returns-clause-looks : goal.returns-clause-looks
returns-clause-looks c =
    fewer_left c.collect.result _ c.args.step c.args.heap.now.roots_left c.collect.new.self.roots_left c.collect.ensures.looks
    (quiet_reply c.args.size c.args.heap.now.core c.collect.new.self.core c.args.heap.now.beside c.args.heap.now.beside.rooms c.args.step c.collect.result c.requires.useful c.collect.ensures.step (leaves c))
