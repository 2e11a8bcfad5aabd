-- Forms that compare equal are the same.
use Rattle.std.proofs.lemmas.Grind.{common_steps}
use Rattle.std.proofs.Common.{◌≡◌, ◌↔◌, ◌&&◌, true, false, rules, subst, sym, ap, ◌∙◌, arith}
use Rattle.std.proofs.lemmas.Bool.{and_parts, false≢true, eqb-true}
use Rattle.gc_graph.specs.Slots.{SlotName}
use Rattle.gc_graph.specs.declared.command.Op.{Op}
use Rattle.gc_model.specs.declared.step.Step.{Step}
use Rattle.gc_model.specs.declared.step.StepReply.{StepReply}
use Rattle.gc_world.specs.declared.bare.BareOp.{BareOp}
use Rattle.gc_world.specs.declared.bare.BareReply.{BareReply}
use Rattle.gc_world.specs.declared.entry.Form.{Form}
use Rattle.gc_world.specs.declared.entry.Form.TheVariants.{Command, Shown, GivenAndShown, Step as StepForm}
use Rattle.gc_world.specs.Entries.{EntryValue}
use Rattle.gc_world.specs.Forms.{meaning}
use Rattle.gc_world.specs.Internal.Forms.{form_of, forms_come_back}
use Rattle.gc_graph.specs.contracts.slot.SlotPartialEq.TheImpl as of_slots
use Rattle.gc_graph.specs.contracts.command.OpPartialEq.TheImpl as of_ops
use Rattle.gc_model.specs.contracts.step.StepPartialEq.TheImpl as of_steps
use Rattle.gc_model.specs.contracts.step.StepReplyPartialEq.TheImpl as of_step_replies
use Rattle.gc_world.specs.contracts.bare.BareOpPartialEq.TheImpl as of_bare_ops
use Rattle.gc_world.specs.contracts.bare.BareReplyPartialEq.TheImpl as of_bare_replies
use Rattle.gc_world.specs.contracts.entry.FormPartialEq.TheImpl as of_forms

same_slot : (a b : SlotName) → (of_slots.ghosts.eq a b ≡ true) ↔ (a ≡ b)
same_slot a b = search rules

same_op : (a b : Op) → (of_ops.ghosts.eq a b ≡ true) ↔ (a ≡ b)
same_op a b = search (rules, same_slot)

same_bare_op : (a b : BareOp) → (of_bare_ops.ghosts.eq a b ≡ true) ↔ (a ≡ b)
same_bare_op a b = search (rules, same_slot)

same_bare_reply : (a b : BareReply) → (of_bare_replies.ghosts.eq a b ≡ true) ↔ (a ≡ b)
same_bare_reply a b = search rules

same_step : (a b : Step) → (of_steps.ghosts.eq a b ≡ true) ↔ (a ≡ b)
same_step a b = search rules

same_step_reply : (a b : StepReply) → (of_step_replies.ghosts.eq a b ≡ true) ↔ (a ≡ b)
same_step_reply a b = search rules

steps_are : (step other : Step) (reply other_reply : StepReply) → (of_steps.ghosts.eq step other && of_step_replies.ghosts.eq reply other_reply) ≡ true → (step ≡ other) × (reply ≡ other_reply)
steps_are step other reply other_reply e = (let parts = and_parts _ _ e in ((same_step step other).0 parts.0, (same_step_reply reply other_reply).0 parts.1))

from_form : (a b : Form) → of_forms.ghosts.eq a b ≡ true → a ≡ b
from_form (Command m reply op) (Command k other_reply other) e = grind (arith, common_steps, eqb-true, same_bare_reply, same_op)
from_form (Shown m op n) (Shown k other i) e =
    let first = and_parts _ _ e in
    let rest = and_parts _ _ first.1 in
    let mutator : m ≡ k = eqb-true m k first.0 in
    let command : op ≡ other = (same_bare_op op other).0 rest.0 in
    let number : n ≡ i = eqb-true n i rest.1 in
    cc
from_form (GivenAndShown m d given n) (GivenAndShown k c other i) e = grind (arith, common_steps, eqb-true, same_slot)
from_form (StepForm false step reply) (StepForm false other other_reply) e = let same = steps_are step other reply other_reply e in cc
from_form (StepForm true step reply) (StepForm true other other_reply) e = let same = steps_are step other reply other_reply e in cc
from_form a b e = absurd (false≢true e)

to_itself : (a : Form) → of_forms.ghosts.eq a a ≡ true
to_itself a = grind (arith, common_steps, same_op, same_bare_reply, same_bare_op, same_slot, same_step, same_step_reply)

pub same_form : (a b : Form) → (of_forms.ghosts.eq a b ≡ true) ↔ (a ≡ b)
same_form a b = (from_form a b, λ e. subst (λ (x : Form). of_forms.ghosts.eq a x ≡ true) e (to_itself a))

-- forms with the same meaning are the same
pub one_form : (a b : Form) → meaning a ≡ meaning b → a ≡ b
one_form a b e = sym (forms_come_back a) ∙ ap (λ (v : EntryValue). form_of v.event v.answer) e ∙ forms_come_back b
