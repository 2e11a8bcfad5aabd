-- What `put_number` made of the command is what the call returns.
use Rattle.std.proofs.lemmas.Grind.{common_steps}
use Rattle.std.proofs.Common.{◌≡◌, [], ◌∷◌, subst, arith}
use Rattle.std.specs.Prelude.{IfOk}
use Rattle.gc_graph.specs.Slots.{SlotName}
use Rattle.gc_graph.specs.declared.command.Op.TheVariants.{Num, Put}
use Rattle.gc_graph.specs.declared.reply.Reply.{Reply}
use Rattle.gc_model.specs.State.{State}
use Rattle.gc_model.specs.Steps.{mutate}
use Rattle.gcflip_heap_c.specs.Slots.{NamesSlots, numbered_slot}
use Rattle.gcflip_heap_c.proofs.Calls.{call_made}
use Rattle.gcflip_heap_c.proofs.rare.put_number_while_open.Goals as goal

pub returns-clause-call : goal.returns-clause-call
returns-clause-call c =
    let a = c.args in
    let step : SlotName → SlotName → State → Reply × State = λ x y s. mutate (mutate s a.m (Num y a.n)).1 a.m (Put x a.i y) in
    call_made (NamesSlots a.m (a.s ∷ a.t ∷ [])) (step (numbered_slot a.s) (numbered_slot a.t)) a.heap.now c.put_number.new.self c.put_number.result c.of_result.result
    (grind (arith, common_steps))
    (subst (λ (x : SlotName). IfOk c.put_number.result (λ reply. step x (numbered_slot a.t) a.heap.now.core ≡ (reply, c.put_number.new.self.core))) c.numbered_slot-s.ensures
    (subst (λ (y : SlotName). IfOk c.put_number.result (λ reply. step c.numbered_slot-s.result y a.heap.now.core ≡ (reply, c.put_number.new.self.core))) c.numbered_slot-t.ensures c.put_number.ensures.step))
    c.put_number.ensures.refused c.of_result.ensures.reply c.of_result.ensures.memory
