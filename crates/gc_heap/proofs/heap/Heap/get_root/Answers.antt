-- What the root took shows what the machine's `Get` replies.
use Rattle.std.proofs.lemmas.Grind.{common_steps}
use Rattle.std.proofs.Common.{◌≡◌, sym, subst, arith}
use Rattle.gc_graph.specs.declared.command.Op.TheVariants.{Get}
use Rattle.gc_graph.specs.declared.reply.Reply.{Reply}
use Rattle.gc_heap.specs.Commands.{Performs}
use Rattle.gc_heap.specs.Internal.Taken.{taken_reply}
use Rattle.gc_heap.specs.Places.{root_at}
use Rattle.gc_heap.proofs.heap.Heap.get_root.Goals as goal
use Rattle.gc_heap.proofs.heap.Heap.get_root.Goals.{in-NoObject, in-NoField, in-Word}

pub returns-clause-performs : goal.returns-clause-performs
returns-clause-performs c =
    let shown : c.match-take_root.result ≡ taken_reply c.args.self.now c.take_root.result = elim c.match-take_root.branch [
      | in-NoObject w ↦ grind (arith, common_steps)
      | in-NoField w ↦ grind (arith, common_steps)
      | in-Word w ↦ grind (arith, common_steps)
    ] in
    λ m. subst (λ (r : Reply). Performs c.args.self.now m (Get (root_at c.args.d) (root_at c.args.s) c.args.i) r c.take_root.new.self) (sym shown) (c.take_root.ensures.performs m)
