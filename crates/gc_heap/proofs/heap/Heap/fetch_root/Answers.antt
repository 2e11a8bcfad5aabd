-- What was fetched is the reply to the `Get`, without the kind and the length of an object.
use Rattle.std.proofs.lemmas.Grind.{common_steps}
use Rattle.std.proofs.Common.{◌≡◌, arith}
use Rattle.gc_heap.specs.Commands.{fetched_of}
use Rattle.gc_heap.specs.Internal.Taken.{taken_reply}
use Rattle.gc_heap.proofs.heap.Heap.fetch_root.Goals as goal
use Rattle.gc_heap.proofs.heap.Heap.fetch_root.Goals.{in-NoObject, in-NoField, in-Word}

pub returns-clause-fetches : goal.returns-clause-fetches
returns-clause-fetches c =
    let shown : c.match-take_root.result ≡ fetched_of (taken_reply c.args.self.now c.take_root.result) = elim c.match-take_root.branch [
      | in-NoObject w ↦ grind (arith, common_steps)
      | in-NoField w ↦ grind (arith, common_steps)
      | in-Word w ↦ grind (arith, common_steps)
    ] in
    λ m. (taken_reply c.args.self.now c.take_root.result, c.take_root.ensures.performs m, shown)
