-- No step takes a replica away.
use Rattle.gc_concurrent.specs.Holders.{known_to}
use Rattle.gc_concurrent.proofs.Turn.{root_replica, roots_placed}
use Rattle.gc_concurrent.proofs.held.Held.work.Goals as goal

pub returns-clause-rooted : goal.returns-clause-rooted
returns-clause-rooted c done =
    let h = c.args.self.now in
    roots_placed (known_to c.work.new.self) h.roots.items (λ k a l is. c.work.ensures.seat.replicas a (root_replica (known_to h.copier) h.roots.items done k a l is))
