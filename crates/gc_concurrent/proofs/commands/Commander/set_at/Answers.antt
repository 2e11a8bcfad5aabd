-- A root takes a word whose target may be copied.
use Rattle.gc_heap.proofs.Public.{taken_heap}
use Rattle.gc_concurrent.specs.Holders.{heap_in}
use Rattle.gc_concurrent.specs.Unreachable.{MayBeCopied}
use Rattle.gc_concurrent.proofs.Keeping.{rooted_leads}
use Rattle.gc_concurrent.proofs.commands.Commander.set_at.Goals as goal

pub invariant_of-self-clause-leads : goal.invariant_of-self-clause-leads
invariant_of-self-clause-leads c =
    let m = c.args.self.now.mutator.seat.me.0.mine in
    rooted_leads (MayBeCopied m.base) m.space c.args.self.now.roots.items c.args.place c.args.word c.args.self.now.leads c.requires.allowed

pub invariant_of-self-clause-sound : goal.invariant_of-self-clause-sound
invariant_of-self-clause-sound c =
    taken_heap (heap_in c.args.self.now) c.args.place c.args.word c.args.self.now.sound c.requires.word
