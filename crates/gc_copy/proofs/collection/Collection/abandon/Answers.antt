-- No link is above the mark of the next epoch, since what it has above the mark of this one is an address.
use Rattle.std.proofs.Common.{◌≡◌, ◌+◌, ◌-◌, ◌*◌, ◌<◌, ap, subst, refl, arith}
use Rattle.gc_words.specs.Spelling.{link_at}
use Rattle.gc_copy.specs.Words.{CollectionWords, IsCollection, mark_of}
use Rattle.gc_copy.proofs.OpenCollection.{link_tells}
use Rattle.gc_copy.proofs.collection.Collection.abandon.Goals as goal

pub returns-clause-links : goal.returns-clause-links
returns-clause-links c = λ a start.
    let same : c.self.inside.epoch ≡ c.args.self.epoch = ap (λ (y : CollectionWords). y.epoch) c.self.view_is in
    let small : link_at c.args.heap.now.space.words a - c.args.self.epoch * 4294967296 < 4294967296
    = (link_tells c.args.heap.now c.args.self a _ (subst IsCollection c.self.view_is c.self.invariant.0) c.requires.belongs start refl).small in
    let mark : mark_of (c.self.inside.epoch + 1) ≡ c.args.self.epoch * 4294967296 + 4294967296 = omega (arith, same) in
    omega (arith, small, mark)
