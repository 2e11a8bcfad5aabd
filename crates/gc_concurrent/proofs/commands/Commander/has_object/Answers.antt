-- No object starts behind the end.
use Rattle.std.proofs.Common.{sym, arith}
use Rattle.gc_concurrent.proofs.Marking.{none_behind}
use Rattle.gc_concurrent.proofs.commands.Commander.has_object.Goals as goal

pub returns-then-a-self : goal.returns-then-a-self
returns-then-a-self c = let e = c.args.self.now.ended in sym (none_behind c.args.self.now.mutator.seat.me.0.mine.space c.args.a.0 c.args.self.now.sound.space (omega (arith, e, c.if-a-self.true)))
