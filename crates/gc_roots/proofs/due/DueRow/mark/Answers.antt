-- The summary has a mark for the word that got one.
use Rattle.std.proofs.Common.{◌/◌, arith, ap, length}
use Rattle.gc_roots.proofs.Rows.{read_back, mark_row_by}
use Rattle.gc_roots.proofs.due.DueRow.mark.Goals as goal

pub invariant_of-self : goal.invariant_of-self
invariant_of-self c = mark_row_by c.self.inside.bits.items c.self.inside.sums.items c.self.inside.low c.args.place _ c.index_mut.result.now c.index_mut-2.result.now c.self.invariant (omega (arith, ap length c.self.view_is)) (read_back c.self.inside.bits.items (c.args.place / 64) c.index_mut.result.now (omega (arith, ap length c.self.view_is)) c.index_mut.ensures.value) (read_back c.self.inside.sums.items (c.args.place / 64 / 64) c.index_mut-2.result.now (omega (arith, ap length c.self.view_is, c.self.invariant.room)) c.index_mut-2.ensures.value) (omega arith) (omega arith)

pub invariant_of-self-else-word-self : goal.invariant_of-self-else-word-self
invariant_of-self-else-word-self c = mark_row_by c.self.inside.bits.items c.self.inside.sums.items c.self.inside.low c.args.place _ c.index_mut.result.now c.index_mut-2.result.now c.self.invariant (omega (arith, ap length c.self.view_is)) (read_back c.self.inside.bits.items (c.args.place / 64) c.index_mut.result.now (omega (arith, ap length c.self.view_is)) c.index_mut.ensures.value) (read_back c.self.inside.sums.items (c.args.place / 64 / 64) c.index_mut-2.result.now (omega (arith, ap length c.self.view_is, c.self.invariant.room)) c.index_mut-2.ensures.value) (omega arith) (omega arith)
