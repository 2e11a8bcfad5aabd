-- The command is that of the value.
use Rattle.std.proofs.Common.{ℕ, sym, subst}
use Rattle.gc_heap.specs.Commands.{Performs}
use Rattle.gc_collected.specs.Internal.Values.{set_plain}
use Rattle.gc_collected.specs.declared.values.Plain.{Plain}
use Rattle.gc_collected.proofs.values.set_plain.Goals as goal

pub returns-in-Nil-clause-performs : goal.returns-in-Nil-clause-performs
returns-in-Nil-clause-performs c = subst (λ (v : Plain). (m : ℕ) → Performs c.args.heap.now m (set_plain c.args.d v) c.nil_root.result c.nil_root.new.self) (sym c.in-Nil.is) c.nil_root.ensures.performs

pub returns-in-Number-clause-performs : goal.returns-in-Number-clause-performs
returns-in-Number-clause-performs c = subst (λ (v : Plain). (m : ℕ) → Performs c.args.heap.now m (set_plain c.args.d v) c.num_root.result c.num_root.new.self) (sym c.in-Number.is) c.num_root.ensures.performs
