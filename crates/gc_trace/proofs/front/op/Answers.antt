-- A text that begins with the name of no command begins with no command.
use Rattle.std.proofs.Common.{arith}
use Rattle.gc_graph.specs.declared.command.Op.TheVariants as ops
use Rattle.gc_trace.specs.Grammar.{op_tokens}
use Rattle.gc_trace.proofs.front.op.Goals as goal

pub returns-in_default-clause-found : goal.returns-in_default-clause-found
unfolding op_tokens
returns-in_default-clause-found c (ops.New d kind len) more fits is = grind arith
returns-in_default-clause-found c o more fits is = grind arith
