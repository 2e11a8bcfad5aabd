-- The heap stays as it is, and the number and the view are those of the reply.
use Rattle.std.proofs.Common.{◌≡◌, ◌<◌, length, Some, ap, sym, ◌∙◌, subst, arith}
use Rattle.gc_heap.specs.Heap.{HeapWords}
use Rattle.gc_concurrent.specs.Bulk.{Peeks}
use Rattle.gc_concurrent.specs.Holders.{heap_in}
use Rattle.gc_in_c.specs.Replies.{reply_in_c, view_after}
use Rattle.gcflip_beside_c.specs.Bulk.{TellsReply}
use Rattle.gcflip_beside_c.specs.declared.handle.GcflipEnd.{GcflipEnd}
use Rattle.gcflip_beside_c.specs.Commands.{IsBesideCall, field_numbered}
use Rattle.gcflip_beside_c.specs.HandleStage.{runs, stage}
use Rattle.gcflip_beside_c.proofs.bulk.gcflip_beside_peek.Goals as goal

pub returns-clause-call : goal.returns-clause-call
returns-clause-call c =
    let h : HeapWords = heap_in c.in-Running.runner.commander in
    let new : HeapWords = heap_in c.peek_root.new.self in
    let made = c.of_look.ensures.made in
    let less : c.args.s < length h.roots = omega (arith, c.if-s-count_roots.false, c.count_roots.ensures) in
    let before : stage c.args.mutator.now.end ≡ runs h = ap (λ (m : GcflipEnd). stage m.end) (sym c.is_empty.ensures.1) ∙ ap stage (c.end_mut.ensures.value ∙ ap (λ e. Some e) c.in-Running.is) in
    subst (λ s. IsBesideCall (λ roots. c.args.s < roots)
    (TellsReply (λ heap reply. Peeks c.args.s (field_numbered c.args.i) heap reply × (c.of_look.result ≡ reply_in_c reply) × (c.of_look.new.view ≡ view_after c.args.view.now reply))) s (runs new) c.of_look.result) (sym before)
    (record {
      done = λ fine. (c.peek_root.ensures.heap, c.peek_root.result, (subst (λ i. Peeks c.args.s i h c.peek_root.result) c.field.ensures c.peek_root.ensures.step, c.of_look.ensures.value, c.of_look.ensures.view));
      refused = λ r. absurd (made r);
      answers = λ r. absurd (made r);
      outside = (λ e. absurd (made (omega (arith, e), omega (arith, e))), λ x. absurd (x.1 less));
      stopped = (λ e. absurd (made (omega (arith, e), omega (arith, e))), λ x. absurd x);
      closed = (λ e. absurd (made (omega (arith, e), omega (arith, e))), λ x. absurd (x.0 tt));
    })
