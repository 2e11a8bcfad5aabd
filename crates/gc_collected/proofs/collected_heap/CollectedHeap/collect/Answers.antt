-- A step that is not a flip has another reply, so no checker had to accept anything.
use Rattle.gc_monitor.specs.Claims.{Accepts}
use Rattle.gc_collected.specs.Flip.{HasAccepted}
use Rattle.gc_collected.proofs.Stepped.{apply_plain, begun_flips, drop_plain, plain_flips, roots_plain, scan_plain}
use Rattle.gc_collected.proofs.collected_heap.CollectedHeap.collect.Goals as goal

pub returns-in-Begin-clause-along : goal.returns-in-Begin-clause-along
returns-in-Begin-clause-along g c none = begun_flips (λ t. HasAccepted (Accepts t)) c.args.self.now.core c.begin.result c.begin.ensures.reply

pub returns-in-BeginSized-clause-along : goal.returns-in-BeginSized-clause-along
returns-in-BeginSized-clause-along g c none = begun_flips (λ t. HasAccepted (Accepts t)) c.args.self.now.core c.begin_sized.result c.begin_sized.ensures.reply

pub returns-in-Roots-clause-along : goal.returns-in-Roots-clause-along
returns-in-Roots-clause-along g c none = plain_flips (λ t. HasAccepted (Accepts t)) c.args.self.now.core c.roots.result (roots_plain c.args.self.now.core c.roots.result _ c.roots.ensures.step)

pub returns-in-Scan-clause-along : goal.returns-in-Scan-clause-along
returns-in-Scan-clause-along g c none = plain_flips (λ t. HasAccepted (Accepts t)) c.args.self.now.core c.scan.result (scan_plain c.args.self.now.core c.scan.result _ c.scan.ensures.step)

pub returns-in-Apply-clause-along : goal.returns-in-Apply-clause-along
returns-in-Apply-clause-along g c none = plain_flips (λ t. HasAccepted (Accepts t)) c.args.self.now.core c.apply_log.result (apply_plain c.args.self.now.core _ c.apply_log.result _ c.apply_log.ensures.step)

pub returns-in-Drop-clause-along : goal.returns-in-Drop-clause-along
returns-in-Drop-clause-along g c none = plain_flips (λ t. HasAccepted (Accepts t)) c.args.self.now.core c.give_up.result (drop_plain c.args.self.now.core c.give_up.result _ c.give_up.ensures.step)
