-- A collection is ready exactly if no log has an entry, the scan is done and the roots are done; then its certificate holds.
use Rattle.std.proofs.Common.{◌≡◌, true, false, sym, ◌∙◌, subst}
use Rattle.gc_heap.specs.Heap.{graph_in}
use Rattle.gc_copy.specs.Words.{IsCollection, collection_in}
use Rattle.gc_copy.proofs.Applying.{ready_where, unready_logs, unready_scan}
use Rattle.gc_copy.proofs.collection.Collection.ready_with.Goals as goal
use Rattle.gc_copy.proofs.collection.Collection.ready_with.Goals.{then-is_none, else-is_none}

pub returns-then-scan_done-clause-ready : goal.returns-then-scan_done-clause-ready
returns-then-scan_done-clause-ready c =
    elim c.if-is_none.branch [
      | then-is_none w ↦ ready_where (collection_in c.args.self.now) (graph_in c.args.heap.now) c.next_log.result c.args.roots_done c.next_log.ensures w.if-is_none.ensures (sym w.scan_done.ensures ∙ sym w.value-is ∙ c.if-scan_done.true) c.requires.done
      | else-is_none w ↦ absurd (let no : true ≡ false = sym c.if-scan_done.true ∙ w.value-is ∙ w.if-is_none.false in cc)
    ]

pub returns-else-scan_done-clause-ready : goal.returns-else-scan_done-clause-ready
returns-else-scan_done-clause-ready c =
    elim c.if-is_none.branch [
      | then-is_none w ↦ c.if-scan_done.false ∙ unready_scan (collection_in c.args.self.now) (graph_in c.args.heap.now) c.next_log.result c.next_log.ensures w.if-is_none.ensures (sym w.scan_done.ensures ∙ sym w.value-is ∙ c.if-scan_done.false)
      | else-is_none w ↦ c.if-scan_done.false ∙ unready_logs (collection_in c.args.self.now) (graph_in c.args.heap.now) c.next_log.result c.next_log.ensures w.if-is_none.ensures
    ]

pub returns-then-scan_done-clause-certified : goal.returns-then-scan_done-clause-certified
returns-then-scan_done-clause-certified c = λ t.
    let sound : IsCollection c.args.self.now = subst IsCollection c.self.view_is c.self.invariant.0 in
    c.images_show_links.ensures.certified c.args.heap.now c.args.self.now c.space.ensures.sound sound c.requires.belongs (sym (returns-then-scan_done-clause-ready c) ∙ t)

pub returns-else-scan_done-clause-certified : goal.returns-else-scan_done-clause-certified
returns-else-scan_done-clause-certified c = λ t. absurd (let no : false ≡ true = sym c.if-scan_done.false ∙ t in cc)
