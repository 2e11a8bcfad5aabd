-- The rule holds of the words as they are. Where no table can be shared, they come back as they were.
use Rattle.std.proofs.Common.{◌≡◌, ℕ, ◌/◌, ◌<◌, List, [], length, length-take-le, ap, sym, ◌∙◌, subst, arith}
use Rattle.atomic_table.specs.Seated.{TableId}
use Rattle.gc_words.specs.Space.{SpaceWords}
use Rattle.gc_heap.specs.Heap.{IsHeap}
use Rattle.gc_concurrent.specs.Ends.{one_heap, opening_view}
use Rattle.gc_concurrent.specs.Internal.Plain.{IsRowOfSpace, space_in}
use Rattle.gc_concurrent.specs.Internal.Rule.{Loose, Sat}
use Rattle.gc_concurrent.specs.Internal.Starts.{TellsStarts}
use Rattle.gc_concurrent.specs.declared.cells.CellsKey.{CellsKey}
use Rattle.gc_concurrent.proofs.Opening.{gives_back, opens_loose, opens_rule}
use Rattle.gc_concurrent.proofs.TiedCells.{Cells}
use Rattle.gc_concurrent.proofs.next.NextSpace.begin.Goals as goal
use Rattle.gc_concurrent.proofs.next.NextSpace.begin.Goals.{After-into_vec-words}

-- a heap in this space is one in the words up to the end
heap_there : (row roots : List ℕ) (end : ℕ) (t : SpaceWords) → space_in row end ≡ t → IsHeap (one_heap t roots) → IsHeap (one_heap (space_in row end) roots)
heap_there row roots end t is sound = subst (λ (x : SpaceWords). IsHeap (one_heap x roots)) (sym is) sound

pub of_vec-requires-clause-holds : goal.of_vec-requires-clause-holds
of_vec-requires-clause-holds c =
    let n = c.self.inside in
    opens_rule c.len-size.result n.end n.words.items n.starts.items c.args.roots.items c.self.invariant (let l = c.len-size.ensures in let o = n.words.ok.0 in omega arith)
    (heap_there n.words.items c.args.roots.items n.end c.args.self c.self.view_is c.requires.sound)

-- ---- cells that both ends own

pub invariant_of-result-2 : goal.invariant_of-result-2
invariant_of-result-2 c =
    let n = c.self.inside in
    let row : List ℕ = n.words.items in
    let roots : List ℕ = c.args.roots.items in
    let ok = c.in-Ok.ensures.ok in
    let one = c.in-Ok-new.ensures.ok in
    let two = c.in-Ok-try_clone.ensures ∙ one in
    let wide : length row ≡ c.len-size.result = (let l = c.len-size.ensures in let o = n.words.ok.0 in omega arith) in
    let space : c.in-Ok.made.1.me.0.mine.space ≡ space_in row n.end = ap (λ (m : Sat). m.0.mine.space) ok.4 in
    record {
      row = (ap (λ (t : Cells). t.shared.table_id) one ∙ sym ok.2, ap (λ (t : Cells). t.shared.table_id) two ∙ sym ok.2, ap (λ (i : TableId). i.words) ok.2 ∙ (ok.0 ∙ wide));
      keys = (ap (λ (t : Cells). t.shared.key.size) one ∙ ap (λ (k : CellsKey). k.size) ok.5, ap (λ (t : Cells). t.shared.key.size) two ∙ ap (λ (k : CellsKey). k.size) ok.5);
      began = ok.4 ∙ (λ i. (opening_view (one_heap (sym space i) roots) 1, []));
      loose = ∣ subst (λ (m : Sat). Loose m.0.theirs) (sym ok.4)
          (opens_loose c.len-size.result n.end row n.starts.items roots c.self.invariant wide (heap_there row roots n.end c.args.self c.self.view_is c.requires.sound)) ∣₁;
      sized = (sym wide ∙ sym (ap (λ (s : SpaceWords). s.size) space), sym (ap (λ (s : SpaceWords). length s.words) space ∙ length-take-le n.end row c.self.invariant.within));
      wide = subst (λ k. k / 64 < length n.starts.items) wide c.self.invariant.wide;
      marked = subst (TellsStarts n.starts.items) (sym (ap (λ (s : SpaceWords). s.words) space)) c.self.invariant.marked;
    }

-- the words that come back
back : (c : After-into_vec-words) → c.into_vec-words.result.items ≡ c.self.inside.words.items
back c =
    let n = c.self.inside in
    let size : c.in-Err-new.field-0.value.shared.key.size ≡ c.len-size.result = ap (λ (t : Cells). t.shared.key.size) c.in-Err-new.ensures.value_returned ∙ ap (λ (k : CellsKey). k.size) c.in-Ok.ensures.ok.5 in
    gives_back c.in-Err-new.field-0.value.shared.key.size _ n.end n.words.items n.starts.items c.args.roots.items c.into_vec-words.result.items _ c.self.invariant
    (let l = c.len-size.ensures in let o = n.words.ok.0 in omega arith) (ap (λ (m : Sat). m.0) c.in-Ok.ensures.ok.4) c.into_vec-words.ensures

pub invariant_of-result-in-Err-new : goal.invariant_of-result-in-Err-new
invariant_of-result-in-Err-new c = subst (λ ws. IsRowOfSpace ws c.self.inside.end c.self.inside.starts.items) (sym (back c)) c.self.invariant

pub returns-in-Err-new-clause-refused : goal.returns-in-Err-new-clause-refused
returns-in-Err-new-clause-refused c =
    let l = (goal.at.returns-in-Err-new-clause-refused c).After-into_vec-words in
    ap (λ ws. space_in ws c.self.inside.end) (back l) ∙ c.self.view_is
