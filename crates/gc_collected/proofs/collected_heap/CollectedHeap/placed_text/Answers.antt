-- An object with a text lies below the end.
use Rattle.std.proofs.Common.{◌≡◌, ℕ, Option, Some, ap, sym, ◌∙◌}
use Rattle.std.specs.Option.{option_and_then, option_map}
use Rattle.gc_graph.specs.Graph.{lookup, name_of, root}
use Rattle.gc_words.specs.declared.value.OldAddr.{OldAddr}
use Rattle.gc_collected.specs.Bytes.{text_of_object}
use Rattle.gc_collected.proofs.Texts.{text_below}
use Rattle.gc_collected.proofs.collected_heap.CollectedHeap.placed_text.Goals as goal
use Rattle.gc_collected.proofs.collected_heap.CollectedHeap.placed_text.Goals.{After-len}

-- the object has the text
text : (c : After-len) → text_of_object (lookup c.args.self.now.core.heap.graph.objects c.in_ok-object.object.0) ≡ Some c.in_ok-text.text
text c =
    let g = c.args.self.now.core.heap.graph in
    let name : Some c.in_ok-object.object.0 ≡ name_of (root g c.args.s) = ap (option_map (λ (a : OldAddr). a.0)) (sym c.in_ok-object.was) ∙ c.address_root.ensures in
    ap (λ (n : Option ℕ). text_of_object (option_and_then (lookup g.objects) n)) name ∙ sym c.text_root.ensures.text ∙ c.in_ok-text.was

pub returns-clause-apart : goal.returns-clause-apart
returns-clause-apart c = text_below c.args.self.now.core c.in_ok-object.object.0 c.in_ok-text.text c.is_sound.ensures.heap (text (goal.at.returns-clause-apart c).After-len)
