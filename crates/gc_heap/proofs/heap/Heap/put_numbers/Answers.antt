-- The object has this header, so the written fields are what a `Put` of each number leaves.
use Rattle.std.proofs.Common.{◌≡◌, Some, sym, subst}
use Rattle.gc_words.specs.Image.{header_at}
use Rattle.gc_heap.specs.contracts.heap.Heap.{the_view}
use Rattle.gc_heap.specs.Heap.{HeapWords}
use Rattle.gc_heap.proofs.Numbers.{HasNumbers, all_put, has_fields}
use Rattle.gc_heap.proofs.heap.Heap.put_numbers.Goals as goal

pub set_fields-requires : goal.set_fields-requires
set_fields-requires c =
    let h : HeapWords = the_view c.self.inside in
    has_fields h c.args.object.0 c.args.first _ c.args.header c.self.invariant (subst (λ (g : HeapWords). header_at g.space.words c.args.object.0 ≡ Some c.args.header) (sym c.self.view_is) c.requires.header) c.requires.fields

written : (c : goal.After-set_fields) → HasNumbers c.args.self.now c.args.p c.args.object.0 c.args.first c.args.header c.args.numbers.now (record (the_view c.self.inside) { space = c.set_fields.new.self })
written c =
    all_put (the_view c.self.inside) c.args.self.now c.set_fields.new.self c.args.p c.args.object.0 c.args.first c.args.header c.args.numbers.now c.self.view_is c.self.invariant c.requires.target c.requires.header c.requires.raw c.requires.fields c.requires.numbers
    c.set_fields.ensures.words

pub invariant_of-self : goal.invariant_of-self
invariant_of-self c = (written c).heap

pub returns-clause-puts : goal.returns-clause-puts
returns-clause-puts c = (written c).puts

pub returns-clause-header : goal.returns-clause-header
returns-clause-header c = (written c).kept

pub returns-clause-sound : goal.returns-clause-sound
returns-clause-sound c = (written c).heap
