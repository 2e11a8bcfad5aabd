-- What calls by address do, and where a mutator stands in flips.
use Rattle.std.specs.Prelude.{◌≡◌, ◌≤◌, ℕ, true, false, Option, Some, None, IsSomeAnd, ⊤}
use Rattle.gc_graph.specs.Graph.{name_of, root}
use Rattle.gc_graph.specs.declared.reply.Reply.{Reply}
use Rattle.gc_heap.specs.Heap.{HeapWords, graph_in, roomy_in}
use Rattle.gc_concurrent.specs.Ends.{Beginning}
use Rattle.gc_concurrent.specs.Holders.{beginning_held, beginning_of, moves_in, situation_in}
use Rattle.gc_concurrent.specs.Moves.{MovesWords, Situation, StaysOrFlips}
use Rattle.gc_concurrent.specs.Referring.{root_refers}
use Rattle.gc_concurrent.specs.Unreachable.{CopiesNothingUnreachable}
use Rattle.gc_concurrent.specs.Waiters.{situation_left}
use Rattle.gcflip_beside_c.specs.HandleStage.{HandleStage, runs, parked, works, holds}
use Rattle.gcflip_beside_c.specs.declared.end.End.{End}
use Rattle.gcflip_beside_c.specs.declared.end.End.TheVariants as ends

-- ---- one heap

-- the address of the object to which the root at this place refers
abbrev pub address_of_root : HeapWords → ℕ → Option ℕ
address_of_root heap p = name_of (root (graph_in heap) p)

-- root d takes a reference to the object at this address, if there is one
abbrev pub Refers : ℕ → ℕ → HeapWords → Reply → HeapWords → Type 0
Refers d address old reply new = root_refers (roomy_in old) d address ≡ (reply, roomy_in new)

-- ---- flips

-- what a mutator knows of flips: where the last one moved objects, and how many there were
abbrev pub moves_of_end : End → Option MovesWords
moves_of_end (ends.Running r) = Some (moves_in r.commander)
moves_of_end (ends.Parked w) = Some (situation_left w).moves
moves_of_end end = None

abbrev pub moves_at : Option End → Option MovesWords
moves_at None = None
moves_at (Some end) = moves_of_end end

-- the mutator has gone through a flip
abbrev pub HasFlipped : Option MovesWords → Type 0
HasFlipped moves = IsSomeAnd moves (λ m. 1 ≤ m.flips)

-- the flips of a mutator that runs
abbrev pub flips_in : HandleStage → Option MovesWords → ℕ
flips_in (runs heap) (Some moves) = moves.flips
flips_in s moves = 0

-- what a mutator takes through a safepoint: its heap, what it knows of flips, how the collection began, and the length of its log
abbrev pub situation_of_end : End → Option Situation
situation_of_end (ends.Running r) = Some (situation_in r.commander)
situation_of_end (ends.Parked w) = Some (situation_left w)
situation_of_end end = None

abbrev pub situation_at : Option End → Option Situation
situation_at None = None
situation_at (Some end) = situation_of_end end

-- A mutator that had stopped and runs now finds all as it was, but that the collector may have taken its log, or has gone through one flip, after which its
-- moves tell where each object went. Otherwise all stays.
abbrev pub ComesThrough : HandleStage → Option Situation → HandleStage → Option Situation → Type 0
ComesThrough (parked heap) (Some old) (runs later) (Some new) = StaysOrFlips old new
ComesThrough before old after new = new ≡ old

-- ---- references by address

-- How the collection began for a mutator that runs, or that a collector holds: its heap then, and whether the mutator has made a reference by address since.
abbrev pub beginning_of_end : End → Option Beginning
beginning_of_end (ends.Running r) = Some (beginning_of r.commander)
beginning_of_end (ends.Holding h) = Some (beginning_held h.held)
beginning_of_end end = None

abbrev pub beginning_at : Option End → Option Beginning
beginning_at None = None
beginning_at (Some end) = beginning_of_end end

-- the mutator has made a reference by address since
abbrev pub after_refer : Option Beginning → Option Beginning
after_refer (Some b) = Some (record b { referred = true })
after_refer None = None

-- Where the collector held its mutator and works beside it now, it has flipped. It copied nothing that was unreachable when the collection began, unless the
-- mutator made a reference by address since.
abbrev pub CarriesReachable : HandleStage → Option Beginning → HandleStage → Type 0
CarriesReachable (holds t heap) (Some begun) (works u) = begun.referred ≡ false → CopiesNothingUnreachable t
CarriesReachable before begun after = ⊤
