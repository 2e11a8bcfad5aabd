-- Properties of a heap with an open collection that belongs to it.
use Rattle.std.specs.Prelude.{◌≡◌, ◌≢◌, ◌↔◌, ◌≤◌, ◌<◌, ◌*◌, length, Some, IsTrue}
use Rattle.gc_words.specs.Image.{IsShaped, roomy_of}
use Rattle.gc_words.specs.Certificate.{Certified}
use Rattle.gc_model.specs.State.{Collection, State, new_graph, pairs_of}
use Rattle.gc_model.specs.Linked.{image_of_graph}
use Rattle.gc_model.specs.Steps.{is_ready, scan_done, flipped, collect}
use Rattle.gc_model.specs.declared.step.Step.{Step}
use Rattle.gc_model.specs.declared.step.Step.TheVariants as steps
use Rattle.gc_model.specs.declared.step.StepReply.TheVariants.{Clean, NoRoom, Refused, Flipped}

-- the heap's image is shaped, and its graph and its number of free words are those of the heap
pub record HasImage (s : State) : Type 0 where
  pub shaped : IsShaped (image_of_graph s.size s.heap.graph)
  pub roomy : roomy_of (image_of_graph s.size s.heap.graph) ≡ s.heap

-- the collection's pairs are a certificate that holds of its images, and its flip succeeds
pub record Passes (s : State) (c : Collection) : Type 0 where
  pub certified : Certified (image_of_graph s.size s.heap.graph) (image_of_graph c.size (new_graph c s.heap.graph.roots)) (pairs_of c)
  pub flips : collect s steps.Flip ≡ (Flipped (length c.replicas), flipped s c)

abbrev pub PassesWhereReady : State → Type 0
PassesWhereReady s = (c : Collection) → s.collection ≡ Some c → IsTrue (is_ready c s.heap.graph) → Passes s c

abbrev pub NeverRefused : State → Type 0
NeverRefused s = (step : Step) → (collect s step).0 ≢ Refused

-- if the new space is at least as large as the old one, no replica lacks room
abbrev pub AlwaysHasRoom : State → Type 0
AlwaysHasRoom s = (c : Collection) → s.collection ≡ Some c → s.size ≤ c.size → (step : Step) → (collect s step).0 ≢ NoRoom

-- `Scan` replies `Clean` exactly if the scan pointer is at the new end
abbrev pub ScansToTheEnd : State → Type 0
ScansToTheEnd s = (c : Collection) → s.collection ≡ Some c → ((collect s steps.Scan).0 ≡ Clean) ↔ IsTrue (scan_done c)

-- there are no more pairs than the new space can have objects: each takes at least two words, and word 0 belongs to none
abbrev pub HasFewPairs : State → Type 0
HasFewPairs s = (c : Collection) → s.collection ≡ Some c → 2 * length (pairs_of c) < c.size
