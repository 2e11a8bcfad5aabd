-- What a flip shows its checker, and the pair of heaps that the checker accepts.
use Rattle.std.specs.Prelude.{◌≡◌, ◌≢◌, ◌≤◌, ℕ, length, Option, None, IfSome, IsSomeAnd, IsTrue}
use Rattle.std.specs.Option.{option_map, option_map_or}
use Rattle.gc_words.specs.Certificate.{Certified}
use Rattle.gc_monitor.specs.Outline.{ImageOutline, outline_of}
use Rattle.gc_cert.specs.Grammar.{CertifiedPair}
use Rattle.gc_model.specs.State.{State, Collection, pairs_of}
use Rattle.gc_model.specs.Steps.{is_ready}
use Rattle.gc_model.specs.Linked.{old_image, new_image}
use Rattle.gc_copy.specs.Words.{RoomWords, TellsMoves, held_in}
use Rattle.gc_model.specs.declared.step.StepReply.{StepReply}
use Rattle.gc_model.specs.declared.step.StepReply.TheVariants.{Begun, NoRoom, Flipped}
use Rattle.gc_collected.specs.declared.flip.Keep.{Keep}
use Rattle.gc_collected.specs.declared.flip.Keep.TheVariants.{Pair, Room}

-- ---- the pair of a flip

-- both images, links included, and the pairs
abbrev pub flip_pair : State → Collection → CertifiedPair
flip_pair s c = record { old = old_image s c; new = new_image s c; pairs = pairs_of c }

abbrev pub IsCertified : CertifiedPair → Type 0
IsCertified pair = Certified pair.old pair.new pair.pairs

-- the pair kept after a step that gets this reply in this state; `kept` is the one kept before
abbrev pub kept_after : Option CertifiedPair → State → StepReply → Option CertifiedPair
kept_after kept s (Flipped pairs) = option_map (flip_pair s) s.collection
kept_after kept s reply = kept

-- if the reply is `Flipped`, `says` holds of the flip's pair
abbrev pub FlipsOnly : (CertifiedPair → Type 0) → State → StepReply → Type 0
FlipsOnly says s reply = (pairs : ℕ) → reply ≡ Flipped pairs → IfSome s.collection (λ c. says (flip_pair s c))

-- if the open collection is ready, the reply is `Flipped` with the number of its pairs
abbrev pub PassesIfReady : State → StepReply → Type 0
PassesIfReady s reply = IfSome s.collection (λ c. IsTrue (is_ready c s.heap.graph) → reply ≡ Flipped (length c.replicas))

-- if the new space is at least as large as the old one, the reply is not `NoRoom`
abbrev pub HasRoomIfLarge : State → StepReply → Type 0
HasRoomIfLarge s reply = IfSome s.collection (λ c. s.size ≤ c.size → reply ≢ NoRoom)

-- a checker that went along accepts the outlines of the pair's images
abbrev pub HasAccepted : (ImageOutline → ImageOutline → Type 0) → CertifiedPair → Type 0
HasAccepted accepted pair = accepted (outline_of pair.old) (outline_of pair.new)

-- ---- what a step leaves

-- the words of the open collection's new space, if there is one
abbrev pub new_size : State → ℕ
new_size s = option_map_or (λ (c : Collection). c.size) s.collection 0

-- the room tells the pairs of the collection that is open in this state
abbrev pub TellsOpen : State → Option RoomWords → Type 0
TellsOpen s room = IfSome s.collection (λ c. IsSomeAnd room (TellsMoves s.heap.graph (pairs_of c)))

-- What is left of the last flip's old space after a step that gets this reply in this state. A flip whose pair is not to be kept leaves its own,
-- and a begin none. Any other step leaves it as it was.
abbrev pub FormerAfter : Keep → State → Option RoomWords → StepReply → Option RoomWords → Type 0
FormerAfter Room s old (Flipped pairs) new = TellsOpen s new × (held_in new ≡ s.size)
FormerAfter keep s old Begun new = new ≡ None
FormerAfter keep s old reply new = new ≡ old

-- the pair that is kept after a step that gets this reply in this state
abbrev pub pair_after : Keep → Option CertifiedPair → State → StepReply → Option CertifiedPair
pair_after Pair kept s reply = kept_after kept s reply
pair_after Room kept s reply = kept
