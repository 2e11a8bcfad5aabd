-- The steps that allocate, the outcome of `fetch`, and commands that make an object and fill its fields.
use Rattle.std.specs.Prelude.{◌≡◌, ℕ, zero, suc, List, [], ◌∷◌, length, None, IsSomeAnd, IsTrue, ⊤}
use Rattle.gc_graph.specs.Slots.{SlotName}
use Rattle.gc_graph.specs.declared.command.Op.TheVariants.{New, Get, Put}
use Rattle.gc_graph.specs.declared.reply.Reply.{Reply}
use Rattle.gc_graph.specs.declared.reply.Reply.TheVariants.{Full}
use Rattle.gc_heap.specs.Commands.{fetched_of}
use Rattle.gc_heap.specs.Places.{root_at}
use Rattle.gc_heap.specs.declared.taken.Fetched.{Fetched}
use Rattle.gc_heap.specs.declared.taken.Fetched.TheVariants.{NoObject, NoField}
use Rattle.gc_model.specs.State.{State}
use Rattle.gc_model.specs.Steps.{mutate, is_ready}
use Rattle.gc_model.specs.declared.step.Step.{Step}
use Rattle.gc_model.specs.declared.step.Step.TheVariants.{Begin, BeginSized, Flip}

-- in this state the step allocates: it opens a collection and none is open, or it flips a ready collection
abbrev pub Allocates : State → Step → Type 0
Allocates s Begin = s.collection ≡ None
Allocates s (BeginSized size) = s.collection ≡ None
Allocates s Flip = IsSomeAnd s.collection (λ c. IsTrue (is_ready c s.heap.graph))
Allocates s step = ⊥

-- mutator m's `Get` leads from the old state to the new one, and `fetched` is what its reply shows without an
-- object's kind and length
abbrev pub Fetches : State → ℕ → SlotName → SlotName → ℕ → Fetched → State → Type 0
Fetches old m d s i fetched new = (reply : Reply) × (mutate old m (Get d s i) ≡ (reply, new)) × (fetched ≡ fetched_of reply)

-- a `Get` with this outcome found no value
abbrev pub HasMissed : Fetched → Type 0
HasMissed NoObject = ⊤
HasMissed NoField = ⊤
HasMissed fetched = ⊥

-- the fields from i on take the values of these slots: one `Put` for each slot, in order
abbrev pub fill_step : State → ℕ → SlotName → ℕ → List SlotName → State
fill_step s m d i [] = s
fill_step s m d i (t ∷ rest) = fill_step (mutate s m (Put d i t)).1 m d (suc i) rest

-- the fields are filled, unless there was no room for the object
abbrev pub filled : Reply → State → ℕ → SlotName → List SlotName → State
filled Full made m d fields = made
filled reply made m d fields = fill_step made m d 0 fields

-- a new object whose fields take the values of these slots: the reply to its `New`, and the state after all commands
abbrev pub new_from_step : State → ℕ → SlotName → ℕ → List SlotName → Reply × State
new_from_step old m d kind fields =
    let made = mutate old m (New d kind (length fields)) in
    (made.0, filled made.0 made.1 m d fields)

-- so many roots in a row, by their places, from place p on
abbrev pub roots_from : ℕ → ℕ → List SlotName
roots_from p zero = []
roots_from p (suc n) = root_at p ∷ roots_from (suc p) n
