-- Fields that are copied from one object to another in one call, and fields that all take one value.
use Rattle.std.specs.Prelude.{ℕ, zero, suc, ◌+◌, ◌-◌, nat_le, Bool, ◌&&◌, ◌||◌, not, if◌then◌else◌, List, length, Option, Some, None, slice_range}
use Rattle.std.specs.Option.{unwrap_or}
use Rattle.std.specs.List.{list_all}
use Rattle.gc_graph.specs.Slots.{SlotName, place}
use Rattle.gc_graph.specs.Graph.{Value, Nil, Object, Graph, field_of, object_of, root}
use Rattle.gc_graph.specs.Machine.{is_number}
use Rattle.gc_graph.specs.declared.command.Op.TheVariants.{Get, Put}
use Rattle.gc_graph.specs.declared.reply.Reply.{Reply}
use Rattle.gc_graph.specs.declared.reply.Reply.TheVariants.{Done, NoObject, NoField, NoNumber}
use Rattle.gc_heap.specs.Places.{root_at}
use Rattle.gc_model.specs.State.{State}
use Rattle.gc_model.specs.Steps.{mutate}
use Rattle.gc_collected.specs.Values.{put_value_step}
use Rattle.gc_collected.specs.Writing.{after_reply}

-- the object that mutator m's slot refers to
abbrev pub object_in : Graph → SlotName → ℕ → Option Object
object_in g slot m = object_of g.objects (root g (place slot m))

-- the values in so many fields of an object, from field j on
abbrev pub values_in : Object → ℕ → ℕ → List Value
values_in object j count = slice_range object.fields j (j + count)

-- the object takes these values into its fields: any, or only numbers if it is raw
abbrev pub takes_values : Object → List Value → Bool
takes_values object values = not object.raw || list_all is_number values

-- the reply: whether there are two objects, both have the fields, and the first takes the values of the second
abbrev pub copy_reply : ℕ → ℕ → ℕ → Option Object → Option Object → Reply
copy_reply to from count (Some target) (Some source) =
    if nat_le (to + count) (length target.fields) && nat_le (from + count) (length source.fields)
    then (if takes_values target (values_in source from count) then Done else NoNumber)
    else NoField
copy_reply to from count target source = NoObject

-- So many fields are copied: from field j on, of the object in slot s, to field i and on of that in slot d. For each field this is a
-- `Get` into t and a `Put` of t, in rising order.
abbrev pub copy_step : State → ℕ → SlotName → ℕ → SlotName → ℕ → SlotName → ℕ → State
copy_step old m d i s j t zero = old
copy_step old m d i s j t (suc count) = copy_step (mutate (mutate old m (Get t s j)).1 m (Put d i t)).1 m d (suc i) s (suc j) t count

-- a call that copies all of these fields or none
abbrev pub copy_fields_step : State → ℕ → SlotName → ℕ → SlotName → ℕ → SlotName → ℕ → Reply × State
copy_fields_step old m d to s from t count =
    let reply = copy_reply to from count (object_in old.heap.graph d m) (object_in old.heap.graph s m) in
    (reply, after_reply reply old (copy_step old m d to s from t count))

-- ---- by places, and through no root

-- the value in field j of the object in root q
abbrev pub value_in : Graph → ℕ → ℕ → Value
value_in g q j = unwrap_or (field_of (object_of g.objects (root g q)) j) Nil

-- So many fields are copied: from field j on, of the object in root q, to field i and on of that in root p. Each takes, in rising order, the value that
-- the other field has then.
abbrev pub values_step : State → ℕ → ℕ → ℕ → ℕ → ℕ → ℕ → State
values_step s m p i q j zero = s
values_step s m p i q j (suc count) = values_step (put_value_step s m p i (value_in s.heap.graph q j)).1 m p (suc i) q (suc j) count

-- a call that copies all of these fields or none
abbrev pub copy_values_step : State → ℕ → ℕ → ℕ → ℕ → ℕ → ℕ → Reply × State
copy_values_step old m p to q from count =
    let reply = copy_reply to from count (object_in old.heap.graph (root_at p) m) (object_in old.heap.graph (root_at q) m) in
    (reply, after_reply reply old (values_step old m p to q from count))

-- the reply: whether there is an object, it has so many fields, and it takes the value
abbrev pub fill_reply : ℕ → Value → Option Object → Reply
fill_reply to value None = NoObject
fill_reply to value (Some object) =
    if nat_le to (length object.fields) then (if not object.raw || is_number value then Done else NoNumber) else NoField

-- so many fields of the object in root p, from field i on, take the value of root q, by a `Put` for each, in rising order
abbrev pub fills_step : State → ℕ → ℕ → ℕ → ℕ → ℕ → State
fills_step s m p i zero q = s
fills_step s m p i (suc count) q = fills_step (mutate s m (Put (root_at p) i (root_at q))).1 m p (suc i) count q

-- a call that fills the fields from `from` to the one before `to`, or none
abbrev pub fill_fields_step : State → ℕ → ℕ → ℕ → ℕ → ℕ → Reply × State
fill_fields_step old m p from to q =
    let reply = fill_reply to (root old.heap.graph q) (object_in old.heap.graph (root_at p) m) in
    (reply, after_reply reply old (fills_step old m p from (to - from) q))
