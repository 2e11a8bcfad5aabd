-- The words stay where they are, so all objects can be old, and no field can refer to a young one.
use Rattle.gc_nursery.proofs.Stands.{in_place}
use Rattle.gc_nursery.proofs.laws.young_objects_may_grow_old_in_place.Goals as goal

pub returns : goal.returns
returns c size front young roots remembered standing = in_place size front young roots remembered standing
