-- What the two ends know together, as a state of gc_model.
use Rattle.std.specs.Prelude.{[], ◌∷◌, Some}
use Rattle.gc_words.specs.Space.{image_with}
use Rattle.gc_words.specs.Image.{roomy_of}
use Rattle.gc_model.specs.State.{Collection, State}
use Rattle.gc_concurrent.specs.Ends.{Mine, Theirs}

abbrev pub collection_of : Mine → Theirs → Collection
collection_of mine t = record { size = t.size; replicas = t.replicas; logs = mine.log ∷ t.due ∷ []; scan_place = t.scan_place; scan_field = t.scan_field }

abbrev pub plan : Mine → Theirs → State
plan mine t = record { mutators = 2; size = mine.space.size; heap = roomy_of (image_with mine.space []); collection = Some (collection_of mine t) }
