-- The heap's graph fits its space, so the model's law about room applies to words.
use Rattle.gc_copy.proofs.LargeSpaces.{words_have_room}
use Rattle.gc_copy.proofs.laws.new_spaces_have_room.Goals as goal

pub returns : goal.returns
returns c = words_have_room
