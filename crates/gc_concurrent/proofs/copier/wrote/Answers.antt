-- The field that was written is there.
use Rattle.gc_concurrent.proofs.Comparing.{field_again}
use Rattle.gc_concurrent.proofs.copier.wrote.Goals as goal

pub field-requires : goal.field-requires
field-requires c = field_again c.args.space.now c.set_field.new.self c.args.at.0 c.args.i c.args.word c.requires.shaped c.requires.there c.set_field.ensures.words
