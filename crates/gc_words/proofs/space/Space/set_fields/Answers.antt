-- The words lie within those of the object, and writing them at once is writing them one by one, so the space stays shaped.
use Rattle.std.proofs.Common.{subst, sym}
use Rattle.std.specs.Prelude.{◌≤◌}
use Rattle.gc_words.proofs.Spliced.{fields_seen, written_at_once}
use Rattle.gc_words.proofs.space.Space.set_fields.Goals as goal

pub overwrite-requires : goal.overwrite-requires
overwrite-requires c = fields_seen _ _ c.args.at.0 c.args.first _ _ c.self.view_is c.self.invariant.0 c.field_index.ensures c.requires

pub invariant_of-self : goal.invariant_of-self
invariant_of-self c = (
  (written_at_once _ _ c.args.at.0 c.args.first _ c.args.words.now _ c.self.view_is c.self.invariant.0 c.field_index.ensures c.requires c.overwrite.ensures.items).0,
  subst (λ n. c.self.inside.size ≤ n) (sym c.overwrite.ensures.capacity) c.self.invariant.1,
)

pub returns-clause-shaped : goal.returns-clause-shaped
returns-clause-shaped c = (written_at_once _ _ c.args.at.0 c.args.first _ c.args.words.now _ c.self.view_is c.self.invariant.0 c.field_index.ensures c.requires c.overwrite.ensures.items).0
