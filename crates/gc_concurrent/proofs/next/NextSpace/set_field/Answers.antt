-- The field is written before the end.
use Rattle.std.proofs.Common.{set, subst, arith}
use Rattle.gc_words.specs.Space.{IsSpace, with_field_at}
use Rattle.gc_words.proofs.Public.{field_read}
use Rattle.gc_concurrent.proofs.PlainWords.{Becomes, field_put, word_seen}
use Rattle.gc_concurrent.proofs.next.NextSpace.set_field.Goals as goal

pub index_mut-requires : goal.index_mut-requires
index_mut-requires c =
    let f = field_read c.args.self.now.words c.args.at.0 c.args.i (subst IsSpace c.self.view_is c.self.invariant.space).walked c.requires.there in
    omega (arith, c.self.inside.words.ok.0, (word_seen _ _ c.args.self.now c.field_index.result c.self.view_is c.self.invariant.within (omega (arith, f.within, c.field_index.ensures))).inside)

-- the row is that of the space with the field
put : (c : goal.After-self-1) → Becomes (set c.self.inside.words.items c.field_index.result c.args.word) c.self.inside.end c.self.inside.starts.items (with_field_at c.args.self.now c.args.at.0 c.args.i c.args.word)
put c = field_put _ _ _ _ c.args.at.0 c.args.i c.args.word _ c.self.view_is c.field_index.ensures c.self.invariant c.requires.there c.requires.fits

pub invariant_of-self : goal.invariant_of-self
invariant_of-self c = (put c).plain

pub returns-clause-words : goal.returns-clause-words
returns-clause-words c = (put c).is

pub returns-clause-shaped : goal.returns-clause-shaped
returns-clause-shaped c = (put c).plain.space
