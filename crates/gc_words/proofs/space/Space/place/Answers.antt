-- A header word, a 0 for the link and zeros for the fields, put at the end, are the space with one more object.
use Rattle.std.proofs.Common.{◌+◌, ◌∷◌, ◌++◌, [], ◌∙◌, ap, arith}
use Rattle.gc_words.proofs.Walks.{written_back}
use Rattle.gc_words.proofs.Bodies.{Places, object_placed}
use Rattle.gc_words.proofs.space.Space.place.Goals as goal

-- the space then has one more object
made : (c : goal.After-add_zeros) → Places (record { size = c.self.inside.size; words = c.add_zeros.new.words.items }) c.args.self.now c.args.header
made c =
    let ranges = written_back c.word.result c.args.header c.word.ensures.read_back in
    object_placed (record { size = c.self.inside.size; words = c.self.inside.words.items }) c.args.self.now c.push_reserved.new.self.items c.add_zeros.new.words.items c.args.header (c.from.result + 1) c.self.view_is c.self.invariant.0 ranges.0 c.requires
    (c.push_reserved.ensures.items ∙ ap (λ w. c.self.inside.words.items ++ w ∷ []) c.word.ensures.word) (omega (arith, c.from.ensures, c.len.ensures)) c.add_zeros.ensures.items

pub invariant_of-self : goal.invariant_of-self
invariant_of-self c = ((made c).space, omega (arith, c.self.invariant.1))

pub returns-clause-shaped : goal.returns-clause-shaped
returns-clause-shaped c = (made c).space

pub returns-clause-object : goal.returns-clause-object
returns-clause-object c = (made c).object
