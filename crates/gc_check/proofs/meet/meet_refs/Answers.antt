-- A pair whose two objects are free has room in the row, and the tables then hold it too.
use Rattle.std.proofs.lemmas.Grind.{common_steps}
use Rattle.std.proofs.Common.{rules, ◌≡◌, ◌∷◌, ◌++◌, [], true, arith}
use Rattle.gc_words.specs.declared.image.Pair.{Pair}
use Rattle.gc_check.specs.declared.meet.Found.{Found}
use Rattle.gc_check.specs.Internal.Meetings.{is_free}
use Rattle.gc_check.specs.Verdict.{pairs_of}
use Rattle.gc_check.proofs.Meetings.{held_one, has_room}
use Rattle.gc_check.proofs.meet.meet_refs.Goals as goal

pub returns-clause-held : goal.returns-clause-held
returns-clause-held c =
    let x : Pair = record { old = record { 0 = c.args.from.0 }; new = record { 0 = c.args.to.0 } } in
    let after : Found = record { partners = c.set.new.self; originals = c.set-2.new.self; pairs = c.push_reserved.new.self } in
    let free : is_free c.args.old.now c.args.new.now (pairs_of c.args.found.now.pairs.items) c.args.from.0 c.args.to.0 ≡ true = search rules in
    let pushed : c.push_reserved.new.self.items ≡ c.args.found.now.pairs.items ++ x ∷ [] = search rules in
    held_one c.args.old.now c.args.new.now c.args.found.now after x c.requires.held free c.set.ensures.entries c.set-2.ensures.entries c.set.ensures.number c.set-2.ensures.number pushed (search rules)

pub push_reserved-requires : goal.push_reserved-requires
push_reserved-requires c = grind (arith, common_steps, has_room)
