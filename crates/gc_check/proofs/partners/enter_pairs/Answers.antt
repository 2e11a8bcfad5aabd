-- A pair without a fault adds one partner to the table, and the first pair with a fault has the first fault of all addresses.
use Rattle.std.proofs.lemmas.Grind.{common_steps}
use Rattle.std.proofs.Common.{sym, ◌∙◌, get_or, arith}
use Rattle.gc_words.specs.declared.image.Pair.{Pair}
use Rattle.gc_check.proofs.StartMarks.{low_start}
use Rattle.gc_check.proofs.PartnerRow.{entered_fault, entered_one, entered_start}
use Rattle.gc_check.proofs.partners.enter_pairs.Goals as goal

-- any pair will do: a read within the certificate does not use it
abbrev none : Pair
none = record { old = record { 0 = 0 }; new = record { 0 = 0 } }

pub returns-in-Some : goal.returns-in-Some
returns-in-Some c =
    entered_fault c.args.old.now c.args.new.now c.args.cert.now c.loop-k.partners c.loop-k.last.0 c.loop-k.k none c.in-Some.refusal c.loop-k-test.true
    (λ start. low_start c.args.new.now.words (get_or c.args.cert.now c.loop-k.k none).new.0 c.requires.new_walked start)
    c.loop-k.invariant (sym c.place_fault.ensures ∙ c.in-Some.is)

pub set-requires-clause-start : goal.set-requires-clause-start
set-requires-clause-start c = grind (arith, common_steps, entered_start)

pub loop-k-preserved : goal.loop-k-preserved
loop-k-preserved c =
    entered_one c.args.old.now c.args.new.now c.args.cert.now c.loop-k.partners c.set.new.self c.loop-k.last.0 c.loop-k.k none c.loop-k-test.true
    (λ start. low_start c.args.new.now.words (get_or c.args.cert.now c.loop-k.k none).new.0 c.requires.new_walked start)
    c.loop-k.invariant (sym c.place_fault.ensures ∙ c.in_default.is) c.set.ensures.entries c.set.ensures.number
