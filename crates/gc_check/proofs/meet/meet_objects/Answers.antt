-- Raw objects correspond if their field words are equal, others if the values of their fields do.
use Rattle.std.proofs.Common.{rules}
use Rattle.gc_words.specs.Image.{block_at}
use Rattle.gc_check.specs.Verdict.{pairs_of}
use Rattle.gc_check.proofs.Alike.{raw_correspond, values_correspond}
use Rattle.gc_check.proofs.meet.meet_objects.Goals as goal

pub returns-then-is_raw-clause-alike : goal.returns-then-is_raw-clause-alike
returns-then-is_raw-clause-alike c = λ same.
    raw_correspond (pairs_of c.args.found.now.pairs.items) (block_at c.args.old.now.words c.args.pair.old.0) (block_at c.args.new.now.words c.args.pair.new.0)
    c.unwrap-header.result c.fields_at-originals.result.now c.fields_at-replicas.result.now (search rules) (search rules) (search rules) (search rules)

pub returns-clause-alike : goal.returns-clause-alike
returns-clause-alike c = λ alike.
    values_correspond (pairs_of c.meet_all.new.found.pairs.items) (block_at c.args.old.now.words c.args.pair.old.0) (block_at c.args.new.now.words c.args.pair.new.0)
    c.unwrap-header.result c.fields_at-originals.result.now c.fields_at-replicas.result.now (search rules) (search rules) (search rules) (c.meet_all.ensures.alike alike)
