-- A raw object has no references, and any other has those of its field words.
use Rattle.std.proofs.Common.{rules, ◌≡◌, Some, false, subst}
use Rattle.gc_words.specs.Image.{block_at}
use Rattle.gc_check.proofs.Breadth.{object_refers, raw_refers}
use Rattle.gc_check.proofs.visits.values_at.Goals as goal

pub returns-then-is_raw : goal.returns-then-is_raw
returns-then-is_raw c = raw_refers c.args.starts.now c.args.address c.unwrap-header.result (search rules) (search rules)

pub returns : goal.returns
returns c =
    let plain : c.unwrap-header.result.raw ≡ false = search rules in
    object_refers c.args.starts.now c.args.address (record { header = c.unwrap-header.result; fields = c.fields_at.result.now }) (subst (λ words. block_at words c.args.address ≡ Some (record { header = c.unwrap-header.result; fields = c.fields_at.result.now })) c.words-2.ensures.value c.fields_at.ensures.object) plain
