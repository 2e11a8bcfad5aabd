-- Field by field, from the last one on.
use Rattle.std.proofs.Common.{◌≡◌, ◌<◌, ◌-◌, suc, length, sym, ◌∙◌, arith}
use Rattle.gc_collected.proofs.Sources.{last_before, last_is, none_first}
use Rattle.gc_collected.proofs.mixed.last_number.Goals as goal
use Rattle.gc_collected.proofs.mixed.last_number.Goals.{In-loop-i}

pub returns : goal.returns
returns g c = none_first (g.R.SourceRow.sources c.args.fields.now) c.loop-i.i c.loop-i-test.false ∙ c.loop-i.invariant.last

-- the field before is there
before : (g : _) (c : In-loop-i g) → (c.loop-i.i - 1 < length (g.R.SourceRow.sources c.args.fields.now)) × (c.loop-i.i ≡ suc (c.loop-i.i - 1))
before g c = (omega (arith, c.loop-i-test.true, c.loop-i.invariant.low, c.requires.inside), omega (arith, c.loop-i-test.true))

pub loop-i-preserved : goal.loop-i-preserved
loop-i-preserved g c =
    let there = before g (goal.at.loop-i-preserved g c).In-loop-i in
    record {
      last = sym (last_before (g.R.SourceRow.sources c.args.fields.now) (c.loop-i.i - 1) c.loop-i.i c.source.result there.0 there.1 c.source.ensures c.in_default.not-Number) ∙ c.loop-i.invariant.last;
      low = omega (arith, c.loop-i.invariant.low);
    }

pub returns-in-Number : goal.returns-in-Number
returns-in-Number g c =
    let there = before g (goal.at.returns-in-Number g c).In-loop-i in
    sym (last_is (g.R.SourceRow.sources c.args.fields.now) (c.loop-i.i - 1) c.loop-i.i c.in-Number.n c.source.result there.0 there.1 c.source.ensures c.in-Number.is) ∙ c.loop-i.invariant.last
