-- Each row leaves an open collection that fits.
use Rattle.gc_collected.proofs.vectors.write_rows.Goals as goal

pub returns-clause-fits : goal.returns-clause-fits
returns-clause-fits c = λ epoch fits. c.write_numbers-2.ensures.fits epoch (c.write_numbers.ensures.fits epoch fits)
