-- `holds` meets its contract: by the distances of m and of the end from the start, going round. Assumes nothing.
use Rattle.windows.proofs.Distance.{told_by_distance}
use Rattle.windows.proofs.holds.Goals as goal

pub returns : goal.returns
returns c = let a = c.args in told_by_distance _ _ _ c.ranges.m.fits c.ranges.start.fits c.ranges.end.fits
