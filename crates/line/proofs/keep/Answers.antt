-- `keep` meets its contract. Assumes nothing.
use Rattle.std.proofs.Common.{arith}
use Rattle.line.proofs.Numbers.{kept_more, kept_full}
use Rattle.line.proofs.keep.Goals as goal

pub returns-then-n-xs : goal.returns-then-n-xs
returns-then-n-xs c = (omega arith, kept_full c.args.n c.args.v c.args.xs.now (omega arith) (omega arith))

pub returns : goal.returns
returns c = (omega arith, kept_more c.args.n c.args.v c.args.xs.now (omega arith) (omega arith))
