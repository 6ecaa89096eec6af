-- `bytes` meets its contract. Assumes nothing.
use mathlib.Core.Path.{refl}
use native.Mathlib.Omega.{arith}
use Rattle.put.proofs.Writing.{put_run}
use Rattle.put.proofs.Output.bytes.Goals as goal

pub returns : goal.returns
returns c =
    let o = c.args.self.now in
    record { place = refl; bytes = put_run c.args.s.now o.bytes.now c.copy_from_slice.new.self o.at _ c.requires c.copy_from_slice.ensures.after (omega arith); lent = refl }
