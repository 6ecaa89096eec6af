-- What follows the first statement of a body: for the walks by hand of the crates above, the part of a loop's iteration after its test, which has no name in the generated MIR.
use mir.Syntax.{Body, skip, seq, assign, block, loop, cond, switch, exit, return, call, unreachable, call_v, lend_static}

abbrev pub tail : Body → Body
tail (seq a b) = b
tail skip = skip
tail (assign p r) = skip
tail (block b) = skip
tail (loop b) = skip
tail (cond c a b) = skip
tail (switch c r) = skip
tail (exit n) = skip
tail return = skip
tail (call f xs d) = skip
tail unreachable = skip
tail (call_v f d xs r) = skip
tail (lend_static x y z) = skip
