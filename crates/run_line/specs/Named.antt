-- The call that a word with its numbers is, as the code holds it.
use Rattle.std.specs.Prelude.{Option as Answer, Some, None}
use Rattle.std.proofs.Math.Option.{Option, some, none}
use Rattle.model.specs.Run.{Call as CallOf}
use Rattle.calls.specs.declared.Call.{Call}
use Rattle.calls.specs.Calls.{call_of}

abbrev pub named_of : Answer Call → Option CallOf
named_of (Some c) = some (call_of c)
named_of None = none
