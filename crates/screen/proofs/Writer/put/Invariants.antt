-- The bytes are put one by one. The invariant: those before the index are put.
use lib.ListN.{take}
use Rattle.screen.specs.Shows.{Puts}
use Rattle.screen.proofs.Writer.put.Given as goal

abbrev pub invariant-loop-byte : goal.invariant-loop-byte
invariant-loop-byte l = Puts l.initial.self l.self (take l.byte-index l.text)
