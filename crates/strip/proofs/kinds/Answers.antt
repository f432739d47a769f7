-- `kinds` meets its contract. The loop's invariant, `Found`: the kinds found and those of the words that are left are all of them.
use Rattle.std.proofs.Common.{rules}
use Rattle.strip.proofs.FoundLaws.{none_found, unknown_found, other_code, other_found, kind_found, all_found}
use Rattle.strip.proofs.kinds.Goals as goal

pub loop-i-init : goal.loop-i-init
loop-i-init c = search none_found

pub loop-i-preserved : goal.loop-i-preserved
loop-i-preserved c =
    kind_found _ _ _ _ c.loop-i.invariant c.loop-i-test.true _ c.in-Ok.ensures (search rules) _ c.with-found.ensures

pub returns : goal.returns
returns c = search all_found

pub returns-in_default : goal.returns-in_default
returns-in_default c = unknown_found _ _ _ _ c.loop-i.invariant c.loop-i-test.true c.in_default.ensures

pub returns-in_default-code : goal.returns-in_default-code
returns-in_default-code c =
    other_found _ _ _ _ c.loop-i.invariant c.loop-i-test.true _ c.in-Ok.ensures (other_code c.in-Ok.word.code c.in_default-code.not-Kind)
