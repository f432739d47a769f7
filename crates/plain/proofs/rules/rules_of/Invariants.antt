-- `rules_of`: the places found so far, and those from here on, are all the rules' places.
use Rattle.kinds.specs.Listed.{kinds_of}
use Rattle.plain.proofs.RulesLaws.{Placing}
use Rattle.plain.proofs.rules.rules_of.Given as goal

abbrev pub invariant-loop-count : goal.invariant-loop-count
invariant-loop-count l = Placing l.book (kinds_of l.kinds) l.at l.count l.next
