-- `rules_of`: the places found so far, and those from here on, are all the rules' places.
use native.Mathlib.Omega.{arith}
use mathlib.Core.Path.{◌≡◌, subst}
use Rattle.plain.specs.Stands.{places_from}
use Rattle.plain.specs.Playing.{places_of}
use Rattle.plain.proofs.RulesLaws.{place_start, place_end, place_whole, place_next}
use Rattle.plain.proofs.rules.rules_of.Goals as goal

pub loop-count-init : goal.loop-count-init
loop-count-init c = search place_start

pub returns-then-not-is_marked : goal.returns-then-not-is_marked
returns-then-not-is_marked c = search place_end

pub loop-count-preserved : goal.loop-count-preserved
loop-count-preserved c = search place_next

pub returns : goal.returns
returns c =
    let e : c.loop-count.count ≡ 32 = omega (arith, c.loop-count.auto.count-end, c.loop-count-test.false) in
    subst (λ z. places_from c.loop-count.at 0 z ≡ places_of c.args.book.now) e (place_whole _ _ _ _ _ c.loop-count.invariant c.loop-count-test.false)
