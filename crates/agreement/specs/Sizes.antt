-- How long the parts of a well-formed book's strip are at the most: 50 words for a sweep, 174 for a rule.
use Rattle.std.specs.Prelude.{ℕ, zero, suc, ◌+◌, ◌*◌, ◌≤◌, Bool, length}
use native.Mathlib.Omega.{arith}
use mathlib.Core.List.{List, [], ◌∷◌}
use Rattle.std.proofs.Math.ListN.{length-append}
use Rattle.meaning.specs.Basics.{All}
use Rattle.meaning.specs.Facts.{Kind, most_numbers, arity_of}
use Rattle.meaning.specs.Rules.{Atom, Test, Sweep, Rule}
use Rattle.meaning.specs.Translation.{body_length, head_length, sweep_length, sweeps_length, rule_length, rules_words, rule_words}
use Rattle.meaning.specs.WellFormed.{GoodKind, GoodAtom, GoodSweep, GoodRule, any_variable}
use Rattle.agreement.specs.Lengths.{length-rule_words}

arity_most : (kinds : List Kind) → All GoodKind kinds → (k : ℕ) → arity_of kinds k ≤ most_numbers
arity_most [] good k = omega arith
arity_most (kind ∷ kinds) good zero = good.0
arity_most (kind ∷ kinds) good (suc k) = arity_most kinds good.1 k

module _ (kinds : List Kind) (kinds-good : All GoodKind kinds) where
  pub terms_most : {bound : ℕ → Bool} {a : Atom} → GoodAtom kinds bound a → length a.terms ≤ most_numbers
  terms_most {a} good = omega (arith, good.arity, arity_most kinds kinds-good a.kind)

  body_most : (atoms : List Atom) (tests : List Test) → All (GoodAtom kinds any_variable) atoms → body_length atoms tests ≤ 6 * length atoms + length tests
  unfolding body_length
  body_most [] tests good = omega arith
  body_most (a ∷ atoms) tests good = omega (arith, terms_most good.0, body_most atoms tests good.1)

  pub head_most : (bound : ℕ → Bool) (heads : List Atom) → All (GoodAtom kinds bound) heads → head_length heads ≤ 5 * length heads
  unfolding head_length
  head_most bound [] good = omega arith
  head_most bound (h ∷ heads) good = omega (arith, terms_most good.0, head_most bound heads good.1)

  sweep_most_lem : {rule_body : List Atom} {sweep : Sweep} → GoodSweep kinds rule_body sweep → sweep_length sweep ≤ 50
  unfolding sweep_length
  sweep_most_lem {sweep} good =
      let g = good.group in
      omega (
        arith,
        body_most sweep.body sweep.tests g.body_atoms,
        head_most _ sweep.heads
            g.head_atoms,
        g.body_size,
        g.tests_size,
        g.heads_size,
      )

  sweeps_most : (rule_body : List Atom) (sweeps : List Sweep) → All (GoodSweep kinds rule_body) sweeps → sweeps_length sweeps ≤ 50 * length sweeps
  unfolding sweeps_length
  sweeps_most rule_body [] good = omega arith
  sweeps_most rule_body (sweep ∷ more) good = omega (arith, sweep_most_lem good.0, sweeps_most rule_body more good.1)

  rule_most_lem : {rule : Rule} → GoodRule kinds rule → rule_length rule ≤ 174
  unfolding rule_length
  rule_most_lem {rule} good =
      let g = good.group in
      omega (
        arith,
        body_most rule.body rule.tests g.body_atoms,
        head_most _ rule.heads g.head_atoms,
        g.body_size,
        g.tests_size,
        g.heads_size,
        sweeps_most rule.body rule.sweeps good.sweeps,
        good.sweeps_size,
      )

  pub rules_most : (r p : ℕ) (rules : List Rule) → All (GoodRule kinds) rules → length (rules_words kinds r p rules) ≤ 174 * length rules + 1
  unfolding rules_words
  rules_most r p [] good = omega arith
  rules_most r p (rule ∷ more) good =
      let rest = rules_most (suc r) (p + rule_length rule) more good.1 in
      omega (
        arith,
        rule_most_lem good.0,
        length-rule_words kinds r p rule,
        length-append (rule_words kinds r p rule)
            (rules_words kinds (suc r) (p + rule_length rule) more),
      )
