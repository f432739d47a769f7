-- The words of each part are as many as the translation reckons, so that its addresses are where the words stand.
use Rattle.std.specs.Prelude.{◌≡◌, refl, ℕ, suc, ◌+◌, List, [], ◌∷◌, length}
use Rattle.std.proofs.Common.{ap, length-append}
use Rattle.meaning.specs.Facts.{Kind, most_in_sweep}
use Rattle.meaning.specs.Rules.{Term, Atom, Test, Sweep, Rule}
use Rattle.meaning.specs.Translation.{bound_by_terms, argument_words, test_words, body_words, body_length, arg_words, head_words, head_length, sweep_words, sweep_length, sweeps_words, sweeps_length, rule_words, rule_length}

pub length-argument_words : (c i seek : ℕ) (bound : List ℕ) (terms : List Term) → length (argument_words c i seek bound terms) ≡ length terms
unfolding argument_words
length-argument_words c i seek bound [] = refl
length-argument_words c i seek bound (t ∷ terms) = ap suc (length-argument_words c (suc i) seek _ terms)

length-test_words : (seek : ℕ) (tests : List Test) → length (test_words seek tests) ≡ length tests
unfolding test_words
length-test_words seek [] = refl
length-test_words seek (t ∷ tests) = ap suc (length-test_words seek tests)

pub length-body_words : (c p back : ℕ) (bound : List ℕ) (atoms : List Atom) (tests : List Test)
    → length (body_words c p back bound atoms tests) ≡ body_length atoms tests
unfolding body_words body_length
length-body_words c p back bound [] tests = length-test_words back tests
length-body_words c p back bound (a ∷ atoms) tests = simp (
  length-append,
  length-argument_words,
  length-body_words (suc c)
      (suc (suc p) + length a.terms) (suc p) (bound_by_terms a.terms bound) atoms tests,
)

pub length-arg_words : (i : ℕ) (terms : List Term) → length (arg_words i terms) ≡ length terms
unfolding arg_words
length-arg_words i [] = refl
length-arg_words i (t ∷ terms) = ap suc (length-arg_words (suc i) terms)

pub length-head_words : (heads : List Atom) → length (head_words heads) ≡ head_length heads
unfolding head_words head_length
length-head_words [] = refl
length-head_words (h ∷ heads) = simp (length-append, length-arg_words, length-head_words heads)

pub length-sweep_words : (kinds : List Kind) (c p : ℕ) (bound : List ℕ) (sweep : Sweep) → length (sweep_words kinds c p bound sweep) ≡ sweep_length sweep
unfolding sweep_words sweep_length
length-sweep_words kinds c p bound sweep = simp (length-append, length-body_words, length-head_words)

pub length-sweeps_words : (kinds : List Kind) (c p : ℕ) (bound : List ℕ) (sweeps : List Sweep)
    → length (sweeps_words kinds c p bound sweeps) ≡ sweeps_length sweeps
unfolding sweeps_words sweeps_length
length-sweeps_words kinds c p bound [] = refl
length-sweeps_words kinds c p bound (sweep ∷ more) = simp (
  length-append,
  length-sweep_words,
  length-sweeps_words kinds (most_in_sweep + c)
      (p + sweep_length sweep) bound more,
)

pub length-rule_words : (kinds : List Kind) (r p : ℕ) (rule : Rule) → length (rule_words kinds r p rule) ≡ rule_length rule
unfolding rule_words rule_length
length-rule_words kinds r p rule = simp (length-append, length-body_words, length-head_words, length-sweeps_words)
