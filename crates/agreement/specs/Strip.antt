-- The translated strip: it declares the book's kinds, ends with QUIET and, for a well-formed book, is a well-formed strip of at most 44,808
-- bytes. Its parts are gone through once for the fields of their words and once for their lengths.
use Rattle.std.specs.Prelude.{◌≡◌, refl, ◌↔◌, Bool}
use Rattle.std.proofs.Common.{sym, ap, ◌∙◌}
use Prim.Native.Nat.{ℕ, suc, ◌+◌, ◌*◌, ◌≤◌, ◌<◌}
use native.Mathlib.Omega.{arith}
use mathlib.Core.List.{List, [], ◌∷◌, ◌++◌, map, append_assoc}
use Rattle.std.proofs.Math.ListN.{length, length-append}
use Rattle.std.proofs.lemmas.List.{length-map}
use Rattle.meaning.specs.Basics.{mem, All}
use Rattle.meaning.specs.Facts.{Kind, Board, most_rules, most_in_rule, most_in_sweep, most_numbers, is_card}
use Rattle.meaning.specs.Rules.{Term, constant, variable, Atom, Test, Sweep, Rule, Book}
use Rattle.meaning.specs.Words.{Word, KEEP, QUIET, cursor_count, strip_kinds}
use Rattle.meaning.specs.Translation.{bound_by_terms, bound_by, argument_words, test_words, body_words, body_length, arg_words, head_words, head_length, resume, sweep_words, sweep_length, sweeps_words, sweeps_length, rule_words, rule_length, rules_words, kind_word, translate}
use Rattle.meaning.specs.WellFormed.{GoodBoard, GoodKind, GoodTerm, any_variable, GoodAtom, GoodTest, GoodSweep, GoodRule, GoodBook, GoodWord, EndsWell, GoodStrip}
use Rattle.agreement.specs.Tools.{all_append, cases}
use Rattle.agreement.specs.Sizes.{terms_most, rules_most}
use Rattle.agreement.specs.Lengths.{length-rule_words}

-- ---- kinds

-- no rule begins with a KIND
body-kinds : (c p back : ℕ) (bound : List ℕ) (atoms : List Atom) (tests : List Test) (rest : List Word)
    → strip_kinds (body_words c p back bound atoms tests ++ (KEEP ∷ rest)) ≡ []
unfolding body_words test_words
body-kinds c p back bound [] [] rest = refl
body-kinds c p back bound [] (t ∷ tests) rest = refl
body-kinds c p back bound (a ∷ atoms) tests rest = refl

rules-kinds : (kinds : List Kind) (r p : ℕ) (rules : List Rule) → strip_kinds (rules_words kinds r p rules) ≡ []
unfolding rules_words rule_words
rules-kinds kinds r p [] = refl
rules-kinds kinds r p (rule ∷ more) = rw append_assoc (body-kinds 0 p (p + rule_length rule) [] rule.body rule.tests _)

kinds-first : (kinds : List Kind) (words : List Word) → strip_kinds words ≡ [] → strip_kinds (map kind_word kinds ++ words) ≡ kinds
kinds-first [] words h = h
kinds-first (k ∷ kinds) words h = ap (λ l. k ∷ l) (kinds-first kinds words h)

-- "KINDs; the rules in order; QUIET": the strip of any book declares the book's kinds.
pub translate-kinds : (book : Book) → strip_kinds (translate book) ≡ book.kinds
unfolding translate
translate-kinds book = kinds-first book.kinds _ (rules-kinds book.kinds 0 (length book.kinds) book.rules)

-- "run on any accepted board of that book": a board is well formed for the strip's kinds exactly if it is for the book's.
pub translate_same_boards : (book : Book) (board : Board) → GoodBoard (strip_kinds (translate book)) board ↔ GoodBoard book.kinds board
translate_same_boards book board = ((λ h. rw (translate-kinds book) at h), λ h. rw (translate-kinds book) h)

-- ---- the last word

rules_last : (kinds : List Kind) (r p : ℕ) (rules : List Rule) → (words : List Word) × (rules_words kinds r p rules ≡ words ++ (QUIET ∷ []))
unfolding rules_words
rules_last kinds r p [] = ([], refl)
rules_last kinds r p (rule ∷ more) =
    let rest = rules_last kinds (suc r) (p + rule_length rule) more in
    (rule_words kinds r p rule ++ rest.0, rw rest.1 (sym (append_assoc (rule_words kinds r p rule) rest.0 (QUIET ∷ []))))

-- "KINDs; the rules in order; QUIET": the last word of any book's strip is QUIET.
pub translate_last : (book : Book) → (words : List Word) × (translate book ≡ words ++ (QUIET ∷ []))
unfolding translate
translate_last book =
    let rest = rules_last book.kinds 0 (length book.kinds) book.rules in
    (map kind_word book.kinds ++ rest.0, rw rest.1 (sym (append_assoc (map kind_word book.kinds) rest.0 (QUIET ∷ []))))

ends_cons : (w : Word) (words : List Word) → EndsWell words → EndsWell (w ∷ words)
ends_cons w [] h = absurd h
ends_cons w (w' ∷ words) h = h

ends_append : (words more : List Word) → EndsWell more → EndsWell (words ++ more)
ends_append [] more h = h
ends_append (w ∷ words) more h = ends_cons w (words ++ more) (ends_append words more h)

-- ---- the fields of the words

term_any : (bound : ℕ → Bool) (t : Term) → GoodTerm bound t → GoodTerm any_variable t
term_any bound (constant v) good = good
term_any bound (variable x) good = (good.0, refl)

module _ (kinds : List Kind) (kinds-good : All GoodKind kinds) (size : ℕ) where
  -- the words' fields are in range
  abbrev Good : Word → Type 0
  Good = GoodWord (length kinds) size

  arguments_good : (c i seek : ℕ) (bound : List ℕ) (terms : List Term) → c < cursor_count → i + length terms ≤ most_numbers → seek < size
      → All (GoodTerm any_variable) terms
      → All Good (argument_words c i seek bound terms)
  unfolding argument_words
  arguments_good c i seek bound [] c-good i-good target good = tt
  arguments_good c i seek bound (constant v ∷ terms) c-good i-good target good =
      ((c-good, omega arith, good.0, target), arguments_good c (suc i) seek bound terms c-good (omega arith) target good.1)
  arguments_good c i seek bound (variable x ∷ terms) c-good i-good target good = (
    cases (mem x bound) (λ y. rw y (c-good, omega arith, good.0.0, target)) (λ y. rw y (c-good, omega arith, good.0.0)),
    arguments_good c (suc i) seek _ terms c-good (omega arith) target good.1,
  )

  tests-good : (seek : ℕ) (bound : ℕ → Bool) (tests : List Test) → seek < size → All (GoodTest bound) tests → All Good (test_words seek tests)
  unfolding test_words
  tests-good seek bound [] target good = tt
  tests-good seek bound (t ∷ tests) target good =
      (((term_any bound t.left good.0.0, term_any bound t.right good.0.1), target), tests-good seek bound tests target good.1)

  body-good : (c p back : ℕ) (bound : List ℕ) (may : ℕ → Bool) (atoms : List Atom) (tests : List Test) → c + length atoms ≤ cursor_count → back < size
      → p + body_length atoms tests ≤ size → All (GoodAtom kinds any_variable) atoms → All (GoodTest may) tests
      → All Good (body_words c p back bound atoms tests)
  unfolding body_words body_length
  body-good c p back bound may [] tests room target fits good tests-ok = tests-good back may tests target tests-ok
  body-good c p back bound may (a ∷ atoms) tests room target fits good tests-ok = (
    omega arith,
    (
      (omega arith, good.0.declared, target),
      all_append Good (argument_words c 0 (suc p) bound a.terms) _
          (arguments_good c 0 (suc p) bound a.terms (omega arith) (omega (arith, terms_most kinds kinds-good good.0)) (omega arith) good.0.terms)
          (body-good (suc c) (suc (suc p) + length a.terms) (suc p) (bound_by_terms a.terms bound) may atoms tests (omega arith) (omega arith)
          (omega arith) good.1 tests-ok),
    ),
  )

  args_good : (i : ℕ) (bound : ℕ → Bool) (terms : List Term) → i + length terms ≤ most_numbers → All (GoodTerm bound) terms → All Good (arg_words i terms)
  unfolding arg_words
  args_good i bound [] i-good good = tt
  args_good i bound (t ∷ terms) i-good good = ((omega arith, term_any bound t good.0), args_good (suc i) bound terms (omega arith) good.1)

  heads-good : (bound : ℕ → Bool) (heads : List Atom) → All (GoodAtom kinds bound) heads → All Good (head_words heads)
  unfolding head_words
  heads-good bound [] good = tt
  heads-good bound (h ∷ heads) good = (
    good.0.declared,
    all_append Good (arg_words 0 h.terms) _
        (args_good 0 bound h.terms (omega (arith, terms_most kinds kinds-good good.0)) good.0.terms) (heads-good bound heads good.1),
  )

  resume_within : (p : ℕ) (atoms : List Atom) (tests : List Test) → resume kinds p atoms ≤ p + body_length atoms tests
  unfolding resume body_length
  resume_within p [] tests = omega arith
  resume_within p (a ∷ []) tests = omega arith
  resume_within p (a ∷ b ∷ atoms) tests =
      let rest = resume_within (suc (suc p) + length a.terms) (b ∷ atoms) tests in
      cases (is_card kinds a.kind) (λ y. rw y (omega arith)) (λ y. rw y (omega arith))

  sweep-good : (c p : ℕ) (bound : List ℕ) {rule_body : List Atom} {sweep : Sweep} → c + most_in_sweep ≤ cursor_count → p + sweep_length sweep < size
      → GoodSweep kinds rule_body sweep
      → All Good (sweep_words kinds c p bound sweep)
  unfolding sweep_words sweep_length
  sweep-good c p bound {sweep} room fits good =
      let g = good.group in
      let back = resume_within p sweep.body sweep.tests in
      all_append Good (body_words c p (p + sweep_length sweep) bound sweep.body sweep.tests) _
      (body-good c p (p + sweep_length sweep) bound _ sweep.body sweep.tests (omega (arith, g.body_size)) fits (omega arith) g.body_atoms
      g.good_tests)
      (tt, all_append Good (head_words sweep.heads) _ (heads-good _ sweep.heads g.head_atoms) (omega arith, tt))

  sweeps-good : (rule_body : List Atom) (c p : ℕ) (bound : List ℕ) (sweeps : List Sweep) → c + most_in_sweep * length sweeps ≤ cursor_count
      → p + sweeps_length sweeps < size
      → All (GoodSweep kinds rule_body) sweeps → All Good (sweeps_words kinds c p bound sweeps)
  unfolding sweeps_words sweeps_length
  sweeps-good rule_body c p bound [] room fits good = tt
  sweeps-good rule_body c p bound (sweep ∷ more) room fits good =
      all_append Good (sweep_words kinds c p bound sweep) _ (sweep-good c p bound (omega arith) (omega arith) good.0)
      (sweeps-good rule_body (most_in_sweep + c) (p + sweep_length sweep) bound more (omega arith) (omega arith) good.1)

  rule-good : (r p : ℕ) (rule : Rule) → r < most_rules → p + rule_length rule < size → GoodRule kinds rule → All Good (rule_words kinds r p rule)
  unfolding rule_words rule_length
  rule-good r p rule r-good fits good =
      let g = good.group in
      let at : ℕ = p + body_length rule.body rule.tests + suc (head_length rule.heads) in
      all_append Good (body_words 0 p (p + rule_length rule) [] rule.body rule.tests) _
      (body-good 0 p (p + rule_length rule) [] _ rule.body rule.tests (omega (arith, g.body_size)) fits (omega arith) g.body_atoms g.good_tests) (
        tt,
        all_append Good (head_words rule.heads) _ (heads-good _ rule.heads g.head_atoms)
            (all_append Good (sweeps_words kinds most_in_rule at (bound_by rule.body []) rule.sweeps) _
            (sweeps-good rule.body most_in_rule at _ rule.sweeps (omega (arith, good.sweeps_size)) (omega arith) good.sweeps) (r-good, tt)),
      )

  rules-good : (r p : ℕ) (rules : List Rule) → r + length rules ≤ most_rules → p + length (rules_words kinds r p rules) ≤ size → All (GoodRule kinds) rules
      → All Good (rules_words kinds r p rules)
  unfolding rules_words
  rules-good r p [] r-good fits good = (tt, tt)
  rules-good r p (rule ∷ more) r-good fits good =
      let rest : List Word = rules_words kinds (suc r) (p + rule_length rule) more in
      let last = rules_last kinds (suc r) (p + rule_length rule) more in
      let some : 1 ≤ length rest = rw last.1 (omega (arith, length-append last.0 (QUIET ∷ []))) in
      let all : p + rule_length rule + length rest ≤ size = omega (arith, length-append (rule_words kinds r p rule) rest, length-rule_words kinds r p rule) in
      all_append Good (rule_words kinds r p rule) rest (rule-good r p rule (omega arith) (omega arith) good.0)
      (rules-good (suc r) (p + rule_length rule) more (omega arith) all good.1)

-- "Longest book 17,794 bytes, board 4,226, strip 44,808": the strip of a well-formed book is a well-formed strip, within that size.
pub translate-good : {book : Book} → GoodBook book → GoodStrip (translate book)
unfolding translate
translate-good {book} good =
    let kinds : List Kind = book.kinds in
    let code : List Word = rules_words kinds 0 (length kinds) book.rules in
    let last = translate_last book in
    let count : length (map kind_word kinds ++ code) ≡ length kinds + length code = length-append (map kind_word kinds) code ∙ ap (λ n. n + length code)
    (length-map kinds kind_word) in
    record {
      kinds = kinds;
      others = code;
      split = refl;
      kinds_size = good.kinds_size;
      good_kinds = good.kinds;
      good_others = rules-good kinds good.kinds _ 0 (length kinds) book.rules (omega (arith, good.rules_size)) (omega (arith, count)) good.rules;
      last = rw last.1 (ends_append last.0 (QUIET ∷ []) tt);
      size = omega (arith, count, rules_most kinds good.kinds 0 (length kinds) book.rules good.rules, good.kinds_size, good.rules_size);
    }
