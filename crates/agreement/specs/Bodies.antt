-- A body: its atoms' words and its tests find the first fit in the order of choices, or go back when there is none.
use Rattle.std.specs.Prelude.{◌≡◌, refl, ℕ, suc, ◌+◌, ◌*◌, ◌≤◌, true, false, List, [], ◌∷◌, length}
use Rattle.std.proofs.Common.{◌∙◌, add-zero, add-suc, suc-add, arith}
use Rattle.std.proofs.Math.Option.{Option, none, some}
use Rattle.meaning.specs.Basics.{or_else, first, mem, All}
use Rattle.meaning.specs.Facts.{Kind, Board, is_card, rows_of}
use Rattle.meaning.specs.Rules.{Atom, Test, Values, holds}
use Rattle.meaning.specs.Fit.{Row, Bindings, Known, values_of, hold_all, fit, choices, first_fit}
use Rattle.meaning.specs.Firing.{Work, Firing}
use Rattle.meaning.specs.Words.{Cursors, cursor_count}
use Rattle.meaning.specs.Translation.{bound_by, test_words, body_words, body_length}
use Rattle.meaning.specs.WellFormed.{GoodTest, GoodAtom, GoodBoard, any_variable}
use Rattle.agreement.specs.Tools.{cases}
use Rattle.agreement.specs.Leads.{Machine, Leads, within, go, At}
use Rattle.agreement.specs.Registers.{Loaded, Extends, test_agrees}
use Rattle.agreement.specs.Cursors.{Same, Ready, ready_all}
use Rattle.agreement.specs.Choices.{fit_from, first_fit-rows, fit_from-none, fit_from-some}
use Rattle.agreement.specs.Atoms.{stand, body_halves, body_exit, Rows, atom-rows}

-- tests: on to the target if one does not hold
tests-hold : {m : Machine} {cursors : Cursors} {work : Work} {f : Firing} {values : Values} {bindings : Bindings} {bound : List ℕ} {seek limit : ℕ}
    → Loaded bindings bound values → (tests : List Test) (p : ℕ) → All (GoodTest (λ x. mem x bound)) tests → At m p (test_words seek tests)
    → (hold_all (values_of bindings) tests ≡ false → Leads m limit (stand seek values cursors work) f)
    → (hold_all (values_of bindings) tests ≡ true → Leads m limit (stand (p + length tests) values cursors work) f)
    → Leads m (length tests + limit) (stand p values cursors work) f
unfolding test_words hold_all
tests-hold l [] p good w fails hold = within (omega arith) (rw add-zero at (hold refl))
tests-hold {bindings} l (t ∷ tests) p good w fails hold =
    let same = test_agrees l t good.0 in
    within (omega arith) (cases (holds (values_of bindings) t)
    (λ y. go w.0 (rw (same, y)) (tests-hold l tests (suc p) good.1 w.1 (λ q. fails (rw y q)) (λ q. rw (add-suc, ← suc-add) at (hold (rw y q)))))
    (λ y. go w.0 (rw (same, y)) (within (omega arith) (fails (rw y)))))

-- Steps that a body takes at the most, and so many more at its end.
unfoldable pub cost : List Kind → Board → List Test → ℕ → List Atom → ℕ
cost kinds board tests more [] = length tests + more
cost kinds board tests more (a ∷ atoms) =
    suc (suc (more + length (rows_of board (is_card kinds a.kind)) * suc (length a.terms + cost kinds board tests more atoms)))

-- what a body's words come to, from a state that is ready for them
module _ (m : Machine) (c : ℕ) (before : Cursors) (bound : List ℕ) (known : Known) (work : Work) where
  -- back, with what was known
  abbrev pub Fails : ℕ → ℕ → Firing → Type 0
  Fails back limit f = (v : Values) (cu : Cursors) → Ready c c before bound known v cu work.used → Leads m limit (stand back v cu work) f

  -- on behind the tests, with what is known of the choice; the cursors stand on its rows
  abbrev pub Finds : List ℕ → ℕ → ℕ → (Known → Firing) → Type 0
  Finds bound' exit limit k = (known' : Known) (v : Values) (cu : Cursors) → Extends known.bindings bound known'.bindings bound' → Same c before cu
      → Ready cursor_count cursor_count cu bound' known' v cu work.used → Leads m limit (stand exit v cu work) (k known')

-- A BODY: its words find the first fit
pub search_body : {m : Machine} → GoodBoard m.kinds m.board → (tests : List Test) (atoms : List Atom) → All (GoodAtom m.kinds any_variable) atoms
    → {c back limit : ℕ} (p : ℕ) {bound : List ℕ} {before cursors : Cursors} {known : Known} {values : Values} {work : Work} (k : Option Known → Firing)
    → All (GoodTest (λ x. mem x (bound_by atoms bound))) tests → c + length atoms ≤ cursor_count → At m p (body_words c p back bound atoms tests)
    → Ready c c before bound known values cursors work.used
    → Fails m c before bound known work back limit (k none)
    → Finds m c before bound known work (bound_by atoms bound) (p + body_length atoms tests) limit (λ known'. k (some known'))
    → Leads m (cost m.kinds m.board tests 0 atoms + limit) (stand p values cursors work) (k (first_fit m.kinds m.board atoms tests known))
unfolding first_fit first choices fit body_words body_length bound_by cost
search_body good tests [] atoms-good {limit} p {cursors} {known} {values} k bound-tests room w r fails finds =
    within (omega arith) (tests-hold {limit = limit} r.loaded tests p bound-tests w
    (λ q. rw q (fails values cursors r))
    (λ q. rw q (finds known values cursors (λ v l. l) r.same (ready_all r (omega arith)))))
search_body {m} good tests (a ∷ atoms) atoms-good {c} {back} {limit} p {bound} {before} {cursors} {known} {values} {work} k bound-tests room w r fails finds =
    let kinds : List Kind = m.kinds in
    let board : Board = m.board in
    let parts = body_halves m c p back bound a atoms tests w in
    let after : List Row → Firing = λ rest. k (first (fit_from kinds board tests a atoms known) rest) in
    let rows : Rows {X = Unit {0}} m a c p back bound before (λ _. work) (λ _. known) (λ _. after) (cost kinds board tests 0 atoms) limit
    = record {
      skips = λ _ row rest q. rw (fit_from-none kinds board tests a atoms known row q);
      none_left = λ _. fails;
      fits = λ _ row rest known' v cu M h q ext same deep Gives-up again.
          rw (fit_from-some kinds board tests a atoms known known' row q)
          (search_body good tests atoms atoms-good.1 (suc (suc p) + length a.terms)
          (λ o. k (or_else o (first (fit_from kinds board tests a atoms known) rest)))
          bound-tests (omega arith) parts.1 deep Gives-up
          (λ known'' v' cu' ext' same' r'. within h (rw (body_exit p a atoms tests) at
          (finds known'' v' cu' (λ u l. ext u (ext' u l)) (λ i l. same' i (omega arith) ∙ same i l) r'))));
    } in
    rw (first_fit-rows kinds board tests a atoms known)
    (within (omega arith) (atom-rows good a atoms-good.0.arity (omega arith) parts.0 rows tt values cursors r))
