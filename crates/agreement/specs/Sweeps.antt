-- A sweep: its words do what going through all its choices does, whatever the words behind its tests do with a choice, but that they leave its
-- rows used and go back to the pivot's SEEK. The pivot is the first card atom, or the last atom; for each row of a notice atom before it the
-- whole sweep of the atoms behind runs.
use Rattle.std.specs.Prelude.{◌≡◌, ℕ, suc, ◌+◌, ◌≤◌}
use Rattle.std.proofs.Math.Path.{ap}
use Rattle.std.proofs.Common.{◌∙◌, mul-le-mul_left, arith}
use Rattle.std.proofs.Math.Option.{Option, none, some}
use mathlib.Core.List.{List, [], ◌∷◌}
use Rattle.std.proofs.Math.ListN.{length}
use Rattle.meaning.specs.Basics.{fold, mem, All}
use Rattle.meaning.specs.Facts.{Kind, Board, is_card, rows_of}
use Rattle.meaning.specs.Rules.{Atom, Test, Values}
use Rattle.meaning.specs.Fit.{Row, Bindings, Known, fit_row, fit, choices, first_fit}
use Rattle.meaning.specs.Firing.{Work, Firing}
use Rattle.meaning.specs.Words.{Cursors, cursor_count}
use Rattle.meaning.specs.Translation.{bound_by, bound_by_terms, body_words, body_length, resume}
use Rattle.meaning.specs.WellFormed.{GoodTest, GoodAtom, GoodBoard, any_variable}
use Rattle.agreement.specs.Tools.{cases}
use Rattle.agreement.specs.Leads.{Machine, Leads, within, At}
use Rattle.agreement.specs.Cursors.{Idle, Ready, ready_idle, idle_ready}
use Rattle.agreement.specs.Choices.{Taking, knows, sweep_all, sweep_from, sweep_all-rows, sweep_from-none, sweep_from-card, notice_keeps, sweep_from_notice, sweep_from_last}
use Rattle.agreement.specs.Atoms.{stand, body_halves, body_exit, Rows, atom-rows}
use Rattle.agreement.specs.Bodies.{cost, search_body}

-- steps for the words behind the tests are in a sweep's cost
cost_more : (kinds : List Kind) (board : Board) (tests : List Test) (more : ℕ) (atoms : List Atom)
    → cost kinds board tests 0 atoms + more ≤ cost kinds board tests more atoms
unfolding cost
cost_more kinds board tests more [] = omega arith
cost_more kinds board tests more (a ∷ atoms) =
    let rest = cost_more kinds board tests more atoms in
    let row : suc (length a.terms + cost kinds board tests 0 atoms) ≤ suc (length a.terms + cost kinds board tests more atoms) = omega arith in
    omega (arith, mul-le-mul_left (length (rows_of board (is_card kinds a.kind))) row)

-- what comes of more work is an outcome too, for many pieces of work as for one
pub later-fold : (Outcome : (Work → Firing) → Type 0) {A : Type 0} (f : Work → A → Work)
    → ((k : Work → Firing) (x : A) → Outcome k → Outcome (λ work. k (f work x)))
    → (k : Work → Firing) → Outcome k → (xs : List A) → Outcome (λ work. k (fold f work xs))
unfolding fold
later-fold Outcome f one k outcome [] = outcome
later-fold Outcome f one k outcome (x ∷ xs) = one (λ work. k (fold f work xs)) x (later-fold Outcome f one k outcome xs)

-- Outcomes are what comes of the work done so far; what comes of more work is an outcome too.
module _ (m : Machine) (good : GoodBoard m.kinds m.board) (tests : List Test) (taking : Taking) (Outcome : (Work → Firing) → Type 0)
    (later : (k : Work → Firing) (o : Work → Option Known) → Outcome k → Outcome (λ work. k (taking.take work (o work)))) (leaf : ℕ) where
  abbrev kinds : List Kind
  kinds = m.kinds

  abbrev board : Board
  board = m.board

  later_rows : (a : Atom) (atoms : List Atom) (bindings : Bindings) (k : Work → Firing) → Outcome k → (rows : List Row)
      → Outcome (λ work. k (fold (sweep_from kinds board tests taking a atoms bindings) work rows))
  unfolding sweep_from
  later_rows a atoms bindings = later-fold Outcome (sweep_from kinds board tests taking a atoms bindings)
      (λ k r outcome. later-fold Outcome (λ w c. taking.take w (fit kinds (a ∷ atoms) tests (r ∷ c) (knows bindings w)))
      (λ k' c. later k' (λ w. fit kinds (a ∷ atoms) tests (r ∷ c) (knows bindings w))) k outcome (choices kinds board atoms))

  -- what comes of the work and an atom's further rows
  abbrev after : (Work → Firing) → Atom → List Atom → Bindings → Work → List Row → Firing
  after k a atoms bindings work rest = k (fold (sweep_from kinds board tests taking a atoms bindings) work rest)

  skip : (k : Work → Firing) (a : Atom) (atoms : List Atom) (bindings : Bindings) (work : Work) (r : Row) (rest : List Row)
      → fit_row kinds a r (knows bindings work) ≡ none → after k a atoms bindings work (r ∷ rest) ≡ after k a atoms bindings work rest
  unfolding fold
  skip k a atoms bindings work r rest q = ap (λ w. after k a atoms bindings w rest) (sweep_from-none kinds board tests taking a atoms bindings r work q)

  -- for each row that fits the first fit of the atoms behind is taken
  abbrev TakesFirst : Atom → List Atom → Bindings → Type 0
  TakesFirst a atoms bindings = (work : Work) (r : Row) (known : Known) → fit_row kinds a r (knows bindings work) ≡ some known
      → sweep_from kinds board tests taking a atoms bindings work r ≡ taking.take work (first_fit kinds board atoms tests known)

  -- behind its last row a sweep goes on, with its work done
  abbrev Leaves : ℕ → Cursors → List ℕ → Bindings → ℕ → ℕ → (Work → Firing) → Type 0
  Leaves c before bound bindings back limit k = (work : Work) (v : Values) (cu : Cursors) → Ready c c before bound (knows bindings work) v cu work.used
      → Leads m limit (stand back v cu work) (k work)

  -- what the words behind the tests do with a choice, and where they go
  abbrev pub Leaf : ℕ → ℕ → List ℕ → Type 0
  Leaf p target bound = (limit : ℕ) (known : Known) (values : Values) (before cursors : Cursors) (work : Work) (k : Work → Firing) → Outcome k
      → Ready cursor_count cursor_count before bound known values cursors work.used
      → Leads m limit (stand target values cursors (taking.take work (some known))) (k (taking.take work (some known)))
      → Leads m (leaf + limit) (stand p values cursors work) (k (taking.take work (some known)))

  module _ (a : Atom) (atoms : List Atom) (atoms-good : All (GoodAtom kinds any_variable)
      (a ∷ atoms)) {c p back limit : ℕ} {bound : List ℕ} {before : Cursors}
      {bindings : Bindings} {k : Work → Firing} (outcome : Outcome k)
      (bound-tests : All (GoodTest (λ x. mem x (bound_by atoms (bound_by_terms a.terms bound)))) tests)
      (room : c + suc (length atoms) ≤ cursor_count) (w : At m p (body_words c p back bound (a ∷ atoms) tests))
      (leave : Leaves c before bound bindings back limit k) where
    -- the pivot's rows
    pivot_rows : TakesFirst a atoms bindings
        → Leaf (p + body_length (a ∷ atoms) tests) (suc p) (bound_by (a ∷ atoms) bound)
        → Rows m a c p back bound before (λ work. work) (knows bindings) (after k a atoms bindings) (cost kinds board tests leaf atoms) limit
    unfolding fold bound_by
    pivot_rows pivots leaf-words = record {
      skips = skip k a atoms bindings;
      none_left = leave;
      fits = λ work r rest known v cu M h q ext same deep Gives-up again.
          rw (pivots work r known q)
          (within {n = cost kinds board tests 0 atoms + (leaf + M)} (omega (arith, cost_more kinds board tests leaf atoms))
          (search_body good tests atoms atoms-good.1 (suc (suc p) + length a.terms)
          (λ o. after k a atoms bindings (taking.take work o) rest) bound-tests (omega arith)
          (body_halves m c p back bound a atoms tests w).1 deep
          (λ v' cu' r'. rw (taking.still work) (within (omega arith) (Gives-up v' cu' r')))
          (λ known' v' cu' ext' same' r'. let work' : Work = taking.take work (some known') in
          let idle : Idle 0 work'.used cu' = rw (taking.uses work known') (ready_idle r') in
          rw (← (body_exit p a atoms tests)) (leaf-words M known' v' cu' cu' work (λ w'. after k a atoms bindings w' rest)
          (later_rows a atoms bindings k outcome rest) r'
          (again work' v' cu' (idle_ready c (suc c) (omega arith) (ext v' (ext' v' r'.loaded)) (λ i l. same' i (omega arith) ∙ same i l) idle)
          (same' c (omega arith)))))));
    }

    by_rows : Rows m a c p back bound before (λ work. work) (knows bindings) (after k a atoms bindings) (cost kinds board tests leaf atoms) limit
        → (work : Work) (values : Values) (cursors : Cursors) → Ready c c before bound (knows bindings work) values cursors work.used
        → Leads m (cost kinds board tests leaf (a ∷ atoms) + limit) (stand p values cursors work)
        (k (sweep_all kinds board tests taking (a ∷ atoms) bindings work))
    unfolding cost
    by_rows rows work values cursors r =
        rw (sweep_all-rows kinds board tests taking a atoms bindings work)
        (within (omega arith) (atom-rows good a atoms-good.0.arity (omega arith)
        (body_halves m c p back bound a atoms tests w).0 rows work values cursors r))

  -- A SWEEP: its words go through all its choices
  pub sweep-body : (a : Atom) (atoms : List Atom) → All (GoodAtom kinds any_variable) (a ∷ atoms)
      → {c back limit : ℕ} (p : ℕ) {bound : List ℕ} {before cursors : Cursors}
      {bindings : Bindings} {values : Values} (work : Work) (k : Work → Firing) → Outcome k → All (GoodTest (λ x. mem x (bound_by (a ∷ atoms) bound))) tests
      → c + suc (length atoms) ≤ cursor_count → At m p (body_words c p back bound (a ∷ atoms) tests)
      → Leaf (p + body_length (a ∷ atoms) tests) (resume kinds p (a ∷ atoms)) (bound_by (a ∷ atoms) bound)
      → Ready c c before bound (knows bindings work) values cursors work.used
      → Leaves c before bound bindings back limit k
      → Leads m (cost kinds board tests leaf (a ∷ atoms) + limit) (stand p values cursors work)
      (k (sweep_all kinds board tests taking (a ∷ atoms) bindings work))
  unfolding bound_by resume fold
  sweep-body a [] atoms-good p {cursors} {bindings} {values} work k outcome bound-tests room w leaf-words r leave =
      by_rows a [] atoms-good outcome bound-tests room w leave
      (pivot_rows a [] atoms-good outcome bound-tests room w leave (λ work r known. sweep_from_last kinds board tests taking a bindings r work known) leaf-words)
      work values cursors r
  sweep-body a (b ∷ atoms) atoms-good {c} {back} {limit} p {bound} {before} {cursors} {bindings} {values} work k outcome bound-tests room w leaf-words r leave =
      by_rows a (b ∷ atoms) atoms-good outcome bound-tests room w leave
      (cases (is_card kinds a.kind)
      (λ card. pivot_rows a (b ∷ atoms) atoms-good outcome bound-tests room w leave
      (λ work r known. sweep_from-card kinds board tests taking a (b ∷ atoms) bindings r work known card) (rw card at leaf-words))
      (λ notice. record {
        skips = skip k a (b ∷ atoms) bindings;
        none_left = leave;
        fits = λ work r rest known v cu M h q ext same deep Gives-up again.
            rw (sweep_from_notice kinds board tests taking a (b ∷ atoms) bindings r work known notice q)
            (sweep-body b atoms atoms-good.1 (suc (suc p) + length a.terms) work (λ w'. after k a (b ∷ atoms) bindings w' rest)
            (later_rows a (b ∷ atoms) bindings k outcome rest) bound-tests (omega arith) (body_halves m c p back bound a (b ∷ atoms) tests w).1
            (rw (notice, body_exit p a (b ∷ atoms) tests) at leaf-words)
            (idle_ready (suc c) (suc c) (omega arith) deep.loaded deep.same
            (rw (← (notice_keeps kinds board tests taking a (b ∷ atoms) bindings r work known notice q)) (ready_idle deep)))
            (λ w' v' cu' r'. again w' v' cu'
            (idle_ready c (suc c) (omega arith) (ext v' r'.loaded) (λ i l. r'.same i (omega arith) ∙ same i l) (ready_idle r'))
            (r'.same c (omega arith))));
      }))
      work values cursors r
