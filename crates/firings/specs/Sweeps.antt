-- A whole sweep, and the sweeps of a rule one after another: `SweepDone` gathers what follows from a sweep's going through its choices, and the program
-- does each so.
use Rattle.std.specs.Prelude.{◌≡◌, ◌↔◌, ℕ, Bool, ◌||◌}
use Rattle.std.proofs.Common.{sym, ◌∙◌}
use Rattle.std.proofs.Math.Path.{ap}
use Rattle.std.proofs.Math.Bool.{or-false}
use mathlib.Core.List.Memᴰ
use mathlib.Core.List.{List, [], ◌∷◌, ◌++◌, append_assoc, append-nil}
use Rattle.meaning.specs.Basics.{fold, In, All}
use Rattle.meaning.specs.Facts.{Kind, Fact, Board}
use Rattle.meaning.specs.Rules.{Atom, Sweep, Rule, occurs_in}
use Rattle.meaning.specs.Fit.{Choice, Bindings, Known, IsChoice, Apart, Unused, Fits, choices}
use Rattle.meaning.specs.Firing.{Work, run_sweep, run_sweeps, body_work}
use Rattle.meaning.specs.WellFormed.{HasCard, GoodSweep}
use Rattle.firings.specs.CardRows.{Fresh, Marked, marked_append, fresh_append, AllNotices}
use Rattle.firings.specs.Answers.{is_bound, BoundTests, good-tests}
use Rattle.firings.specs.Choosing.{Ascending, choices_exactly, choices_ascending}
use Rattle.firings.specs.Sweeping.{Taken, choices_of, rows_used, facts_made, Sweeping, sweeping}
use Rattle.firings.specs.Sweeping.{used-after, rows_fresh, made_in_order, taken_ascending, none_left, notices-taken}

-- ---- a whole sweep

pub record SweepDone (kinds : List Kind) (board : Board) (sweep : Sweep) (bindings : Bindings) (work last : Work) : Type 0 where
  -- "A sweep goes through all choices of its own body in order and takes each that fits with card rows unused so far"
  pub taken_ones : List Taken
  pub each : Sweeping kinds sweep bindings work (choices kinds board sweep.body) taken_ones last
  -- those taken, in order, each once
  pub in_order : Ascending (choices_of taken_ones)
  -- no card row twice, nor one used before; used afterwards are exactly these
  pub apart : Apart (rows_used kinds sweep.body taken_ones)
  pub unused_before : Unused work.used (rows_used kinds sweep.body taken_ones)
  pub used_after : Marked work.used (rows_used kinds sweep.body taken_ones) last.used
  -- "then each taken choice's head atoms"
  pub made : last.made ≡ work.made ++ facts_made sweep.heads taken_ones
  -- "works every sweep once through all its choices": with a card atom in its body, none with unused rows still fits
  pub none_left : HasCard kinds sweep.body
      → (c : Choice) → IsChoice kinds board sweep.body c → Fits kinds sweep.body sweep.tests c bindings last.used → ⊥
  -- and of an all-notice body exactly the fitting choices are taken
  pub all_taken : AllNotices kinds sweep.body → (c : Choice)
      → (IsChoice kinds board sweep.body c × Fits kinds sweep.body sweep.tests c bindings work.used) ↔ In c (choices_of taken_ones)

-- the sweeps one after another
pub data SweepsDone (kinds : List Kind) (board : Board) (bindings : Bindings) : Work → List Sweep → Work → Type 0 where
  no_sweep : {work : Work} → SweepsDone kinds board bindings work [] work
  sweep_then : {work next last : Work} {sweep : Sweep} {sweeps : List Sweep}
      → SweepDone kinds board sweep bindings work next → SweepsDone kinds board bindings next sweeps last
      → SweepsDone kinds board bindings work (sweep ∷ sweeps) last

-- the sweeps of a rule, after its body: under the body's values, its card rows used, its head atoms' facts made
abbrev pub RuleDone : List Kind → Board → Rule → Known → Work → Type 0
RuleDone kinds board rule known last = SweepsDone kinds board known.bindings (body_work rule known) rule.sweeps last

module _ {kinds : List Kind} {board : Board} {bindings : Bindings} where
  -- the card rows that the sweeps used, and the facts that they made, "sweep by sweep"
  abbrev pub rows_of_sweeps : {work last : Work} {sweeps : List Sweep} → SweepsDone kinds board bindings work sweeps last → List ℕ
  rows_of_sweeps no_sweep = []
  rows_of_sweeps (sweep_then {sweep = sweep} d more) = rows_used kinds sweep.body d.taken_ones ++ rows_of_sweeps more

  abbrev pub facts_of_sweeps : {work last : Work} {sweeps : List Sweep} → SweepsDone kinds board bindings work sweeps last → List Fact
  facts_of_sweeps no_sweep = []
  facts_of_sweeps (sweep_then {sweep = sweep} d more) = facts_made sweep.heads d.taken_ones ++ facts_of_sweeps more

  -- no card row is used twice in all sweeps, nor one used before; used afterwards are exactly these
  pub sweeps_fresh : {work last : Work} {sweeps : List Sweep} (s : SweepsDone kinds board bindings work sweeps last)
      → Fresh work.used (rows_of_sweeps s) × Marked work.used (rows_of_sweeps s) last.used
  sweeps_fresh {work} no_sweep = ((tt, λ n m. absurd (Memᴰ.not-nil m)), λ n. sym (or-false (work.used n)))
  sweeps_fresh {work} {last} (sweep_then {next = next} {sweep = sweep} d more) =
      let w = sweeps_fresh more in
      let rows = rows_used kinds sweep.body d.taken_ones in (
        fresh_append work.used next.used rows (rows_of_sweeps more) (d.apart, d.unused_before) d.used_after w.0,
        marked_append work.used next.used last.used rows (rows_of_sweeps more) d.used_after w.1,
      )

  pub sweeps_make : {work last : Work} {sweeps : List Sweep} (s : SweepsDone kinds board bindings work sweeps last)
      → last.made ≡ work.made ++ facts_of_sweeps s
  sweeps_make {work} no_sweep = sym (append-nil work.made)
  sweeps_make {work} (sweep_then {sweep = sweep} d more) =
      let facts = facts_of_sweeps more in
      sweeps_make more ∙ ap (λ (l : List Fact). l ++ facts) d.made ∙ append_assoc work.made (facts_made sweep.heads d.taken_ones) facts

-- under values for the variables of the rule's body
module _ (kinds : List Kind) (board : Board) (bindings : Bindings) (body : List Atom) (binds : (x : ℕ) → is_bound bindings x ≡ occurs_in x body) where
  -- "A sweep goes through all choices of its own body in order and takes each that fits with card rows unused so far by the body, by earlier sweeps or
  -- by this one."
  pub sweep-done : (sweep : Sweep) → GoodSweep kinds body sweep
      → (work : Work) → SweepDone kinds board sweep bindings work (run_sweep kinds board bindings work sweep)
  unfolding run_sweep
  sweep-done sweep good work =
      let bound : BoundTests bindings sweep.body sweep.tests =
      good-tests _ _ (λ x h. ap (λ (t : Bool). t || occurs_in x sweep.body) (binds x) ∙ h) sweep.tests good.group.good_tests in
      let s = sweeping kinds sweep bindings bound (choices kinds board sweep.body) work in
      let fresh = rows_fresh kinds sweep bindings s.1 in
      let listed = choices_exactly kinds board sweep.body in
      record {
        taken_ones = s.0;
        each = s.1;
        in_order = taken_ascending kinds sweep bindings s.1 (choices_ascending kinds board sweep.body);
        apart = fresh.0;
        unused_before = fresh.1;
        used_after = used-after kinds sweep bindings s.1;
        made = made_in_order kinds sweep bindings s.1;
        none_left = λ card c i. none_left kinds sweep bindings card s.1 ((listed c).1 i);
        all_taken = λ all c. let w = notices-taken kinds sweep bindings all s.1 c in
            ((λ h. w.0 ((listed c).1 h.0, h.1)), λ m. let z = w.1 m in ((listed c).0 z.0, z.1));
      }

  -- "Its sweeps then run in file order, under the body's values."
  pub sweeps-done : (sweeps : List Sweep) → All (GoodSweep kinds body) sweeps
      → (work : Work) → SweepsDone kinds board bindings work sweeps (run_sweeps kinds board bindings work sweeps)
  unfolding run_sweeps fold
  sweeps-done [] good work = no_sweep
  sweeps-done (sweep ∷ sweeps) good work =
      sweep_then (sweep-done sweep good.0 work) (sweeps-done sweeps good.1 (run_sweep kinds board bindings work sweep))
