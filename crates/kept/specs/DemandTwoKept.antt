-- Demand 2 is kept: each promise of crates/promises under 'DEMAND 2', from the laws of firings (crates/firings) and of files.
use Rattle.std.specs.Prelude.{ℕ, suc, ◌<◌, ◌≡◌, refl, ◌↔◌, Bool, ◌||◌, List, [], ◌∷◌}
use Rattle.std.proofs.Common.{arith, sym, ap, ◌∙◌, subst}
use Rattle.std.proofs.Math.Option.{some}
use mathlib.Core.List.Memᴰ
use Rattle.std.proofs.Math.ListN.{get_elem?}
use Rattle.meaning.specs.Basics.{In, All}
use Rattle.meaning.specs.Facts.{Kind, Board}
use Rattle.meaning.specs.Rules.{Sweep, Rule, Book, occurs_in}
use Rattle.meaning.specs.Fit.{Choice, Marks, Bindings, Known, nothing_known, IsChoice}
use Rattle.meaning.specs.Firing.{Work, body_work, End, Quiet, Limit, Full, Spent, Stuck, run}
use Rattle.meaning.specs.WellFormed.{GoodBook}
use Rattle.files.specs.Numbers.{end_number}
use Rattle.files.specs.Entries.{run_outcome}
use Rattle.promises.specs.Promises as P
use Rattle.promises.specs.Promises.{FitSaysFits, ChoicesAreAll, NoneFits, NothingFits, Taken, FitInTurn, none-taken, fits_and_then, EndsSo, RunsAreAllowed, QuietIsMelds, DemandTwo}
use Rattle.firings.specs.Basics.{all-at}
use Rattle.firings.specs.Answers.{good-tests}
use Rattle.firings.specs.Fitting.{fit_exactly_if_fits}
use Rattle.firings.specs.Choosing.{FirstChoice, choices_exactly, choices_ascending}
use Rattle.firings.specs.Sweeping.{Sweeping, over, passes, takes}
use Rattle.firings.specs.Sweeps.{SweepDone, SweepsDone, no_sweep, sweep_then}
use Rattle.firings.specs.Firings as F
use Rattle.firings.specs.Firings.{MeldStep, FullIs, quiet_exactly_if_none_fits}
use Rattle.firings.specs.Counting.{unused_and_used}
use Rattle.firings.specs.Quiet.{quiet_exactly_if_no_step}
use Rattle.firings.specs.Runs.{Fires, no_more, fires_then, EndsAs, run_is, run_quiet_exactly_if_none_fits}
use Rattle.book_encoding.specs.Accepted.{book_accepted}
use Rattle.kept.specs.DemandOneKept.{run_book_is}

-- ---- what fits, and in which order

pub fit_says_fits_lem : FitSaysFits
fit_says_fits_lem = record {
  bodies = λ kinds rule good rows. fit_exactly_if_fits kinds rule.body rule.tests rows nothing_known good.group.good_tests;
  sweeps = λ kinds body sweep good bindings binds gone rows.
      fit_exactly_if_fits kinds sweep.body sweep.tests rows (record { bindings = bindings; gone = gone })
      (good-tests _ _ (λ x h. ap (λ (t : Bool). t || occurs_in x sweep.body) (binds x) ∙ h) sweep.tests good.group.good_tests);
}

pub choices_are_all_lem : ChoicesAreAll
choices_are_all_lem = record { all = choices_exactly; in_order = choices_ascending }

-- ---- sweeps

module _ (kinds : List Kind) (sweep : Sweep) (bindings : Bindings) where
  fit_in_turn : {work last : Work} {cs : List Choice} {ts : List Taken} → Sweeping kinds sweep bindings work cs ts last → FitInTurn kinds sweep bindings work.used ts
  fit_in_turn over = none-taken
  fit_in_turn (passes x l) = fit_in_turn l
  fit_in_turn (takes {ts = ts} g l) =
      fits_and_then g.fits g.equal g.under (subst (λ (m : Marks). FitInTurn kinds sweep bindings m ts) g.gone (fit_in_turn l))

  taken_among : {work last : Work} {cs : List Choice} {ts : List Taken} (Q : Choice → Type 0) → Sweeping kinds sweep bindings work cs ts last
      → ((c : Choice) → In c cs → Q c) → All (λ t. Q t.choice) ts
  taken_among Q over h = tt
  taken_among Q (passes x l) h = taken_among Q l (λ c m. h c (Memᴰ.tail m))
  taken_among Q (takes {c = c} g l) h = (h c (Memᴰ.head refl), taken_among Q l (λ d m. h d (Memᴰ.tail m)))

sweep-done : {kinds : List Kind} {rows : Board} {sweep : Sweep} {bindings : Bindings} {work last : Work}
    → SweepDone kinds rows sweep bindings work last → P.SweepDone kinds rows sweep bindings work last
sweep-done {kinds} {rows} {sweep} {bindings} d = record {
  taken_ones = d.taken_ones;
  are_choices = taken_among kinds sweep bindings (IsChoice kinds rows sweep.body) d.each (λ c m. (choices_exactly kinds rows sweep.body c).0 m);
  in_order = d.in_order;
  each_fits = fit_in_turn kinds sweep bindings d.each;
  apart = d.apart;
  unused_before = d.unused_before;
  used_after = d.used_after;
  made = d.made;
  none_left = d.none_left;
  all_taken = d.all_taken;
}

sweeps-done : {kinds : List Kind} {rows : Board} {bindings : Bindings} {work last : Work} {sweeps : List Sweep}
    → SweepsDone kinds rows bindings work sweeps last → P.SweepsDone kinds rows bindings work sweeps last
sweeps-done no_sweep = P.no_sweep
sweeps-done (sweep_then d more) = P.sweep_and_then (sweep-done d) (sweeps-done more)

-- ---- a firing

module _ (b : Book) (rows : Board) (number : ℕ) (rule : Rule) (known : Known) (work : Work) where
  first-fit : get_elem? b.rules number ≡ some rule
      → ((j : ℕ) (other : Rule) → j < number → get_elem? b.rules j ≡ some other → NoneFits b.kinds rows other)
      → FirstChoice b.kinds rows rule.body rule.tests nothing_known known
      → SweepsDone b.kinds rows known.bindings (body_work rule known) rule.sweeps work → P.FirstFit b rows number rule work
  first-fit listed earlier first swept = record {
    listed = listed;
    earlier_rules = earlier;
    choice = first.choice;
    is_choice = first.is_choice;
    fits = first.gives.fits;
    earlier_choices = first.none_before;
    known = known;
    values = first.gives.equal;
    bound = first.gives.binds;
    used = λ n. ap (λ (m : Marks). m n) first.gives.gone;
    swept = sweeps-done swept;
  }

meld_allows : (b : Book) (rows : Board) (rule : Rule) (work : Work) (rows' : Board) → MeldStep b rows rule work rows' → P.MeldAllows b rows rule work rows'
meld_allows b rows rule work rows' m =
    let cards-made = m.cards_made in
    let notices-made = m.notices_made in
    record {
      used = m.Ξ;
      step = rw (← cards-made, ← notices-made) m.stepped;
      apply = rw (← cards-made, ← notices-made) m.applied;
      less = rw m.cards_used (unused_and_used 0 work.used rows.cards);
      cards = rw (← cards-made) m.cards;
      notices = rw (← notices-made) m.notices;
      cards_counted = λ f. rw (← cards-made) (m.card_counts f);
      notices_counted = λ f. rw (← notices-made) (m.notice_counts f);
    }

firing_is : {b : Book} {rows rows' : Board} {number : ℕ} → F.FiringIs b rows number rows' → P.FiringIs b rows number rows'
firing_is {b} {rows} {rows'} {number} w = record {
  rule = w.rule;
  work = w.work;
  first = first-fit b rows number w.rule w.known w.work w.listed w.none_earlier w.first w.swept;
  after = w.after;
  room = w.room;
  allowed = meld_allows b rows w.rule w.work rows' w.meld;
}

overfills : {b : Book} {rows : Board} → FullIs b rows → P.Overfills b rows
overfills {b} {rows} w =
    let f = w.would in
    record {
      number = f.place;
      rule = f.rule;
      work = w.work;
      first = first-fit b rows f.place f.rule f.known w.work f.listed f.none_earlier f.first w.swept;
      no_room = w.no_room;
    }

-- ---- a run

fires : {b : Book} {rows rows' : Board} {last last' n : ℕ} → Fires b rows last n rows' last' → P.Fires b rows last n rows' last'
fires no_more = P.none_yet
fires (fires_then e w more) = P.fires_and_then (firing_is w) (fires more)

all_of : {A : Type 0} (Q : A → Type 0) (l : List A) → ((i : ℕ) (a : A) → get_elem? l i ≡ some a → Q a) → All Q l
all_of Q [] h = tt
all_of Q (a ∷ l) h = (h 0 a refl, all_of Q l (λ i x e. h (suc i) x e))

nothing-fits : (b : Book) (rows : Board) → All (NoneFits b.kinds rows) b.rules ↔ NothingFits b rows
nothing-fits b rows = ((λ h i rule e. all-at (NoneFits b.kinds rows) b.rules i h e), all_of (NoneFits b.kinds rows) b.rules)

ends_so_lem : (b : Book) (limit n : ℕ) (rows : Board) (end : End) → EndsAs b limit n rows end → EndsSo b limit n rows end
ends_so_lem b limit n rows Quiet h = (h.0, (nothing-fits b rows).0 h.1)
ends_so_lem b limit n rows Limit h = h
ends_so_lem b limit n rows Full h = (h.0, overfills h.1)
ends_so_lem b limit n rows Spent h = h
ends_so_lem b limit n rows Stuck h = h

is_quiet : (end : End) → end_number end ≡ end_number Quiet → end ≡ Quiet
is_quiet Quiet h = refl
is_quiet Limit h = absurd (omega (arith, h))
is_quiet Full h = absurd (omega (arith, h))
is_quiet Spent h = absurd (omega (arith, h))
is_quiet Stuck h = absurd (omega (arith, h))

run_outcome_is : (b : Book) → GoodBook b → (limit : ℕ) (rows : Board) → P.RunIs b limit rows (run_outcome (run b limit rows))
run_outcome_is b good limit rows =
    let ran = run b limit rows in
    let w = run_is b good limit rows in
    record {
      after = ran.board;
      firings = ran.firings;
      last = ran.rule;
      end = ran.end;
      sequence = fires w.sequence;
      ends_so = ends_so_lem b limit ran.firings ran.board ran.end w.ending;
      answer = refl;
      written = refl;
      quiet_exactly = λ short.
          let q = run_quiet_exactly_if_none_fits b good limit rows short in
          let z = nothing-fits b ran.board in
          ((λ e. z.0 (q.0 (is_quiet ran.end e))), λ h. ap end_number (q.1 (z.1 h)));
    }

-- "Each firing of a book's run is one that Meld 2.0 Semantics allows", and all that demand 2 says of the run
pub runs_are_allowed_lem : RunsAreAllowed
runs_are_allowed_lem book_file board_file limit room b rows bytes bytes' e h l =
    subst (P.RunIs b limit rows) (sym (run_book_is book_file board_file limit room b rows e h l)) (run_outcome_is b (book_accepted book_file b bytes e).0 limit rows)

-- where no choice fits, Meld allows no step, and the other way round
pub quiet_is_melds_lem : QuietIsMelds
quiet_is_melds_lem b good rows =
    let q = quiet_exactly_if_none_fits b good rows in
    let s = quiet_exactly_if_no_step b rows good in
    let z = nothing-fits b rows in
    ((λ h. s.0 (q.1 (z.1 h))), λ h. z.0 (q.0 (s.1 h)))

-- DEMAND 2
pub demand_two : DemandTwo
demand_two = record { fit_says_fits = fit_says_fits_lem; choices_are_all = choices_are_all_lem; runs_are_allowed = runs_are_allowed_lem; quiet_is_melds = quiet_is_melds_lem }
