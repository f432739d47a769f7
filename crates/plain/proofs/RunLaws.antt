-- The run over the arrays, firing after firing: the board may be played, and to go on from it is the whole run.
use Prim.Native.Nat.{ℕ, ◌+◌, ◌≤◌, ◌<◌}
use native.Mathlib.Omega.{arith}
use mathlib.Core.Path.{◌≡◌, sym, ap, ◌∙◌, subst}
use mathlib.Core.List.{List}
use Rattle.meaning.specs.Facts.{Kind, Board}
use Rattle.meaning.specs.Firing.{quiet, full, fire, Attempt, done, Quiet, Full, ended, run}
use Rattle.meaning.specs.WellFormed.{GoodBoard}
use Rattle.files.specs.InPlace.{book_at}
use Rattle.firings.specs.Keeping.{firing_keeps_good}
use Rattle.rows.specs.declared.Count.{Count}
use Rattle.runs.specs.declared.End.TheVariants as E
use Rattle.runs.specs.declared.Ran as R
use Rattle.runs.specs.Runs.{board_in, ran_with, RunEnds}
use Rattle.runs.specs.Repeats.{Going, going_limit, going_by, going_on}
use Rattle.plain.specs.declared.rules.Rules.{Rules}
use Rattle.plain.specs.declared.firing.Look.{Look}
use Rattle.plain.specs.declared.firing.Look.TheVariants as L
use Rattle.plain.specs.Playing.{Playable, Looked}

-- a book's attempt is its firing
abbrev attempts : List ℕ → Board → Attempt
attempts book board = done (fire (book_at book) board)

pub record Running (book : List ℕ) (kinds : List Kind) (rules : Rules) (start : Board) (limit : ℕ) (kind numbers : List ℕ) (count : Count) (firings rule : ℕ) : Type 0 where
  pub playable : Playable book kinds rules kind numbers count
  pub going : Going (attempts book) start limit (board_in kinds kind numbers count) firings rule

module _ (book : List ℕ) (kinds : List Kind) (rules : Rules) (start : Board) (limit : ℕ) (kind numbers : List ℕ) (count : Count) (firings rule : ℕ)
    (s : Running book kinds rules start limit kind numbers count firings rule) where
  abbrev before : Board
  before = board_in kinds kind numbers count

  pub run_limit : limit ≤ firings → firings ≤ limit → (r : R.Ran) → r ≡ ran_with E.Limit count limit rule → RunEnds (run (book_at book) limit start) kinds kind numbers r
  unfolding run
  run_limit h l r q = rw (q ∙ ap (λ n. ran_with E.Limit count n rule) (let e : limit ≡ firings = omega arith in e)) (record {
    is = going_limit (attempts book) start limit before firings rule s.going h;
    cards = s.playable.few_cards;
    notices = s.playable.few_notices;
    sized = s.playable.sized;
  })

  module _ (h : firings < limit) (look : Look) (kind' numbers' : List ℕ) (l : Looked book kinds kind numbers count look kind' numbers') where
    known : (q : Look) → look ≡ q → Looked book kinds kind numbers count q kind' numbers'
    known q e = subst (λ (q : Look). Looked book kinds kind numbers count q kind' numbers') e l

    pub run_quiet : look ≡ L.Quiet → (r : R.Ran) → r ≡ ran_with E.Quiet count firings rule → RunEnds (run (book_at book) limit start) kinds kind' numbers' r
    unfolding run
    run_quiet e r q =
        let (sized, is, stays) = known L.Quiet e in
        rw q (record {
          is = ap (λ (b : Board). ended Quiet b firings rule) stays ∙ going_by (attempts book) start limit before firings rule s.going h (done quiet) (ap done is);
          cards = s.playable.few_cards;
          notices = s.playable.few_notices;
          sized = sized;
        })

    pub run_full : look ≡ L.Full → (r : R.Ran) → r ≡ ran_with E.Full count firings rule → RunEnds (run (book_at book) limit start) kinds kind' numbers' r
    unfolding run
    run_full e r q =
        let (sized, is, stays) = known L.Full e in
        rw q (record {
          is = ap (λ (b : Board). ended Full b firings rule) stays ∙ going_by (attempts book) start limit before firings rule s.going h (done full) (ap done is);
          cards = s.playable.few_cards;
          notices = s.playable.few_notices;
          sized = sized;
        })

    module _ (number : ℕ) (count' : Count) (e : look ≡ L.Fired number count') where
      -- a firing of a good book on a good board leaves a good board
      good-after : GoodBoard kinds (board_in kinds kind' numbers' count')
      good-after =
          let declared = s.playable.declared in
          let (sized, is, cards, notices) = known (L.Fired number count') e in
          subst (λ (k : List Kind). GoodBoard k (board_in kinds kind' numbers' count')) (sym declared)
          (firing_keeps_good (book_at book) s.playable.good {board = before} {next = board_in kinds kind' numbers' count'} {number = number}
          (subst (λ (k : List Kind). GoodBoard k before) declared s.playable.board) is)

      pub run-fired : Running book kinds rules start limit kind' numbers' count' (firings + 1) number
      run-fired =
          let (sized, is, cards, notices) = known (L.Fired number count') e in
          record {
            playable = record {
              good = s.playable.good;
              declared = s.playable.declared;
              places = s.playable.places;
              short = s.playable.short;
              encoded = s.playable.encoded;
              sized = sized;
              few_cards = cards;
              few_notices = notices;
              board = good-after;
            };
            going = going_on (attempts book) start limit before firings rule s.going h number (board_in kinds kind' numbers' count') (ap done is);
          }
