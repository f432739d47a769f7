-- The run over the arrays, attempt after attempt: the board may be played, and to go on from it is the whole run.
use Prim.Native.Nat.{ℕ, ◌+◌, ◌≤◌, ◌<◌}
use native.Mathlib.Omega.{arith}
use mathlib.Core.Path.{◌≡◌, ap, ◌∙◌, subst}
use mathlib.Core.List.{List}
use Rattle.meaning.specs.Facts.{Kind, Board}
use Rattle.meaning.specs.Firing.{Ran, ended}
use Rattle.meaning.specs.Words.{attempt, run_strip}
use Rattle.files.specs.Strip.{words_at}
use Rattle.kinds.specs.declared.Kinds.{Kinds}
use Rattle.kinds.specs.Listed.{kinds_of}
use Rattle.rows.specs.declared.Count.{Count}
use Rattle.runs.specs.declared.End.{End}
use Rattle.runs.specs.declared.End.TheVariants as E
use Rattle.runs.specs.declared.Ran as R
use Rattle.runs.specs.Runs.{end_of, board_in, RunEnds, ran_with}
use Rattle.runs.specs.Repeats.{Going, going_limit, going_by, going_on}
use Rattle.machine.specs.declared.firing.Look.{Look}
use Rattle.machine.specs.declared.firing.Look.TheVariants as L
use Rattle.machine.specs.Firings.{Playable, attempt_of, Stays, Looked}

pub record Running (strip : List ℕ) (kinds : Kinds) (allowance : ℕ) (start : Board) (limit : ℕ) (kind numbers : List ℕ) (count : Count) (firings rule : ℕ) : Type 0 where
  pub playable : Playable strip kinds kind numbers count
  pub going : Going (attempt (words_at strip) allowance) start limit (board_in (kinds_of kinds) kind numbers count) firings rule

module _ (strip : List ℕ) (kinds : Kinds) (allowance : ℕ) (start : Board) (limit : ℕ) (kind numbers : List ℕ) (count : Count) (firings rule : ℕ)
    (s : Running strip kinds allowance start limit kind numbers count firings rule) where
  abbrev K : List Kind
  K = kinds_of kinds

  abbrev before : Board
  before = board_in (kinds_of kinds) kind numbers count

  abbrev whole : Ran
  whole = run_strip (words_at strip) limit allowance start

  pub run_limit : limit ≤ firings → firings ≤ limit → (r : R.Ran) → r ≡ ran_with E.Limit count limit rule → RunEnds whole K kind numbers r
  unfolding run_strip
  run_limit h m r q =
      let all : firings ≡ limit = omega arith in
      rw q (subst (λ (n : ℕ). RunEnds whole K kind numbers (ran_with E.Limit count n rule)) all (record {
        is = going_limit (attempt (words_at strip) allowance) start limit before firings rule s.going h;
        cards = s.playable.cards;
        notices = s.playable.notices;
        sized = s.playable.sized;
      }))

  module _ (h : firings < limit) (look : Look) (kind' numbers' : List ℕ) (l : Looked strip allowance (kinds_of kinds) kind numbers count look kind' numbers') where
    -- an attempt that ends the run: the board stays
    stopped : (end : End) → board_in K kind' numbers' count ≡ before → ended (end_of end) before firings rule ≡ whole → (r : R.Ran) → r ≡ ran_with end count firings rule
        → RunEnds whole K kind' numbers' r
    stopped end stays e r q = rw q (record {
      is = ap (λ (b : Board). ended (end_of end) b firings rule) stays ∙ e;
      cards = s.playable.cards;
      notices = s.playable.notices;
      sized = l.sized;
    })

    stay : (q : Look) → look ≡ q → Stays before (board_in K kind' numbers' count) q
    stay q e = subst (Stays before (board_in K kind' numbers' count)) e l.stays

    pub run_quiet : look ≡ L.Quiet → (r : R.Ran) → r ≡ ran_with E.Quiet count firings rule → RunEnds whole K kind' numbers' r
    unfolding run_strip
    run_quiet e =
        stopped E.Quiet (stay L.Quiet e)
        (going_by (attempt (words_at strip) allowance) start limit before firings rule s.going h (attempt_of K kind' numbers' L.Quiet) (l.is ∙ ap (attempt_of K kind' numbers') e))

    pub run_full : look ≡ L.Full → (r : R.Ran) → r ≡ ran_with E.Full count firings rule → RunEnds whole K kind' numbers' r
    unfolding run_strip
    run_full e =
        stopped E.Full (stay L.Full e)
        (going_by (attempt (words_at strip) allowance) start limit before firings rule s.going h (attempt_of K kind' numbers' L.Full) (l.is ∙ ap (attempt_of K kind' numbers') e))

    pub run_spent : look ≡ L.Spent → (r : R.Ran) → r ≡ ran_with E.Spent count firings rule → RunEnds whole K kind' numbers' r
    unfolding run_strip
    run_spent e =
        stopped E.Spent (stay L.Spent e)
        (going_by (attempt (words_at strip) allowance) start limit before firings rule s.going h (attempt_of K kind' numbers' L.Spent) (l.is ∙ ap (attempt_of K kind' numbers') e))

    pub run_stuck : look ≡ L.Stuck → (r : R.Ran) → r ≡ ran_with E.Stuck count firings rule → RunEnds whole K kind' numbers' r
    unfolding run_strip
    run_stuck e =
        stopped E.Stuck (stay L.Stuck e)
        (going_by (attempt (words_at strip) allowance) start limit before firings rule s.going h (attempt_of K kind' numbers' L.Stuck) (l.is ∙ ap (attempt_of K kind' numbers') e))

    pub run-fired : (number : ℕ) (after : Count) → look ≡ L.Fired number after → Running strip kinds allowance start limit kind' numbers' after (firings + 1) number
    run-fired number after e =
        let l' : Looked strip allowance K kind numbers count (L.Fired number after) kind' numbers' = subst (λ (q : Look). Looked strip allowance K kind numbers count q kind' numbers') e l in
        record {
          playable = record {
            known = s.playable.known;
            sized = l'.sized;
            cards = l'.cards;
            notices = l'.notices;
            declared = l'.declared;
          };
          going = going_on (attempt (words_at strip) allowance) start limit before firings rule s.going h number (board_in K kind' numbers' after) l'.is;
        }
