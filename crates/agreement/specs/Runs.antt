-- Demand 3: "For every accepted book, the strip translated from it, run on any accepted board of that book with the same firing limit, any step
-- allowance and an output buffer that isn't SHORT, ends with the answer and board of demand 2, unless it reports the allowance spent."
use Rattle.std.specs.Prelude.{◌≡◌, refl, ◌↔◌, ◌⊎◌, ℕ, ◌^◌, ◌≤◌, ◌<◌, Bool, true, false, if◌then◌else◌}
use Rattle.std.proofs.Common.{sym, ap, ◌∙◌}
use Rattle.std.proofs.Math.Logic.{⊎_elim}
use Rattle.std.proofs.Math.Nat.{zero-add}
use Rattle.std.proofs.lemmas.Bool.{false≢true}
use Rattle.meaning.specs.Facts.{Board}
use Rattle.meaning.specs.Rules.{Book}
use Rattle.meaning.specs.Firing.{fire, Attempt, done, spent, stuck, End, Limit, Spent, Stuck, Ran, no_rule, ended, repeat, run}
use Rattle.meaning.specs.Words.{attempt, run_strip}
use Rattle.meaning.specs.Translation.{translate}
use Rattle.meaning.specs.WellFormed.{GoodBook, GoodBoard}
use Rattle.agreement.specs.Tools.{impossible}
use Rattle.agreement.specs.Attempts.{attempt_done_or_spent, attempt-done}
use Rattle.agreement.specs.Bound.{attempt_2^60_enough}
use Rattle.firings.specs.Keeping.{firing_keeps_good}
use Rattle.agreement.specs.Repeats.{Plain, Stopped, short_or_whole, short_spent, whole_plain, Keeps, repeat_same, repeat_keeps}

abbrev pub is_spent : Attempt → Bool
is_spent (done f) = false
is_spent spent = true
is_spent stuck = false

spent_is : (a : Attempt) → is_spent a ≡ true → a ≡ spent
spent_is (done f) h = absurd (false≢true h)
spent_is spent h = refl
spent_is stuck h = absurd (false≢true h)

-- the book's firing on a board, if the strip's attempt on it is within the allowance
abbrev pub fire_within : Book → ℕ → Board → Attempt
fire_within book allowance board = if is_spent (attempt (translate book) allowance board) then spent else done (fire book board)

attempt-is : {book : Book} {board : Board} → GoodBook book → GoodBoard book.kinds board → (allowance : ℕ)
    → attempt (translate book) allowance board ≡ fire_within book allowance board
attempt-is good board-good allowance = ⊎_elim (λ e. rw e) (λ e. rw e) (attempt_done_or_spent good board-good allowance)

module _ {book : Book} {board : Board} (good : GoodBook book) (board-good : GoodBoard book.kinds board) (limit allowance : ℕ) where
  abbrev ran : Ran
  ran = run_strip (translate book) limit allowance board

  keeps : Keeps (GoodBoard book.kinds) (attempt (translate book) allowance)
  keeps b rule b' g e = firing_keeps_good book good g (attempt-done good g allowance e)

  -- "ends with the answer and board of demand 2, unless it reports the allowance spent": the strip's run is the book's, with each attempt spent
  -- that takes more steps than allowed.
  pub strip_run_cut : ran ≡ repeat (fire_within book allowance) limit board 0 no_rule
  unfolding run_strip
  strip_run_cut = repeat_same (GoodBoard book.kinds) _ (fire_within book allowance)
      (λ b g. attempt-is good g allowance) keeps limit board 0 no_rule board-good

  short_or_run : (ran ≡ run book limit board) ⊎ Stopped (λ b. is_spent (attempt (translate book) allowance b)) (fire book) limit board 0 no_rule
  unfolding run
  short_or_run = rw strip_run_cut (short_or_whole (λ b. is_spent (attempt (translate book) allowance b)) (fire book) limit board 0 no_rule)

  -- So a run that does not end with SPENT is the book's, "the answer and board of demand 2".
  pub strip_run_plain : (ran.end ≡ Spent → ⊥) → ran ≡ run book limit board
  strip_run_plain not-spent = ⊎_elim (λ e. e) (λ s. absurd (not-spent (ap (λ r. r.end) (strip_run_cut ∙ s.after)))) short_or_run

  plain : (end : End) → ran ≡ run book limit board → ran.end ≡ end → Plain end
  unfolding run
  plain end e h = rw (ap (λ r. r.end) (sym e) ∙ h) at (whole_plain (λ b. false) (fire book) limit board 0 no_rule)

  -- "the board is then that of the firings completed": a run that reports it has the board, firings and rule of the book's run with so many
  -- firings for its limit, which has come to that limit; they are fewer than the limit, and the attempt on that board is spent.
  pub strip_run_spent : ran.end ≡ Spent
      → (ran.firings < limit) × (run book ran.firings board ≡ ended Limit ran.board ran.firings ran.rule) ×
      (attempt (translate book) allowance ran.board ≡ spent)
  unfolding run
  strip_run_spent h =
      ⊎_elim (λ e. absurd (plain Spent e h))
      (λ s. let e : ran ≡ ended Spent s.reached s.m s.last = strip_run_cut ∙ rw zero-add at s.after in
      rw e (s.few, rw zero-add at s.before, spent_is _ s.cut))
      short_or_run

  -- "It reports that exactly when one attempt at a firing takes more steps than allowed": one on a board that the book's run comes to short of the
  -- limit.
  pub strip_run_spent_iff : (ran.end ≡ Spent)
      ↔ ((m : ℕ) × (m < limit) × ((run book m board).end ≡ Limit) × (attempt (translate book) allowance (run book m board).board ≡ spent))
  unfolding run
  strip_run_spent_iff = (
    (λ h. let s = strip_run_spent h in (ran.firings, s.0, rw s.1, rw s.1 s.2)),
    λ s. rw strip_run_cut
        (short_spent (λ b. is_spent (attempt (translate book) allowance b)) (fire book) s.0 limit board 0 no_rule s.1 s.2 (rw s.3)),
  )

  -- "a translated strip is never stuck"
  pub strip_run_not_stuck : ran.end ≡ Stuck → ⊥
  strip_run_not_stuck h = ⊎_elim (λ e. plain Stuck e h) (λ s. impossible (cc (ap (λ r. r.end) (strip_run_cut ∙ s.after)))) short_or_run

  -- "Prove that for every accepted book and board a translated strip ends an attempt within 2 to the power 60 steps, so that with that allowance
  -- SPENT never comes" (order 9): the strip's run is then the book's.
  pub strip_run_2^60_plain : 2 ^ 60 ≤ allowance → ran ≡ run book limit board
  unfolding run_strip run
  strip_run_2^60_plain h = repeat_same (GoodBoard book.kinds) _ (λ b. done (fire book b))
      (λ b g. attempt_2^60_enough good g allowance h) keeps limit board 0 no_rule board-good

  -- "these write the board as of the last completed firing": a strip's run leaves a well-formed board
  pub strip_run_keeps_good : GoodBoard book.kinds ran.board
  unfolding run_strip
  strip_run_keeps_good = repeat_keeps (GoodBoard book.kinds) _ keeps limit board 0 no_rule board-good
