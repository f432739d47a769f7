-- Laws of `repeat`, the loop that every run is: a run cut short where an attempt is over its allowance, runs that are equal where their attempts
-- are, and what holds of the board after each firing.
use Rattle.std.specs.Prelude.{◌≡◌, ◌⊎◌, Bool, true, if◌then◌else◌}
use Rattle.std.proofs.Math.Path.{refl}
use Rattle.std.proofs.Math.Logic.{inl, inr, ⊎_elim}
use Prim.Native.Nat.{ℕ, zero, suc, ◌+◌, ◌<◌}
use Rattle.std.proofs.Common.{add-zero, suc-add, arith}
use Rattle.std.proofs.Math.Nat.{add-suc}
use Rattle.meaning.specs.Facts.{Board}
use Rattle.meaning.specs.Firing.{Firing, quiet, full, fired, Attempt, done, spent, stuck, End, Quiet, Limit, Full, Spent, Stuck, Ran, ended, go_on, repeat}
use Rattle.agreement.specs.Tools.{cases, impossible}

-- a firing's three cases, with the equation
firings_cases : {X : Type 0} (f : Firing) → (f ≡ quiet → X) → (f ≡ full → X) → ((rule : ℕ) (board : Board) → f ≡ fired rule board → X) → X
firings_cases quiet is_quiet is-full is-fired = is_quiet refl
firings_cases full is_quiet is-full is-fired = is-full refl
firings_cases (fired rule board) is_quiet is-full is-fired = is-fired rule board refl

-- ends of a book's run
abbrev pub Plain : End → Type 0
Plain Quiet = Unit {0}
Plain Limit = Unit {0}
Plain Full = Unit {0}
Plain Spent = ⊥
Plain Stuck = ⊥

-- ---- a run cut short where an attempt is over its allowance

module _ (over : Board → Bool) (firing : Board → Firing) where
  abbrev pub whole : Board → Attempt
  whole board = done (firing board)

  abbrev pub short : Board → Attempt
  short board = if over board then spent else done (firing board)

  -- the short run is spent after m firings, with the board and rule of the whole run's first m firings
  pub record Stopped (limit : ℕ) (board : Board) (firings rule : ℕ) : Type 0 where
    pub m : ℕ
    pub few : m < limit
    pub reached : Board
    pub last : ℕ
    pub before : repeat whole m board firings rule ≡ ended Limit reached (firings + m) last
    pub after : repeat short limit board firings rule ≡ ended Spent reached (firings + m) last
    pub cut : over reached ≡ true

  pub short_or_whole : (limit : ℕ) (board : Board) (firings rule : ℕ)
      → (repeat short limit board firings rule ≡ repeat whole limit board firings rule) ⊎ Stopped limit board firings rule
  unfolding repeat
  short_or_whole zero board firings rule = inl refl
  short_or_whole (suc left) board firings rule =
      cases (over board)
      (λ y. inr (record { m = 0; few = omega arith; reached = board; last = rule; before = rw add-zero; after = rw (y, add-zero); cut = y }))
      (λ y. firings_cases (firing board) (λ q. inl (rw (y, q))) (λ q. inl (rw (y, q)))
      (λ rule' board' q. ⊎_elim (λ e. inl (rw (y, q) e))
      (λ s. inr (record {
        m = suc s.m;
        few = let few = s.few in omega arith;
        reached = s.reached;
        last = s.last;
        before = rw (q, add-suc, ← suc-add) s.before;
        after = rw (y, q, add-suc, ← suc-add) s.after;
        cut = s.cut;
      }))
      (short_or_whole left board' (suc firings) rule')))

  -- where the whole run comes to a board on which the attempt is over, the short run is spent
  pub short_spent : (m limit : ℕ) (board : Board) (firings rule : ℕ) → m < limit → (repeat whole m board firings rule).end ≡ Limit
      → over (repeat whole m board firings rule).board ≡ true → (repeat short limit board firings rule).end ≡ Spent
  unfolding repeat
  short_spent m zero board firings rule few e cut = absurd (omega arith)
  short_spent zero (suc left) board firings rule few e cut = rw cut
  short_spent (suc m) (suc left) board firings rule few e cut =
      cases (over board) (λ y. rw y)
      (λ y. firings_cases (firing board)
      (λ q. impossible (cc (rw q at e)))
      (λ q. impossible (cc (rw q at e)))
      (λ rule' board' q. rw (y, q) (short_spent m left board' (suc firings) rule' (omega arith) (rw q at e) (rw q at cut))))

  -- the whole run is never spent or stuck
  pub whole_plain : (limit : ℕ) (board : Board) (firings rule : ℕ) → Plain (repeat whole limit board firings rule).end
  unfolding repeat
  whole_plain zero board firings rule = tt
  whole_plain (suc left) board firings rule =
      firings_cases (firing board) (λ q. rw q tt) (λ q. rw q tt) (λ rule' board' q. rw q (whole_plain left board' (suc firings) rule'))

-- two ways to go on from one attempt are related if they are where it fires
go_on_lem : (R : Ran → Ran → Type 0) (a : Attempt) (board : Board) (firings rule : ℕ) (next next' : ℕ → Board → Ran)
    → ((end : End) → R (ended end board firings rule) (ended end board firings rule))
    → ((rule' : ℕ) (board' : Board) → a ≡ done (fired rule' board') → R (next rule' board') (next' rule' board'))
    → R (go_on a board firings rule next) (go_on a board firings rule next')
go_on_lem R (done quiet) board firings rule next next' here later = here Quiet
go_on_lem R (done full) board firings rule next next' here later = here Full
go_on_lem R (done (fired rule' board')) board firings rule next next' here later = later rule' board' refl
go_on_lem R spent board firings rule next next' here later = here Spent
go_on_lem R stuck board firings rule next next' here later = here Stuck

-- what holds of the board holds of the board after a firing
abbrev pub Keeps : (Board → Type 0) → (Board → Attempt) → Type 0
Keeps P look = (board : Board) (rule : ℕ) (board' : Board) → P board → look board ≡ done (fired rule board') → P board'

-- runs whose attempts are equal on the boards that they come to are equal
pub repeat_same : (P : Board → Type 0) (look look' : Board → Attempt) → ((board : Board) → P board → look board ≡ look' board) → Keeps P look
    → (limit : ℕ) (board : Board) (firings rule : ℕ) → P board → repeat look limit board firings rule ≡ repeat look' limit board firings rule
unfolding repeat
repeat_same P look look' same keeps zero board firings rule p = refl
repeat_same P look look' same keeps (suc left) board firings rule p =
    rw (← (same board p))
    (go_on_lem ◌≡◌ (look board) board firings rule _ _ (λ end. refl) (λ rule' board' e. repeat_same P look look' same keeps left board' (suc firings) rule'
    (keeps board rule' board' p e)))

pub repeat_keeps : (P : Board → Type 0) (look : Board → Attempt) → Keeps P look → (limit : ℕ) (board : Board) (firings rule : ℕ) → P board
    → P (repeat look limit board firings rule).board
unfolding repeat
repeat_keeps P look keeps zero board firings rule p = p
repeat_keeps P look keeps (suc left) board firings rule p =
    go_on_lem (λ ran _. P ran.board) (look board) board firings rule _ (λ rule' board'. ended Quiet board' 0 rule') (λ end. p)
    (λ rule' board' e. repeat_keeps P look keeps left board' (suc firings) rule' (keeps board rule' board' p e))
