-- A run is a sequence of firings, each as demanded, and it ends QUIET, LIMIT or FULL exactly as document 01 says, never SPENT or STUCK. By induction
-- on the firings that are left.
use Rattle.std.specs.Prelude.{◌≡◌, ◌↔◌}
use Rattle.std.proofs.Math.Path.{refl, sym}
use Rattle.std.proofs.Common.{ap, ◌∙◌, subst, add-zero, arith}
use Prim.Native.Nat.{ℕ, zero, suc, ◌+◌, ◌<◌}
use Rattle.std.proofs.Math.Nat.{zero-add}
use Rattle.meaning.specs.Basics.{All}
use Rattle.meaning.specs.Facts.{Board}
use Rattle.meaning.specs.Rules.{Book}
use Rattle.meaning.specs.Firing.{Firing, quiet, full, fired, fire, done, End, Quiet, Limit, Full, Spent, Stuck, Ran, no_rule, ended, go_on, repeat, run}
use Rattle.meaning.specs.WellFormed.{GoodBook}
use Rattle.firings.specs.Firings.{NoneFits, FiringIs, firing_is, FullIs, full_is, first_rule_fits, quiet_exactly_if_none_fits}

-- So many firings one after another, each as demanded: the board and the last rule before them, and the board and the last rule after.
pub data Fires (book : Book) : Board → ℕ → ℕ → Board → ℕ → Type 0 where
  no_more : {board : Board} {rule : ℕ} → Fires book board rule 0 board rule
  fires_then : {board next last : Board} {before rule after m : ℕ}
      → fire book board ≡ fired rule next → FiringIs book board rule next → Fires book next rule m last after
      → Fires book board before (suc m) last after

-- "limit reached, end with LIMIT; else look, and QUIET if no rule fits": how a run with this limit ends, after so many firings, on this board
abbrev pub EndsAs : Book → ℕ → ℕ → Board → End → Type 0
EndsAs book limit firings board Quiet = (firings < limit) × All (NoneFits book.kinds board) book.rules
EndsAs book limit firings board Limit = firings ≡ limit
EndsAs book limit firings board Full = (firings < limit) × FullIs book board
EndsAs book limit firings board Spent = ⊥
EndsAs book limit firings board Stuck = ⊥

-- the number of firings and the last rule are those of a sequence of firings
pub record RunIs (book : Book) (limit : ℕ) (board : Board) (ran : Ran) : Type 0 where
  pub sequence : Fires book board no_rule ran.firings ran.board ran.rule
  pub ending : EndsAs book limit ran.firings ran.board ran.end

-- the same of a run that has gone on for n firings
record RunFrom (book : Book) (limit : ℕ) (board : Board) (n rule : ℕ) (ran : Ran) : Type 0 where
  more : ℕ
  total : ran.firings ≡ n + more
  sequence : Fires book board rule more ran.board ran.rule
  ending : EndsAs book limit more ran.board ran.end

one_more_lem : (book : Book) (limit m : ℕ) (board : Board) (end : End) → EndsAs book limit m board end → EndsAs book (suc limit) (suc m) board end
one_more_lem book limit m board Quiet h = (omega arith, h.1)
one_more_lem book limit m board Limit h = ap suc h
one_more_lem book limit m board Full h = (omega arith, h.1)
one_more_lem book limit m board Spent h = h
one_more_lem book limit m board Stuck h = h

-- the three ends exclude each other
ends_one_way : (book : Book) (limit m : ℕ) (board : Board) (e e' : End) → EndsAs book limit m board e → EndsAs book limit m board e' → e ≡ e'
ends_one_way book limit m board Quiet Quiet h k = refl
ends_one_way book limit m board Quiet Limit h k = absurd (omega (arith, h.0))
ends_one_way book limit m board Quiet Full h k = absurd (first_rule_fits book.kinds board book.rules k.1.would h.1)
ends_one_way book limit m board Quiet Spent h k = absurd k
ends_one_way book limit m board Quiet Stuck h k = absurd k
ends_one_way book limit m board Limit Quiet h k = absurd (omega (arith, k.0))
ends_one_way book limit m board Limit Limit h k = refl
ends_one_way book limit m board Limit Full h k = absurd (omega (arith, k.0))
ends_one_way book limit m board Limit Spent h k = absurd k
ends_one_way book limit m board Limit Stuck h k = absurd k
ends_one_way book limit m board Full Quiet h k = absurd (first_rule_fits book.kinds board book.rules h.1.would k.1)
ends_one_way book limit m board Full Limit h k = absurd (omega (arith, h.0))
ends_one_way book limit m board Full Full h k = refl
ends_one_way book limit m board Full Spent h k = absurd k
ends_one_way book limit m board Full Stuck h k = absurd k
ends_one_way book limit m board Spent e' h k = absurd h
ends_one_way book limit m board Stuck e' h k = absurd h

module _ (book : Book) (good : GoodBook book) where
  abbrev from : ℕ → Board → ℕ → ℕ → Ran
  from limit board n rule = repeat (λ b. done (fire book b)) limit board n rule

  run-from : (limit : ℕ) (board : Board) (n rule : ℕ) → RunFrom book limit board n rule (from limit board n rule)
  unfolding repeat
  run-from zero board n rule = record { more = 0; total = sym (add-zero n); sequence = no_more; ending = refl }
  run-from (suc limit) board n rule = go (fire book board) refl (λ rule' next. run-from limit next (suc n) rule')
    where
      stops : (end : End) → EndsAs book (suc limit) 0 board end → RunFrom book (suc limit) board n rule (ended end board n rule)
      stops end h = record { more = 0; total = sym (add-zero n); sequence = no_more; ending = h }

      go : (f : Firing) → fire book board ≡ f → ((rule' : ℕ) (next : Board) → RunFrom book limit next (suc n) rule' (from limit next (suc n) rule'))
          → RunFrom book (suc limit) board n rule (go_on (done f) board n rule (λ rule' next. from limit next (suc n) rule'))
      go quiet e later = stops Quiet (omega arith, (quiet_exactly_if_none_fits book good board).0 e)
      go full e later = stops Full (omega arith, full_is book good board e)
      go (fired rule' next) e later =
          let w = later rule' next in
          let ran = from limit next (suc n) rule' in
          record {
            more = suc w.more;
            total = omega (arith, w.total);
            sequence = fires_then e (firing_is book good board e) w.sequence;
            ending = one_more_lem book limit w.more ran.board ran.end w.ending;
          }

  -- "A run repeats": its firings and its last rule are those of a sequence of firings, "firing by firing" as demanded, and it ends as said.
  pub run_is : (limit : ℕ) (board : Board) → RunIs book limit board (run book limit board)
  unfolding run
  run_is limit board =
      let w = run-from limit board 0 no_rule in
      let e = w.total ∙ zero-add w.more in
      record { sequence = rw e w.sequence; ending = rw e w.ending }

  module _ (limit : ℕ) (board : Board) where
    -- A run ends QUIET, LIMIT or FULL exactly as document 01 says, and never SPENT or STUCK.
    pub run_ends_exactly : (end : End)
        → ((run book limit board).end ≡ end) ↔ EndsAs book limit (run book limit board).firings (run book limit board).board end
    run_ends_exactly end =
        let ran = run book limit board in
        let h = (run_is limit board).ending in
        ((λ e. subst (EndsAs book limit ran.firings ran.board) e h), ends_one_way book limit ran.firings ran.board ran.end end h)

    -- "Such a run short of its firing limit ends quiet exactly if no choice of rows fits any rule."
    pub run_quiet_exactly_if_none_fits : (run book limit board).firings < limit
        → ((run book limit board).end ≡ Quiet) ↔ All (NoneFits book.kinds (run book limit board).board) book.rules
    run_quiet_exactly_if_none_fits short = let w = run_ends_exactly Quiet in ((λ e. (w.0 e).1), λ h. w.1 (short, h))
