-- Steps in a row: `Leads` says that from a state the attempt ends with a firing, and in how many steps at the most. Each word's law takes what
-- the state after it leads to; so the proofs go backwards, from FIRE and QUIET to the first word.
use Rattle.std.specs.Prelude.{◌≡◌, refl, ℕ, zero, suc, ◌+◌, ◌≤◌, List, [], ◌∷◌, ◌++◌, length, leb, if◌then◌else◌}
use Rattle.std.proofs.Common.{ap, add-zero, arith}
use Rattle.std.proofs.Math.Option.{some}
use Rattle.std.proofs.Math.ListN.{get_elem?}
use Rattle.std.proofs.Math.Dec.{leb-zero, leb-suc-suc, leb-suc-zero}
use Rattle.meaning.specs.Facts.{Kind, Board}
use Rattle.meaning.specs.Firing.{Firing, done, spent}
use Rattle.meaning.specs.Words.{Word, State, going, ends, execute, execute_at, step, attempt_from}

-- a strip at work on a board
pub record Machine : Type 0 where
  pub words : List Word
  pub kinds : List Kind
  pub board : Board

-- From this state the attempt ends with the firing, after some number of steps within the limit: an allowance of so many is enough, and with
-- less it is spent.
pub record Leads (m : Machine) (limit : ℕ) (s : State) (firing : Firing) : Type 0 where
  pub steps : ℕ
  pub few : steps ≤ limit
  pub result : (allowance : ℕ) → attempt_from m.words m.kinds m.board allowance s ≡ (if leb steps allowance then done firing else spent)

pub within : {m : Machine} {n k : ℕ} {s : State} {f : Firing} → n ≤ k → Leads m n s f → Leads m k s f
within h l = record { steps = l.steps; few = let few = l.few in omega arith; result = l.result }

-- the word at the counter is executed
execute-at : (m : Machine) (s : State) {w : Word} → get_elem? m.words s.at ≡ some w
    → step m.words m.kinds m.board s ≡ execute m.kinds m.board w s
unfolding step
execute-at m s e = ap (λ o. execute_at m.kinds m.board o s) e

-- a word that goes on
pub go : {m : Machine} {n : ℕ} {s s' : State} {f : Firing} {w : Word}
    → get_elem? m.words s.at ≡ some w → execute m.kinds m.board w s ≡ going s' → Leads m n s' f → Leads m (suc n) s f
unfolding attempt_from
go {m} {s} {f} e x l = record { steps = suc l.steps; few = let few = l.few in omega arith; result = on }
  where
    on : (allowance : ℕ) → attempt_from m.words m.kinds m.board allowance s ≡ (if leb (suc l.steps) allowance then done f else spent)
    on zero = rw leb-suc-zero
    on (suc a) = rw (leb-suc-suc, execute-at m s e, x) (l.result a)

-- a word that ends the attempt
pub stop : {m : Machine} {n : ℕ} {s : State} {f : Firing} {w : Word}
    → get_elem? m.words s.at ≡ some w → execute m.kinds m.board w s ≡ ends (done f) → Leads m (suc n) s f
unfolding attempt_from
stop {m} {s} {f} e x = record { steps = 1; few = omega arith; result = on }
  where
    on : (allowance : ℕ) → attempt_from m.words m.kinds m.board allowance s ≡ (if leb 1 allowance then done f else spent)
    on zero = refl
    on (suc a) = rw (leb-suc-suc 0 a, leb-zero, execute-at m s e, x)

-- ---- words at an address

-- these words stand at that address
abbrev pub At : Machine → ℕ → List Word → Type 0
At m p [] = Unit {0}
At m p (w ∷ words) = (get_elem? m.words p ≡ some w) × At m (suc p) words

-- the first of them here, the others so much further on
pub halves : (m : Machine) (p q : ℕ) (xs ys : List Word) → p + length xs ≡ q → At m p (xs ++ ys) → At m p xs × At m q ys
halves m p q [] ys e h = (tt, rw (← e, add-zero) h)
halves m p q (x ∷ xs) ys e h = let r = halves m (suc p) q xs ys (omega arith) h.1 in ((h.0, r.0), r.1)
