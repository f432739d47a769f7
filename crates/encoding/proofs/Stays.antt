-- No step of a good strip falls off its end (specs/Steps): from a place within it every word leads to a place within it, or ends the attempt.
use Rattle.std.specs.Prelude.{ℕ, zero, suc, ◌<◌, ◌≡◌, refl, ◌⊎◌, Bool, true, false, List, [], ◌∷◌, ◌++◌, map, length, replicate, eqb, if◌then◌else◌}
use Rattle.std.proofs.Common.{arith, sym, subst, inl, inr}
use Rattle.std.proofs.Math.Option.{Option, none, some}
use Rattle.std.proofs.Math.ListN.{get_elem?}
use Rattle.meaning.specs.Basics.{change, All}
use Rattle.meaning.specs.Facts.{Kind, Board, is_card, arity_of, rows_of}
use Rattle.meaning.specs.Rules.{value_of, holds}
use Rattle.meaning.specs.Fit.{may_stand}
use Rattle.meaning.specs.Firing.{full, done}
use Rattle.meaning.specs.Words.{Word, KIND, OPEN, SEEK, BIND, SAME, LIT, TEST, KEEP, PUT, ARG, JUMP, FIRE, QUIET, State, state, Stepped, going, ends, seek_from, argument_under, made_has_room, set_number, on_last, or_stuck, next_if, gone_for, sought, execute, step}
use Rattle.meaning.specs.WellFormed.{GoodWord, EndsWell, GoodStrip}
use Rattle.meaning.specs.Translation.{kind_word}
use Rattle.encoding.specs.Steps.{Stays}

-- the word at a place: a good one or a KIND, and if it may not be the last it is not
record Placed (kinds size : ℕ) (words : List Word) (at : ℕ) : Type 0 where
  word : Word
  there : get_elem? words at ≡ some word
  fine : GoodWord kinds size word ⊎ ((kind : Kind) × (word ≡ kind_word kind))
  onward : (EndsWell (word ∷ []) → ⊥) → suc at < length words

module _ (kinds size : ℕ) where
  abbrev Fine : Word → Type 0
  Fine w = GoodWord kinds size w ⊎ ((kind : Kind) × (w ≡ kind_word kind))

  all_others : (words : List Word) → All (GoodWord kinds size) words → All Fine words
  all_others [] g = tt
  all_others (w ∷ words) g = (inl g.0, all_others words g.1)

  all_fine : (first : List Kind) (others : List Word) → All (GoodWord kinds size) others → All Fine (map kind_word first ++ others)
  all_fine [] others g = all_others others g
  all_fine (kind ∷ first) others g = (inr (kind, refl), all_fine first others g)

  placed : (words : List Word) (at : ℕ) → at < length words → All Fine words → EndsWell words → Placed kinds size words at
  placed [] at h f e = absurd e
  placed (w ∷ []) zero h f e = record { word = w; there = refl; fine = f.0; onward = λ q. absurd (q e) }
  placed (w ∷ []) (suc at) h f e = let bad : ⊥ = omega arith in absurd bad
  placed (w ∷ w' ∷ words) zero h f e = record { word = w; there = refl; fine = f.0; onward = λ q. omega arith }
  placed (w ∷ w' ∷ words) (suc at) h f e =
      let p = placed (w' ∷ words) at (omega arith) f.1 e in
      record { word = p.word; there = p.there; fine = p.fine; onward = λ q. omega (arith, p.onward q) }

module _ (kinds : List Kind) (board : Board) (size : ℕ) where
  or_stuck_stays : {A : Type 0} (o : Option A) (next : A → Stepped) → ((a : A) → Stays size (next a)) → Stays size (or_stuck o next)
  or_stuck_stays none next h = tt
  or_stuck_stays (some a) next h = h a

  either : (t : Bool) (a b : ℕ) → a < size → b < size → (if t then a else b) < size
  either true a b h k = h
  either false a b h k = k

  either_stays : (t : Bool) (a b : Stepped) → Stays size a → Stays size b → Stays size (if t then a else b)
  either_stays true a b h k = h
  either_stays false a b h k = k

  sought_stays : (c k target : ℕ) (s : State) (o : Option ℕ) → suc s.at < size → target < size → Stays size (sought kinds board c k target s o)
  sought_stays c k target s none h t = t
  sought_stays c k target s (some row) h t = h

  word_stays : (w : Word) (s : State) (k : ℕ) → GoodWord k size w → ((EndsWell (w ∷ []) → ⊥) → suc s.at < size)
      → Stays size (execute kinds board w s)
  word_stays (KIND card arity) s k g next = absurd g
  word_stays (OPEN c) s k g next = next (λ q. q)
  word_stays (SEEK c kind target) s k g next =
      sought_stays c kind target s
      (seek_from (λ row f. may_stand kinds kind (gone_for kinds board c s) row f) (rows_of board (is_card kinds kind)) (s.cursors c)) (next (λ q. q)) g.2
  word_stays (BIND c i x) s k g next =
      or_stuck_stays (argument_under board (s.cursors c) i)
      (λ n. going (state (suc s.at) (change s.registers x n) s.cursors s.used s.made)) (λ n. next (λ q. q))
  word_stays (SAME c i x target) s k g next =
      or_stuck_stays (argument_under board (s.cursors c) i) (λ n. next_if kinds board (eqb n (s.registers x)) target s)
      (λ n. either (eqb n (s.registers x)) (suc s.at) target (next (λ q. q)) g.3)
  word_stays (LIT c i v target) s k g next =
      or_stuck_stays (argument_under board (s.cursors c) i) (λ n. next_if kinds board (eqb n v) target s)
      (λ n. either (eqb n v) (suc s.at) target (next (λ q. q)) g.3)
  word_stays (TEST t target) s k g next = either (holds s.registers t) (suc s.at) target (next (λ q. q)) g.1
  word_stays KEEP s k g next = next (λ q. q)
  word_stays (PUT kind) s k g next =
      let made = s.made ++ (record { kind = kind; numbers = replicate (arity_of kinds kind) 0 } ∷ []) in
      either_stays (made_has_room kinds made) (going (state (suc s.at) s.registers s.cursors s.used made)) (ends (done full)) (next (λ q. q)) tt
  word_stays (ARG i t) s k g next =
      or_stuck_stays (on_last (set_number i (value_of s.registers t)) s.made)
      (λ made. going (state (suc s.at) s.registers s.cursors s.used made)) (λ made. next (λ q. q))
  word_stays (JUMP target) s k g next = g
  word_stays (FIRE r) s k g next = tt
  word_stays QUIET s k g next = tt

  fine_stays : (w : Word) (s : State) (k : ℕ) → GoodWord k size w ⊎ ((kind : Kind) × (w ≡ kind_word kind))
      → ((EndsWell (w ∷ []) → ⊥) → suc s.at < size) → Stays size (execute kinds board w s)
  fine_stays w s k (inl g) next = word_stays w s k g next
  fine_stays w s k (inr (kind, e)) next =
      subst (λ (v : Word). Stays size (execute kinds board v s)) (sym e) (next (λ q. subst (λ (v : Word). EndsWell (v ∷ [])) e q))

-- A step from a word of a good strip goes to a word of it, or ends the attempt.
pub strip_stays : (words : List Word) (kinds : List Kind) (board : Board) (s : State) → GoodStrip words → s.at < length words
    → Stays (length words) (step words kinds board s)
unfolding step
strip_stays words kinds board s g h =
    let size = length words in
    let fine = subst (All (Fine (length g.kinds) size)) (sym g.split) (all_fine (length g.kinds) size g.kinds g.others g.good_others) in
    let p = placed (length g.kinds) size words s.at h fine g.last in
    rw p.there (fine_stays kinds board size p.word s (length g.kinds) p.fine p.onward)
