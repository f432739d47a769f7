-- A run of any accepted strip leaves a good board: registers hold 16-bit numbers, since they come from rows; made facts are of declared kinds with
-- 16-bit numbers; and FIRE looks for room. One law a word, then an attempt, then the run.
use Prim.Native.Nat.{ℕ, zero, suc, ◌<◌}
use native.Mathlib.Omega.{arith}
use Rattle.std.proofs.Math.Path.{◌≡◌, refl, subst}
use Rattle.std.proofs.Common.{sym, ◌∙◌, inl, inr, length-set}
use Rattle.std.specs.Prelude.{◌⊎◌, Bool, true, false, length, set, replicate, eqb, ltb, if◌then◌else◌}
use Rattle.std.proofs.Math.Option.{Option, none, some, some-injective}
use mathlib.Core.List.{List, [], ◌∷◌, ◌++◌, map}
use Rattle.std.proofs.Math.ListN.{get_elem?}
use Rattle.std.proofs.lemmas.List.{length-replicate}
use Rattle.meaning.specs.Basics.{◌>>=◌, change, All}
use Rattle.meaning.specs.Facts.{Kind, Fact, Board, number_limit, is_card, arity_of, rows_of}
use Rattle.meaning.specs.Rules.{Term, constant, variable, Values, value_of, holds}
use Rattle.meaning.specs.Fit.{may_stand}
use Rattle.meaning.specs.Firing.{Work, board_after, has_room, settle, quiet, full, fired, Attempt, done, spent, stuck, go_on, repeat, no_rule}
use Rattle.meaning.specs.Words.{Word, KIND, OPEN, SEEK, BIND, SAME, LIT, TEST, KEEP, PUT, ARG, JUMP, FIRE, QUIET, Cursor, opened, on, past, State, Stepped, going, ends, strip_kinds, argument_under, made_has_room, set_number, on_last, or_stuck, seek_from, gone_for, sought, next_if, execute, execute_at, step, start, go_on_from, attempt_from, attempt, run_strip}
use Rattle.meaning.specs.WellFormed.{GoodTerm, any_variable, GoodWord, GoodStrip, GoodFact, GoodBoard}
use Rattle.meaning.specs.Translation.{kind_word}
use Rattle.encoding.specs.Steps.{strip_kinds_lem}
use Rattle.firings.specs.Basics.{all_append, all-at, cases}
use Rattle.firings.specs.Keeping.{GoodMade, after-good}

module _ (kinds : List Kind) (board : Board) (good : GoodBoard kinds board) where
  -- registers are 16-bit numbers, made facts are good ones of their own class
  record Sound (s : State) : Type 0 where
    registers : (x : ℕ) → s.registers x < number_limit
    made : All (GoodMade kinds) s.made

  -- what a step leaves: a sound state, or at a firing a good board
  abbrev Leaves : Attempt → Type 0
  Leaves (done quiet) = Unit {0}
  Leaves (done full) = Unit {0}
  Leaves (done (fired r rows)) = GoodBoard kinds rows
  Leaves spent = Unit {0}
  Leaves stuck = Unit {0}

  data Keeps : Stepped → Type 0 where
    keeps_going : {s : State} → Sound s → Keeps (going s)
    keeps_end : {a : Attempt} → Leaves a → Keeps (ends a)

  keeps_if : (t : Bool) (a b : Stepped) → Keeps a → Keeps b → Keeps (if t then a else b)
  keeps_if true a b h k = h
  keeps_if false a b h k = k

  keeps_stuck : {A : Type 0} (o : Option A) (next : A → Stepped) → ((a : A) → o ≡ some a → Keeps (next a)) → Keeps (or_stuck o next)
  keeps_stuck none next h = keeps_end tt
  keeps_stuck (some a) next h = h a refl

  -- ---- numbers

  row-numbers : (card : Bool) (i : ℕ) (f : Fact) → get_elem? (rows_of board card) i ≡ some f → All (λ n. n < number_limit) f.numbers
  row-numbers true i f e = (all-at (GoodFact kinds true) board.cards i good.cards e).numbers
  row-numbers false i f e = (all-at (GoodFact kinds false) board.notices i good.notices e).numbers

  argument_small : (cursor : Cursor) (i n : ℕ) → argument_under board cursor i ≡ some n → n < number_limit
  argument_small opened i n e = let z : ◌≡◌ {A = ℕ} 0 1 = cc in let bad : ⊥ = omega arith in absurd bad
  argument_small past i n e = let z : ◌≡◌ {A = ℕ} 0 1 = cc in let bad : ⊥ = omega arith in absurd bad
  argument_small (on card at) i n e = by (get_elem? (rows_of board card) at) refl e
    where
      by : (o : Option Fact) → get_elem? (rows_of board card) at ≡ o → (o >>= λ f. get_elem? f.numbers i) ≡ some n → n < number_limit
      by none q h = let z : ◌≡◌ {A = ℕ} 0 1 = cc in let bad : ⊥ = omega arith in absurd bad
      by (some f) q h = all-at (λ m. m < number_limit) f.numbers i (row-numbers card at f q) h

  change_small : (registers : Values) (x n : ℕ) → ((y : ℕ) → registers y < number_limit) → n < number_limit → (y : ℕ) → change registers x n y < number_limit
  change_small registers x n h k y = cases (eqb y x) (λ e. rw e k) (λ e. rw e (h y))

  term_small : (registers : Values) (bound : ℕ → Bool) (t : Term) → ((y : ℕ) → registers y < number_limit) → GoodTerm bound t → value_of registers t < number_limit
  term_small registers bound (constant v) h g = g
  term_small registers bound (variable x) h g = h x

  -- ---- made facts

  zeros_small : (n : ℕ) → All (λ m. m < number_limit) (replicate n 0)
  zeros_small zero = tt
  zeros_small (suc n) = (omega arith, zeros_small n)

  set_small : (l : List ℕ) (i v : ℕ) → All (λ m. m < number_limit) l → v < number_limit → All (λ m. m < number_limit) (set l i v)
  set_small [] i v h k = tt
  set_small (x ∷ l) zero v h k = (k, h.1)
  set_small (x ∷ l) (suc i) v h k = (h.0, set_small l i v h.1 k)

  set-good : (i v : ℕ) (f g : Fact) → v < number_limit → GoodMade kinds f → set_number i v f ≡ some g → GoodMade kinds g
  set-good i v f g k h e = by (ltb i (length f.numbers)) e
    where
      by : (t : Bool) → (if t then some (record { kind = f.kind; numbers = set f.numbers i v }) else none) ≡ some g → GoodMade kinds g
      by false q = let z : ◌≡◌ {A = ℕ} 0 1 = cc in let bad : ⊥ = omega arith in absurd bad
      by true q =
          subst (GoodMade kinds) (some-injective _ g q)
          (record { declared = h.declared; class = refl; arity = length-set f.numbers i v ∙ h.arity; numbers = set_small f.numbers i v h.numbers k })

  last_good : (f : Fact → Option Fact) → ((x y : Fact) → GoodMade kinds x → f x ≡ some y → GoodMade kinds y)
      → (facts made : List Fact) → All (GoodMade kinds) facts → on_last f facts ≡ some made → All (GoodMade kinds) made
  unfolding on_last
  last_good f h [] made g e = let z : ◌≡◌ {A = ℕ} 0 1 = cc in let bad : ⊥ = omega arith in absurd bad
  last_good f h (x ∷ []) made g e = by (f x) refl e
    where
      by : (o : Option Fact) → f x ≡ o → (o >>= λ y. some (y ∷ [])) ≡ some made → All (GoodMade kinds) made
      by none q k = let z : ◌≡◌ {A = ℕ} 0 1 = cc in let bad : ⊥ = omega arith in absurd bad
      by (some y) q k = subst (All (GoodMade kinds)) (some-injective _ made k) (h x y g.0 q, tt)
  last_good f h (x ∷ y ∷ more) made g e = by (on_last f (y ∷ more)) (λ l q. last_good f h (y ∷ more) l g.1 q) refl e
    where
      by : (o : Option (List Fact)) → ((l : List Fact) → on_last f (y ∷ more) ≡ some l → All (GoodMade kinds) l) → on_last f (y ∷ more) ≡ o
          → (o >>= λ l. some (x ∷ l)) ≡ some made → All (GoodMade kinds) made
      by none r q k = let z : ◌≡◌ {A = ℕ} 0 1 = cc in let bad : ⊥ = omega arith in absurd bad
      by (some l) r q k = subst (All (GoodMade kinds)) (some-injective _ made k) (g.0, r l q)

  -- ---- one word

  settle_keeps : (r : ℕ) (work : Work) → All (GoodMade kinds) work.made → Keeps (ends (done (settle kinds board r work)))
  settle_keeps r work h = by (has_room (board_after kinds board work)) refl
    where
      by : (t : Bool) → has_room (board_after kinds board work) ≡ t → Keeps (ends (done (if t then fired r (board_after kinds board work) else full)))
      by true e = keeps_end (after-good kinds board work good h e)
      by false e = keeps_end tt

  sought_keeps : (c k target : ℕ) (s : State) (o : Option ℕ) → Sound s → Keeps (sought kinds board c k target s o)
  sought_keeps c k target s none h = keeps_going (record { registers = h.registers; made = h.made })
  sought_keeps c k target s (some row) h = keeps_going (record { registers = h.registers; made = h.made })

  next_keeps : (t : Bool) (target : ℕ) (s : State) → Sound s → Keeps (next_if kinds board t target s)
  next_keeps t target s h = keeps_going (record { registers = h.registers; made = h.made })

  word_keeps : (w : Word) (s : State) (size : ℕ) → GoodWord (length kinds) size w ⊎ ((kind : Kind) × (w ≡ kind_word kind)) → Sound s → Keeps (execute kinds board w s)
  word_keeps (KIND card arity) s size g h = keeps_going (record { registers = h.registers; made = h.made })
  word_keeps (OPEN c) s size g h = keeps_going (record { registers = h.registers; made = h.made })
  word_keeps (SEEK c k target) s size g h = sought_keeps c k target s (seek_from (λ row f. may_stand kinds k (gone_for kinds board c s) row f) (rows_of board (is_card kinds k)) (s.cursors c)) h
  word_keeps (BIND c i x) s size g h =
      keeps_stuck (argument_under board (s.cursors c) i) _
      (λ n e. keeps_going (record { registers = change_small s.registers x n h.registers (argument_small (s.cursors c) i n e); made = h.made }))
  word_keeps (SAME c i x target) s size g h =
      keeps_stuck (argument_under board (s.cursors c) i) _ (λ n e. next_keeps (eqb n (s.registers x)) target s h)
  word_keeps (LIT c i v target) s size g h = keeps_stuck (argument_under board (s.cursors c) i) _ (λ n e. next_keeps (eqb n v) target s h)
  word_keeps (TEST t target) s size g h = next_keeps (holds s.registers t) target s h
  word_keeps KEEP s size g h = keeps_going (record { registers = h.registers; made = h.made })
  word_keeps (PUT k) s size (inl g) h =
      let new : Fact = record { kind = k; numbers = replicate (arity_of kinds k) 0 } in
      keeps_if (made_has_room kinds (s.made ++ (new ∷ []))) _ _
      (keeps_going (record {
        registers = h.registers;
        made = all_append (GoodMade kinds) s.made (new ∷ []) h.made
            (record { declared = g; class = refl; arity = length-replicate (arity_of kinds k) 0; numbers = zeros_small (arity_of kinds k) }, tt);
      })) (keeps_end tt)
  word_keeps (PUT k) s size (inr (kind, e)) h = let z : ◌≡◌ {A = ℕ} 0 1 = cc in let bad : ⊥ = omega arith in absurd bad
  word_keeps (ARG i t) s size (inl g) h =
      keeps_stuck (on_last (set_number i (value_of s.registers t)) s.made) _
      (λ made e. keeps_going (record {
        registers = h.registers;
        made = last_good (set_number i (value_of s.registers t))
            (λ x y gx q. set-good i (value_of s.registers t) x y (term_small s.registers any_variable t h.registers g.1) gx q) s.made made h.made e;
      }))
  word_keeps (ARG i t) s size (inr (kind, e)) h = let z : ◌≡◌ {A = ℕ} 0 1 = cc in let bad : ⊥ = omega arith in absurd bad
  word_keeps (JUMP target) s size g h = keeps_going (record { registers = h.registers; made = h.made })
  word_keeps (FIRE r) s size g h = settle_keeps r (record { used = s.used; made = s.made }) h.made
  word_keeps QUIET s size g h = keeps_end tt

-- ---- an attempt

-- each word of a good strip is good, or one of its KINDs
abbrev Fine : List Kind → ℕ → Word → Type 0
Fine kinds size w = GoodWord (length kinds) size w ⊎ ((kind : Kind) × (w ≡ kind_word kind))

fine_others : (kinds : List Kind) (size : ℕ) (words : List Word) → All (GoodWord (length kinds) size) words → All (Fine kinds size) words
fine_others kinds size [] g = tt
fine_others kinds size (w ∷ words) g = (inl g.0, fine_others kinds size words g.1)

fine_words : (kinds : List Kind) (size : ℕ) (first : List Kind) (others : List Word) → All (GoodWord (length kinds) size) others
    → All (Fine kinds size) (map kind_word first ++ others)
fine_words kinds size [] others g = fine_others kinds size others g
fine_words kinds size (kind ∷ first) others g = (inr (kind, refl), fine_words kinds size first others g)

strip_fine : (words : List Word) → GoodStrip words → All (Fine (strip_kinds words) (length words)) words
strip_fine words g =
    subst (λ (ks : List Kind). All (Fine ks (length words)) words) (sym (strip_kinds_lem words g))
    (subst (All (Fine g.kinds (length words))) (sym g.split) (fine_words g.kinds (length words) g.kinds g.others g.good_others))

module _ (words : List Word) (strip : GoodStrip words) (board : Board) (good : GoodBoard (strip_kinds words) board) where
  abbrev kinds : List Kind
  kinds = strip_kinds words

  step_keeps : (s : State) → Sound kinds board good s → Keeps kinds board good (step words kinds board s)
  unfolding step
  step_keeps s h = by (get_elem? words s.at) refl
    where
      by : (o : Option Word) → get_elem? words s.at ≡ o → Keeps kinds board good (execute_at kinds board o s)
      by none e = keeps_end tt
      by (some w) e = word_keeps kinds board good w s (length words) (all-at (Fine kinds (length words)) words s.at (strip_fine words strip) e) h

  from_keeps : (allowance : ℕ) (s : State) → Sound kinds board good s → Leaves kinds board good (attempt_from words kinds board allowance s)
  unfolding attempt_from
  from_keeps zero s h = tt
  from_keeps (suc allowance) s h = by (step words kinds board s) (step_keeps s h) (λ s' k. from_keeps allowance s' k)
    where
      by : (r : Stepped) → Keeps kinds board good r → ((s' : State) → Sound kinds board good s' → Leaves kinds board good (attempt_from words kinds board allowance s'))
          → Leaves kinds board good (go_on_from r (λ s'. attempt_from words kinds board allowance s'))
      by (going s') (keeps_going k) rec = rec s' k
      by (ends a) (keeps_end k) rec = k

  attempt_keeps : (allowance : ℕ) → Leaves kinds board good (attempt words allowance board)
  unfolding attempt start
  attempt_keeps allowance = from_keeps allowance (start words) (record { registers = λ x. omega arith; made = tt })

-- ---- the run

module _ (words : List Word) (strip : GoodStrip words) (allowance : ℕ) where
  abbrev More : ℕ → Board → ℕ → ℕ → Type 0
  More left rows firings rule = GoodBoard (strip_kinds words) (repeat (attempt words allowance) left rows firings rule).board

  repeat_keeps : (left : ℕ) (rows : Board) → GoodBoard (strip_kinds words) rows → (firings rule : ℕ) → More left rows firings rule
  unfolding repeat
  repeat_keeps zero rows g firings rule = g
  repeat_keeps (suc left) rows g firings rule =
      by (attempt words allowance rows) (attempt_keeps words strip rows g allowance) (λ r b k. repeat_keeps left b k (suc firings) r)
    where
      by : (a : Attempt) → Leaves (strip_kinds words) rows g a → ((r : ℕ) (b : Board) → GoodBoard (strip_kinds words) b → More left b (suc firings) r)
          → GoodBoard (strip_kinds words) (go_on a rows firings rule (λ r b. repeat (attempt words allowance) left b (suc firings) r)).board
      by (done quiet) k rec = g
      by (done full) k rec = g
      by (done (fired r b)) k rec = rec r b k
      by spent k rec = g
      by stuck k rec = g

-- A run of an accepted strip on a good board leaves a good board.
pub strip_run_keeps_good : (words : List Word) → GoodStrip words → (limit allowance : ℕ) (board : Board) → GoodBoard (strip_kinds words) board
    → GoodBoard (strip_kinds words) (run_strip words limit allowance board).board
unfolding run_strip
strip_run_keeps_good words strip limit allowance board good = repeat_keeps words strip allowance limit board good 0 no_rule
