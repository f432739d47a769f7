-- A firing, and so a run, of a good book on a good board leaves a good board: kinds declared, classes right, numbers below 65,536, sizes kept. Values
-- come from the numbers of rows, made facts from values and constants, and room is what the firing looked for.
use Rattle.std.specs.Prelude.{◌≡◌, refl, ℕ, suc, ◌<◌, Bool, true, false, List, [], ◌∷◌, map, length, eqb, leb}
use Rattle.std.proofs.Common.{sym, ap, ◌∙◌, ⊎_elim, arith, eqb-true, leb-true}
use Rattle.std.proofs.lemmas.Bool.{false≢true}
use Rattle.std.proofs.Math.Option.{some}
use mathlib.Core.List.Memᴰ
use Rattle.std.proofs.Math.ListN.{get_elem?}
use Rattle.std.proofs.lemmas.List.{length-map}
use Rattle.meaning.specs.Basics.{In, All}
use Rattle.meaning.specs.Facts.{Kind, Fact, Board, number_limit, most_cards, most_notices, is_card, rows_of}
use Rattle.meaning.specs.Rules.{Term, constant, variable, Atom, Test, Sweep, Rule, Book, Values, value_of, occurs_in_terms, occurs_in}
use Rattle.meaning.specs.Fit.{Choice, Marks, Bindings, values_of, IsChoice, AtomsEqual, Known, nothing_known}
use Rattle.meaning.specs.Firing.{Work, head_facts, unused_rows, of_class, board_after, has_room, fired, fire, run}
use Rattle.meaning.specs.WellFormed.{GoodTerm, GoodAtom, GoodSweep, GoodRule, GoodBook, GoodFact, GoodBoard}
use Rattle.firings.specs.Basics.{cases, both, either, all_append, all-at}
use Rattle.firings.specs.Answers.{is_bound, unbound_zero, under_bound}
use Rattle.firings.specs.Fitting.{FitGives}
use Rattle.firings.specs.Choosing.{choices_exactly}
use Rattle.firings.specs.Sweeping.{Taken, Sweeping, over, passes, takes}
use Rattle.firings.specs.Sweeps.{SweepsDone, no_sweep, sweep_then, RuleDone}
use Rattle.firings.specs.Firings.{firing_is}
use Rattle.firings.specs.Runs.{Fires, no_more, fires_then, run_is}

-- ---- values are numbers of rows

abbrev Small : ℕ → Type 0
Small n = n < number_limit

abbrev SmallValues : Bindings → Type 0
SmallValues bindings = (x : ℕ) → Small (values_of bindings x)

term_small : (values : Values) (x : ℕ) (terms : List Term) → All Small (map (value_of values) terms) → occurs_in_terms x terms ≡ true → Small (values x)
term_small values x [] h o = absurd (false≢true o)
term_small values x (constant v ∷ terms) h o = term_small values x terms h.1 o
term_small values x (variable y ∷ terms) h o =
    ⊎_elim (λ q. rw (eqb-true x y q) h.0) (λ q. term_small values x terms h.1 q) (either (eqb x y) (occurs_in_terms x terms) o)

module _ (kinds : List Kind) (board : Board) (good : GoodBoard kinds board) where
  row_small : (card : Bool) (i : ℕ) (f : Fact) → get_elem? (rows_of board card) i ≡ some f → All Small f.numbers
  row_small true i f e = (all-at (GoodFact kinds true) board.cards i good.cards e).numbers
  row_small false i f e = (all-at (GoodFact kinds false) board.notices i good.notices e).numbers

  body_small : (values : Values) (x : ℕ) (atoms : List Atom) (rows : Choice) → IsChoice kinds board atoms rows → AtomsEqual values atoms rows
      → occurs_in x atoms ≡ true → Small (values x)
  body_small values x [] rows c h o = absurd (false≢true o)
  body_small values x (a ∷ atoms) [] c h o = absurd h
  body_small values x (a ∷ atoms) (r ∷ rows) c h o =
      let numbers = row_small (is_card kinds a.kind) r.at r.fact c.0 in
      ⊎_elim (λ q. term_small values x a.terms (rw (ap (λ (f : Fact). f.numbers) h.0) numbers) q)
      (λ q. body_small values x atoms rows c.1 h.1 q) (either (occurs_in_terms x a.terms) (occurs_in x atoms) o)

  found_small : (atoms : List Atom) (tests : List Test) (rows : Choice) (known k : Known) → IsChoice kinds board atoms rows
      → FitGives kinds atoms tests rows known k → SmallValues known.bindings → SmallValues k.bindings
  found_small atoms tests rows known k c g small x =
      cases (is_bound k.bindings x)
      (λ y. ⊎_elim (λ q. rw (under_bound known.bindings (values_of k.bindings) g.under x q) (small x))
      (body_small (values_of k.bindings) x atoms rows c g.equal)
      (either (is_bound known.bindings x) (occurs_in x atoms) (sym (g.binds x) ∙ y)))
      (λ y. rw (unbound_zero k.bindings x y) (omega arith))

-- ---- made facts are of declared kinds, with values and constants for numbers

-- a good fact of its own class
abbrev pub GoodMade : List Kind → Fact → Type 0
GoodMade kinds f = GoodFact kinds (is_card kinds f.kind) f

module _ (kinds : List Kind) (bound : ℕ → Bool) (bindings : Bindings) (small : SmallValues bindings) where
  terms_small : (terms : List Term) → All (GoodTerm bound) terms → All Small (map (value_of (values_of bindings)) terms)
  terms_small [] h = tt
  terms_small (constant v ∷ terms) h = (h.0, terms_small terms h.1)
  terms_small (variable x ∷ terms) h = (small x, terms_small terms h.1)

  heads-good : (heads : List Atom) → All (GoodAtom kinds bound) heads → All (GoodMade kinds) (head_facts bindings heads)
  heads-good [] h = tt
  heads-good (a ∷ heads) h = (
    record {
      declared = h.0.declared;
      class = refl;
      arity = length-map a.terms (value_of (values_of bindings)) ∙ h.0.arity;
      numbers = terms_small a.terms h.0.terms;
    },
    heads-good heads h.1,
  )

module _ (kinds : List Kind) (board : Board) (good : GoodBoard kinds board) where
  module _ (body : List Atom) (bindings : Bindings) (small : SmallValues bindings) where
    sweep-made : (sweep : Sweep) → GoodSweep kinds body sweep → {work last : Work} {cs : List Choice} {ts : List Taken}
        → Sweeping kinds sweep bindings work cs ts last → ((c : Choice) → In c cs → IsChoice kinds board sweep.body c)
        → All (GoodMade kinds) work.made → All (GoodMade kinds) last.made
    sweep-made sweep s over i h = h
    sweep-made sweep s (passes x l) i h = sweep-made sweep s l (λ c m. i c (Memᴰ.tail m)) h
    sweep-made sweep s {work} (takes {c = c} {k = k} g l) i h =
        let values = found_small kinds board good sweep.body sweep.tests c _ k (i c (Memᴰ.head refl)) g small in
        let heads = heads-good kinds _ k.bindings values sweep.heads s.group.head_atoms in
        sweep-made sweep s l (λ d m. i d (Memᴰ.tail m)) (all_append (GoodMade kinds) work.made (head_facts k.bindings sweep.heads) h heads)

    sweeps-made : {sweeps : List Sweep} {work last : Work} → SweepsDone kinds board bindings work sweeps last → All (GoodSweep kinds body) sweeps
        → All (GoodMade kinds) work.made → All (GoodMade kinds) last.made
    sweeps-made no_sweep s h = h
    sweeps-made (sweep_then {sweep = sweep} done more) s h =
        sweeps-made more s.1 (sweep-made sweep s.0 done.each (λ c. (choices_exactly kinds board sweep.body c).0) h)

  rule-made : (rule : Rule) → GoodRule kinds rule → (c : Choice) (k : Known) (last : Work) → IsChoice kinds board rule.body c
      → FitGives kinds rule.body rule.tests c nothing_known k → RuleDone kinds board rule k last → All (GoodMade kinds) last.made
  rule-made rule r c k last i g done =
      let small = found_small kinds board good rule.body rule.tests c nothing_known k i g (λ x. omega arith) in
      sweeps-made rule.body k.bindings small done r.sweeps (heads-good kinds _ k.bindings small rule.heads r.group.head_atoms)

-- ---- the board after

unused_good : (P : Fact → Type 0) (n : ℕ) (used : Marks) (facts : List Fact) → All P facts → All P (unused_rows n used facts)
unfolding unused_rows
unused_good P n used [] h = tt
unused_good P n used (f ∷ facts) h =
    let r = unused_good P (suc n) used facts h.1 in
    cases (used n) (λ y. rw y r) (λ y. rw y (h.0, r))

pub class-good : (kinds : List Kind) (card : Bool) (facts : List Fact) → All (GoodMade kinds) facts → All (GoodFact kinds card) (of_class kinds card facts)
unfolding of_class
class-good kinds card [] h = tt
class-good kinds true (f ∷ facts) h =
    let r = class-good kinds true facts h.1 in
    cases (is_card kinds f.kind) (λ y. rw y (rw y at h.0, r)) (λ y. rw y r)
class-good kinds false (f ∷ facts) h =
    let r = class-good kinds false facts h.1 in
    cases (is_card kinds f.kind) (λ y. rw y r) (λ y. rw y (rw y at h.0, r))

pub after-good : (kinds : List Kind) (board : Board) (work : Work) → GoodBoard kinds board → All (GoodMade kinds) work.made
    → has_room (board_after kinds board work) ≡ true → GoodBoard kinds (board_after kinds board work)
after-good kinds board work good made room =
    let after = board_after kinds board work in
    let sizes = both (leb (length after.cards) most_cards) (leb (length after.notices) most_notices) room in
    let unused = unused_rows 0 work.used board.cards in
    let left = unused_good (GoodFact kinds true) 0 work.used board.cards good.cards in
    let new : (card : Bool) → All (GoodFact kinds card) (of_class kinds card work.made) = λ card. class-good kinds card work.made made in
    record {
      cards_size = leb-true (length after.cards) most_cards sizes.0;
      notices_size = leb-true (length after.notices) most_notices sizes.1;
      cards = all_append (GoodFact kinds true) unused (of_class kinds true work.made) left (new true);
      notices = all_append (GoodFact kinds false) board.notices (of_class kinds false work.made) good.notices (new false);
    }

module _ (book : Book) (good : GoodBook book) where
  -- "Each fact has a kind and 0 to 4 numbers of 16 bits." "Board: 256 cards, 128 notices." A firing of a good book on a good board leaves a good board.
  pub firing_keeps_good : {board next : Board} {number : ℕ}
      → GoodBoard book.kinds board → fire book board ≡ fired number next → GoodBoard book.kinds next
  firing_keeps_good {board} {next} {number} b h =
      let w = firing_is book good board h in
      let r = all-at (GoodRule book.kinds) book.rules number good.rules w.listed in
      let made = rule-made book.kinds board b w.rule r w.first.choice w.known w.work w.first.is_choice w.first.gives w.swept in
      rw w.after (after-good book.kinds board w.work b made (rw w.after at w.room))

  firings_keep_good : {board last : Board} {before after m : ℕ}
      → Fires book board before m last after → GoodBoard book.kinds board → GoodBoard book.kinds last
  firings_keep_good no_more b = b
  firings_keep_good (fires_then h f l) b = firings_keep_good l (firing_keeps_good b h)

  -- So the board that a run ends with is a good board too.
  pub run_keeps_good : (limit : ℕ) (board : Board) → GoodBoard book.kinds board → GoodBoard book.kinds (run book limit board).board
  run_keeps_good limit board b = firings_keep_good (run_is book good limit board).sequence b
