-- One body atom: OPEN, SEEK and its argument words go through the atom's rows in order and come to the words behind it with each row that fits.
-- The law is one for a search, which goes on behind a row until one is found, and for a sweep, which comes back with other work done.
use Rattle.std.specs.Prelude.{◌≡◌, Bool, true, false, length, eqb}
use Rattle.std.proofs.Math.Path.{refl, fun_ext}
use Rattle.std.proofs.Common.{sym, ◌∙◌, add-suc, suc-add, arith, eqb-true}
use Prim.Native.Nat.{ℕ, suc, ◌+◌, ◌*◌, ◌≤◌, ◌<◌}
use Rattle.std.proofs.Math.Nat.{add-zero}
use Rattle.std.proofs.lemmas.Bool.{false≢true}
use Rattle.std.proofs.Math.Option.{Option, none, some}
use mathlib.Core.List.{List, [], ◌∷◌}
use Rattle.std.proofs.Math.ListN.{drop, get_elem?}
use Rattle.meaning.specs.Basics.{change, mem}
use Rattle.meaning.specs.Facts.{Kind, Fact, Board, is_card, arity_of, rows_of}
use Rattle.meaning.specs.Rules.{Term, constant, variable, Atom, Test, Values}
use Rattle.meaning.specs.Fit.{Row, Bindings, Known, Marks, lookup, agree, agree_all, may_stand, take_row, fit_row, numbered}
use Rattle.meaning.specs.Firing.{Work, Firing}
use Rattle.meaning.specs.WellFormed.{GoodFact, GoodBoard}
use Rattle.meaning.specs.Words.{Word, cursor_count, OPEN, SEEK, opened, on, past, Cursors, State, state, execute, argument_under, row_under, next_row, seek_from, sought, gone_for}
use Rattle.meaning.specs.Translation.{bound_by_term, bound_by_terms, argument_word, argument_words, body_words, body_length}
use Rattle.agreement.specs.Tools.{all-at, drop_at, drop-suc, cases, options}
use Rattle.agreement.specs.Leads.{Machine, Leads, within, go, At, halves}
use Rattle.agreement.specs.Lengths.{length-argument_words}
use Rattle.agreement.specs.Registers.{Loaded, Extends, mem-names, under_store, extends_new}
use Rattle.agreement.specs.Cursors.{change_same, Same, Ready, ready_move, ready_off, ready_row, ready_back, ready_all}

-- the state at a word, with that work done
abbrev pub stand : ℕ → Values → Cursors → Work → State
stand at values cursors work = state at values cursors work.used work.made

-- the words go on where the numbers agree, with the registers loaded
abbrev Agrees : Machine → Cursors → Work → Bindings → List ℕ → Option Bindings → List ℕ → ℕ → ℕ → Firing → Type 0
Agrees m cursors work bindings bound o bound' p limit f =
    (b : Bindings) (v : Values) → o ≡ some b → Extends bindings bound b bound' → Loaded b bound' v → Leads m limit (stand p v cursors work) f

module _ {m : Machine} {cursors : Cursors} {work : Work} where
  -- one argument's word: to the target if the number does not agree with the term, else to the next word
  argument : (c i n : ℕ) {p seek limit : ℕ} {f : Firing} {values : Values} {bindings : Bindings} {bound : List ℕ} (t : Term)
      → Loaded bindings bound values → get_elem? m.words p ≡ some (argument_word c i seek bound t) → argument_under m.board (cursors c) i ≡ some n
      → (differs : agree t n bindings ≡ none → Leads m limit (stand seek values cursors work) f)
      → (agrees : Agrees m cursors work bindings bound (agree t n bindings) (bound_by_term t bound) (suc p) limit f)
      → Leads m (suc limit) (stand p values cursors work) f
  argument c i n {values} {bindings} (constant v) l w row differs agrees =
      cases (eqb n v)
      (λ y. go w (rw (row, y)) (agrees bindings values (rw y) (λ v' l'. l') l))
      (λ y. go w (rw (row, y)) (differs (rw y)))
  argument c i n {values} {bindings} {bound} (variable x) l w row differs agrees =
      options (lookup x bindings)
      (λ q. let new : mem x bound ≡ false = rw (← l.named, mem-names x bindings, q) in
      go (rw new at w) (rw row)
      (agrees (record { name = x; value = n } ∷ bindings) (change values x n) (rw q) (extends_new x n q l.named _)
      (record { named = rw (new, l.named); agreed = under_store bindings values x n l.agreed })))
      (λ v q. let old : mem x bound ≡ true = rw (← l.named, mem-names x bindings, q) in
      let same : values x ≡ v = l.agreed x v q in
      cases (eqb n v)
      (λ y. go (rw old at w) (rw (row, same, y)) (agrees bindings values (rw (q, y)) (λ v' l'. rw old at l') (rw old l)))
      (λ y. go (rw old at w) (rw (row, same, y)) (differs (rw (q, y)))))

  -- an atom's argument words: the row's numbers from position i on against the terms
  arguments : (c : ℕ) {seek limit : ℕ} {f : Firing} {row : Fact} → row_under m.board (cursors c) ≡ some row
      → (terms : List Term) (numbers : List ℕ) (i p : ℕ) {values : Values} {bindings : Bindings} {bound : List ℕ} → length numbers ≡ length terms
      → drop i row.numbers ≡ numbers → Loaded bindings bound values → At m p (argument_words c i seek bound terms)
      → (differs : agree_all terms numbers bindings ≡ none → (v : Values) → Loaded bindings bound v → Leads m limit (stand seek v cursors work) f)
      → (agrees : Agrees m cursors work bindings bound (agree_all terms numbers bindings) (bound_by_terms terms bound) (p + length terms) limit f)
      → Leads m (length terms + limit) (stand p values cursors work) f
  unfolding agree_all argument_words bound_by_terms
  arguments c row? [] [] i p {values} {bindings} ln dr l w differs agrees = within (omega arith)
      (rw add-zero at (agrees bindings values refl (λ v l'. l') l))
  arguments c row? [] (n ∷ numbers) i p ln dr l w differs agrees = absurd (omega arith)
  arguments c row? (t ∷ terms) [] i p ln dr l w differs agrees = absurd (omega arith)
  arguments c {row} row? (t ∷ terms) (n ∷ numbers) i p {values} ln dr l w differs agrees =
      within (omega arith) (argument c i n t l w.0 (rw row? (drop_at i row.numbers n numbers dr))
      (λ q. within (omega arith) (differs (rw q) values l))
      (λ b v q ext l'. arguments c row? terms numbers (suc i) (suc p) (omega arith) (drop-suc i row.numbers n numbers dr) l' w.1
      (λ q' v' l''. differs (rw q q') v' (ext v' l''))
      (λ b' v' q' ext' l''. rw (add-suc, ← suc-add) at (agrees b' v' (rw q q') (λ v'' k. ext v'' (ext' v'' k)) l''))))

-- the words of one atom; `back` is where to go when it finds no further row
abbrev pub atom_words : ℕ → ℕ → ℕ → List ℕ → Atom → List Word
atom_words c p back bound a = OPEN c ∷ SEEK c a.kind back ∷ argument_words c 0 (suc p) bound a.terms

-- a body's first atom, and the atoms behind it
pub body_halves : (m : Machine) (c p back : ℕ) (bound : List ℕ) (a : Atom) (atoms : List Atom) (tests : List Test)
    → At m p (body_words c p back bound (a ∷ atoms) tests)
    → At m p (atom_words c p back bound a)
    × At m (suc (suc p) + length a.terms) (body_words (suc c) (suc (suc p) + length a.terms) (suc p) (bound_by_terms a.terms bound) atoms tests)
unfolding body_words
body_halves m c p back bound a atoms tests w =
    halves m p (suc (suc p) + length a.terms) (atom_words c p back bound a) _ (omega (arith, length-argument_words c 0 (suc p) bound a.terms)) w

pub body_exit : (p : ℕ) (a : Atom) (atoms : List Atom) (tests : List Test)
    → p + body_length (a ∷ atoms) tests ≡ suc (suc p) + length a.terms + body_length atoms tests
unfolding body_length
body_exit p a atoms tests = omega arith

-- What is to come of an atom's rows, and how it comes. X says what has been done before a row: `work` and `known` are what it did and what it
-- leaves known, `after` is what comes of it and of the rows from there on.
module _ {X : Type 0} (m : Machine) (a : Atom) (c p back : ℕ) (bound : List ℕ) (before : Cursors)
    (work : X → Work) (known : X → Known) (after : X → List Row → Firing) where
  -- at the atom's SEEK, wherever its cursor stands
  abbrev pub Seeking : X → Values → Cursors → Type 0
  Seeking x values cursors = Ready c (suc c) before bound (known x) values cursors (work x).used

  -- behind the atom, with a row that fits
  abbrev pub Behind : X → Cursors → Known → Values → Cursors → Type 0
  Behind x cursors known' v cu = Ready (suc c) (suc c) cursors (bound_by_terms a.terms bound) known' v cu (work x).used

  -- the words behind give up, and the next row is sought
  abbrev pub GivesUp : X → Cursors → Known → List Row → ℕ → Type 0
  GivesUp x cursors known' rest M = (v : Values) (cu : Cursors) → Behind x cursors known' v cu → Leads m M (stand (suc p) v cu (work x)) (after x rest)

  -- the words behind come back with more done, and the next row is sought
  abbrev pub Again : Cursors → List Row → ℕ → Type 0
  Again cursors rest M = (x : X) (v : Values) (cu : Cursors) → Seeking x v cu → cu c ≡ cursors c → Leads m M (stand (suc p) v cu (work x)) (after x rest)

  pub record Rows (K N : ℕ) : Type 0 where
    -- a row that does not fit changes nothing
    pub skips : (x : X) (r : Row) (rest : List Row) → fit_row m.kinds a r (known x) ≡ none → after x (r ∷ rest) ≡ after x rest
    -- behind the last row the words go back
    pub none_left : (x : X) (v : Values) (cu : Cursors) → Ready c c before bound (known x) v cu (work x).used
        → Leads m N (stand back v cu (work x)) (after x [])
    -- with a row that fits they come to the words behind the atom
    pub fits : (x : X) (r : Row) (rest : List Row) (known' : Known) (v : Values) (cu : Cursors) (M : ℕ) → N ≤ M
        → fit_row m.kinds a r (known x) ≡ some known'
        → Extends (known x).bindings bound known'.bindings (bound_by_terms a.terms bound) → Same c before cu → Behind x cu known' v cu
        → GivesUp x cu known' rest M → Again cu rest M
        → Leads m (K + M) (stand (suc (suc p) + length a.terms) v cu (work x)) (after x (r ∷ rest))

-- the board's rows have as many numbers as their kinds say
row_arity : {kinds : List Kind} {board : Board} → GoodBoard kinds board → (class : Bool) (n : ℕ) (f : Fact) → get_elem? (rows_of board class) n ≡ some f
    → length f.numbers ≡ arity_of kinds f.kind
row_arity {kinds} {board} good true n f e = (all-at (GoodFact kinds true) board.cards good.cards n f e).arity
row_arity {kinds} {board} good false n f e = (all-at (GoodFact kinds false) board.notices good.notices n f e).arity

stand-kind : (kinds : List Kind) (k : ℕ) (gone : Marks) (n : ℕ) (f : Fact) → may_stand kinds k gone n f ≡ true → f.kind ≡ k
stand-kind kinds k gone n f h = cases (eqb f.kind k) (λ y. eqb-true f.kind k y) (λ y. absurd (false≢true (rw y at h)))

module _ {X : Type 0} {m : Machine} (good : GoodBoard m.kinds m.board) (a : Atom) (arity : length a.terms ≡ arity_of m.kinds a.kind)
    {c p back : ℕ} {bound : List ℕ} (room : c < cursor_count) (w : At m p (atom_words c p back bound a)) {before : Cursors}
    {work : X → Work} {known : X → Known} {after : X → List Row → Firing} {K N : ℕ} (rows : Rows m a c p back bound before work known after K N) where
  abbrev class : Bool
  class = is_card m.kinds a.kind

  abbrev facts : List Fact
  facts = rows_of m.board class

  abbrev will_do : X → ℕ → Fact → Bool
  will_do x = may_stand m.kinds a.kind (known x).gone

  abbrev Seeks : X → Values → Cursors → Type 0
  Seeks = Seeking m a c p back bound before work known after

  -- the rows that SEEK may take are those that may stand for the atom
  seeks : (x : X) (values : Values) (cursors : Cursors) → Seeks x values cursors → (o : Option ℕ) → seek_from (will_do x) facts (cursors c) ≡ o
      → execute m.kinds m.board (SEEK c a.kind back) (stand (suc p) values cursors (work x))
      ≡ sought m.kinds m.board c a.kind back (stand (suc p) values cursors (work x)) o
  seeks x values cursors r o e =
      let released = ready_all (ready_off r opened (λ row. refl)) (omega arith) in
      let gone : gone_for m.kinds m.board c (stand (suc p) values cursors (work x)) ≡ (known x).gone = fun_ext released.holding in
      rw (gone, e)

  -- SEEK takes row n
  takes-row : (M n : ℕ) (f : Fact) (fs : List Fact) (x : X) (values : Values) (cursors : Cursors) → N ≤ M → Seeks x values cursors
      → seek_from (will_do x) facts (cursors c) ≡ some n → drop n facts ≡ f ∷ fs → will_do x n f ≡ true
      → Again m a c p back bound before work known after (change cursors c (on class n)) (numbered (suc n) fs) M
      → Leads m (suc (length a.terms + (K + M))) (stand (suc p) values cursors (work x)) (after x (record { at = n; fact = f } ∷ numbered (suc n) fs))
  takes-row M n f fs x values cursors enough r place dr y again =
      let row : Row = record { at = n; fact = f } in
      let rest : List Row = numbered (suc n) fs in
      let moved : Cursors = change cursors c (on class n) in
      let found = drop_at n facts f fs dr in
      let long : length f.numbers ≡ length a.terms = row_arity good class n f found ∙ rw (stand-kind m.kinds a.kind (known x).gone n f y)
      (sym arity) in
      go w.1.0 (seeks x values cursors r (some n) place)
      (arguments c {row = f} (rw (change_same cursors c (on class n)) found) a.terms f.numbers 0 (suc (suc p)) long refl r.loaded w.1.1
      (λ q v l. rw (rows.skips x row rest (rw (y, q))) (within (omega arith) (again x v moved (ready_move (omega arith) r (on class n) l) refl)))
      (λ b v q ext l. let here = ready_move (omega arith) r (on class n) (ext v l) in
      rows.fits x row rest (record { bindings = b; gone = take_row class n (known x).gone }) v moved M enough (rw (y, q)) ext here.same
      (ready_row r class n l)
      (λ v' cu r'. again x v' cu (ready_back here (ext v' r'.loaded) (λ i h. r'.same i (omega arith)) r'.idle) (r'.same c (omega arith))) again))

  -- the rows from n on
  loop : (fs : List Fact) (n : ℕ) (x : X) (values : Values) (cursors : Cursors) → Seeks x values cursors
      → seek_from (will_do x) facts (cursors c) ≡ next_row (will_do x) n fs → drop n facts ≡ fs
      → Leads m (length fs * suc (length a.terms + K) + suc N) (stand (suc p) values cursors (work x)) (after x (numbered n fs))
  unfolding next_row numbered
  loop [] n x values cursors r place dr =
      within (omega arith) (go w.1.0 (seeks x values cursors r none place)
      (rows.none_left x values (change cursors c past) (ready_off r past (λ row. refl))))
  loop (f ∷ fs) n x values cursors r place dr =
      let dr' : drop (suc n) facts ≡ fs = drop-suc n facts f fs dr in
      cases (will_do x n f)
      (λ y. within (omega arith) (takes-row (length fs * suc (length a.terms + K) + suc N) n f fs x values cursors (omega arith) r (place ∙ rw y) dr y
      (λ x' v cu r' e. loop fs (suc n) x' v cu r' (rw (e, change_same cursors c (on class n), dr')) dr')))
      (λ y. rw (rows.skips x (record { at = n; fact = f }) (numbered (suc n) fs) (rw y))
      (within (omega arith) (loop fs (suc n) x values cursors r (place ∙ rw y) dr')))

  -- AN ATOM, from its OPEN on
  pub atom-rows : (x : X) (values : Values) (cursors : Cursors) → Ready c c before bound (known x) values cursors (work x).used
      → Leads m (suc (suc (length facts * suc (length a.terms + K))) + N) (stand p values cursors (work x)) (after x (numbered 0 facts))
  atom-rows x values cursors r =
      let opens = ready_move (omega arith) r opened r.loaded in
      within (omega arith) (go w.0 refl (loop facts 0 x values (change cursors c opened) opens (rw (change_same cursors c opened)) refl))
