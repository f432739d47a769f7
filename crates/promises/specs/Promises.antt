-- The promises, as types, in the order and the words of the customer's three demands. They speak of the definitions on bytes (crates/files) that
-- the entries' contracts cite, so nothing lies between a promise and the code. The last lines are the three demands.
-- docs/PROMISES.md says where each is proved, and which wrong engines it shuts out.
use Rattle.std.specs.Prelude.{◌≡◌, ◌⊎◌, ◌↔◌, ℕ, suc, ◌+◌, ◌*◌, ◌≤◌, ◌<◌, Bool, true, false, ◌||◌, List, [], ◌∷◌, ◌++◌, map, length, drop, leb, if◌then◌else◌}
use Rattle.std.proofs.Math.Option.{Option, none, some}
use Rattle.std.proofs.Math.ListN.{get_elem?}
use Rattle.meaning.specs.Basics.{mem, In, All}
use Rattle.meaning.specs.Facts.{Kind, Fact, Board, most_kinds, longest_book, longest_board, longest_strip, is_card}
use Rattle.meaning.specs.Rules.{Atom, Sweep, Rule, Book, occurs_in}
use Rattle.meaning.specs.Fit.{Choice, Marks, no_marks, Bindings, lookup, values_of, Known, nothing_known, IsChoice, Under, Fits, Before, card_rows, Apart, Unused, AtomsEqual, fit, choices}
use Rattle.meaning.specs.Firing.{Work, head_facts, body_work, unused_rows, of_class, board_after, has_room, fire, done, spent, End, Quiet, Limit, Full, Spent, Stuck, no_rule}
use Rattle.meaning.specs.Words.{Word, strip_kinds, attempt}
use Rattle.meaning.specs.Translation.{translate}
use Rattle.meaning.specs.Meld.{count, Sum, Apply, Step, rule_form}
use Rattle.meaning.specs.WellFormed.{GoodKind, HasCard, GoodSweep, GoodRule, GoodBook, GoodBoard, GoodStrip}
use Rattle.files.specs.Numbers.{Refusal, CUT, MARK, PLACE, NOCARD, BARE, MANY, FIELD, LOOSE, TRAIL, SHORT, STRIP, book, strip, board, output, Answer, refusal, acceptance, end_number, end_answer}
use Rattle.files.specs.Judge.{Bytes, Verdict, accepted, refused}
use Rattle.files.specs.InPlace.{board_at, book_at}
use Rattle.files.specs.Board.{judge_board}
use Rattle.files.specs.Book.{judge_book}
use Rattle.files.specs.Strip.{words_at, judge_strip}
use Rattle.files.specs.Encode.{encode_board, encode_book, encode_strip}
use Rattle.files.specs.Entries.{Outcome, nothing_written, bytes_after, run_book_file, translate_file, run_strip_file}

-- ==== DEMAND 1
-- "Reading a rule book, a board or a rule strip, and running any of them, ends without a fault for every file, torn ones too." Each entry is
-- proved safe and ending by the gate, asks nothing of its caller, and answers what crates/files Entries says, for every input.

-- ---- "A bad file is refused by number and place, the output buffer then keeps all its bytes"

abbrev pub IsRefusal : Answer → Type 0
IsRefusal answer = (1 ≤ answer.number) × (answer.number ≤ 11)

pub record KeepsAll (outcome : Outcome) (out : List ℕ) : Type 0 where
  pub bytes : bytes_after outcome out ≡ out
  pub nothing_said : (outcome.answer.length ≡ 0) × (outcome.answer.firings ≡ 0) × (outcome.answer.rule ≡ no_rule)

abbrev pub RefusedKeepsAll : (ℕ → Outcome) → Type 0
RefusedKeepsAll entry = (out : List ℕ) → IsRefusal (entry (length out)).answer → KeepsAll (entry (length out)) out

pub record RefusalsKeepTheOutput : Type 0 where
  pub run_book : (book_file board_file : List ℕ) (limit : ℕ) → RefusedKeepsAll (run_book_file book_file board_file limit)
  pub translation : (book_file : List ℕ) → RefusedKeepsAll (translate_file book_file)
  pub run_strip : (strip_file board_file : List ℕ) (limit allowance : ℕ) → RefusedKeepsAll (run_strip_file strip_file board_file limit allowance)

-- ---- the place is one of the file, so a terminal can point at it: CUT's is the file's length, every other is a byte (or a word) that is there

abbrev pub PlaceIs : Refusal → ℕ → ℕ → Type 0
PlaceIs CUT place size = place ≡ size
PlaceIs MARK place size = place < size
PlaceIs PLACE place size = place < size
PlaceIs NOCARD place size = place < size
PlaceIs BARE place size = place < size
PlaceIs MANY place size = place < size
PlaceIs FIELD place size = place < size
PlaceIs LOOSE place size = place < size
PlaceIs TRAIL place size = place < size
PlaceIs SHORT place size = ⊥
PlaceIs STRIP place size = (place ≡ 0) ⊎ (8 * suc place ≤ size)

abbrev pub PlaceFits : {S : Type 0} → Verdict S → ℕ → Type 0
PlaceFits (accepted s) size = Unit {0}
PlaceFits (refused why place) size = PlaceIs why place size

pub record PlacesAreInTheFile : Type 0 where
  pub books : (file : List ℕ) → PlaceFits (judge_book file) (length file)
  pub boards : (kinds : List Kind) (file : List ℕ) → PlaceFits (judge_board kinds file) (length file)
  pub strips : (file : List ℕ) → PlaceFits (judge_strip file) (length file)

-- ---- "no entry relies on somebody having looked at the file earlier": book or strip is judged first, then board, then the output's room

pub record JudgesForItself {S : Type 0} (first : Verdict S) (kinds_of : S → List Kind) (board_file : List ℕ) (entry : ℕ → Outcome) : Type 0 where
  -- a refused board, for an accepted book or strip
  pub board_next : (s : S) (why : Refusal) (place : ℕ) → first ≡ accepted s → judge_board (kinds_of s) board_file ≡ refused why place
      → (room : ℕ) → entry room ≡ nothing_written (refusal board why place)
  -- then SHORT
  pub short_last : (s : S) (rows : Board) → first ≡ accepted s → judge_board (kinds_of s) board_file ≡ accepted rows
      → (room : ℕ) → room < longest_board → entry room ≡ nothing_written (refusal output SHORT 0)

pub record EntriesJudge : Type 0 where
  pub book_first : (book_file board_file : List ℕ) (limit room : ℕ) (why : Refusal) (place : ℕ) → judge_book book_file ≡ refused why place
      → run_book_file book_file board_file limit room ≡ nothing_written (refusal book why place)
  pub strip_first : (strip_file board_file : List ℕ) (limit allowance room : ℕ) (why : Refusal) (place : ℕ) → judge_strip strip_file ≡ refused why place
      → run_strip_file strip_file board_file limit allowance room ≡ nothing_written (refusal strip why place)
  pub run_book : (book_file board_file : List ℕ) (limit : ℕ)
      → JudgesForItself (judge_book book_file) (λ b. b.kinds) board_file (run_book_file book_file board_file limit)
  pub run_strip : (strip_file board_file : List ℕ) (limit allowance : ℕ)
      → JudgesForItself (judge_strip strip_file) strip_kinds board_file (run_strip_file strip_file board_file limit allowance)

-- ---- a file is accepted exactly if it is the encoding of a well-formed value, and there is one such value

abbrev pub GoodKinds : List Kind → Type 0
GoodKinds kinds = (length kinds ≤ most_kinds) × All GoodKind kinds

pub record AcceptedExactly {S : Type 0} (judge : List ℕ → Verdict S) (Good : S → Type 0) (encode : S → List ℕ) : Type 0 where
  pub exactly : (file : List ℕ) → Bytes file → (s : S) → (judge file ≡ accepted s) ↔ (Good s × (file ≡ encode s))
  pub unique : (s s' : S) → Good s → Good s' → encode s ≡ encode s' → s ≡ s'

pub record FilesAreEncodings : Type 0 where
  pub books : AcceptedExactly judge_book GoodBook encode_book
  pub boards : (kinds : List Kind) → GoodKinds kinds → AcceptedExactly (judge_board kinds) (GoodBoard kinds) encode_board
  pub strips : AcceptedExactly judge_strip GoodStrip encode_strip

-- "Longest book 17,794 bytes, board 4,226, strip 44,808."
pub record SizesHold : Type 0 where
  pub books : (b : Book) → GoodBook b → length (encode_book b) ≤ longest_book
  pub boards : (kinds : List Kind) (rows : Board) → GoodKinds kinds → GoodBoard kinds rows → length (encode_board rows) ≤ longest_board
  pub strips : (words : List Word) → GoodStrip words → length (encode_strip words) ≤ longest_strip

-- the total readers, which judge nothing, read an accepted file right
pub record ReadInPlace : Type 0 where
  pub books : (file : List ℕ) → Bytes file → (b : Book) → judge_book file ≡ accepted b → book_at file ≡ b
  pub boards : (kinds : List Kind) (file : List ℕ) → GoodKinds kinds → Bytes file → (rows : Board) → judge_board kinds file ≡ accepted rows → board_at file kinds ≡ rows
  pub strips : (file : List ℕ) → Bytes file → (words : List Word) → judge_strip file ≡ accepted words → words_at file ≡ words

-- ---- what a run writes is again an accepted board, and the bytes past it are kept

pub record WritesABoard (kinds : List Kind) (outcome : Outcome) (out : List ℕ) : Type 0 where
  pub after : Board
  pub goes_back_in : judge_board kinds outcome.written ≡ accepted after
  pub its_length : outcome.answer.length ≡ length outcome.written
  pub fits : length outcome.written ≤ length out
  pub kept : bytes_after outcome out ≡ outcome.written ++ drop outcome.answer.length out

pub record RunsWriteBoards : Type 0 where
  pub run_book : (book_file board_file out : List ℕ) (limit : ℕ) (b : Book) (rows : Board) → Bytes book_file → Bytes board_file
      → judge_book book_file ≡ accepted b → judge_board b.kinds board_file ≡ accepted rows → longest_board ≤ length out
      → WritesABoard b.kinds (run_book_file book_file board_file limit (length out)) out
  pub run_strip : (strip_file board_file out : List ℕ) (limit allowance : ℕ) (words : List Word) (rows : Board) → Bytes strip_file → Bytes board_file
      → judge_strip strip_file ≡ accepted words → judge_board (strip_kinds words) board_file ≡ accepted rows → longest_board ≤ length out
      → WritesABoard (strip_kinds words) (run_strip_file strip_file board_file limit allowance (length out)) out

-- ==== DEMAND 2
-- "Each firing of a book's run is one that Meld 2.0 Semantics allows"

-- ---- what fits, and in which order

-- has the variable a value: a rule's own choices start with none, a sweep's with the values of the rule's body
abbrev pub is_some : Option ℕ → Bool
is_some none = false
is_some (some v) = true

abbrev pub is_bound : Bindings → ℕ → Bool
is_bound bindings x = is_some (lookup x bindings)

-- the program `fit` answers exactly where the choice fits in document 01's words
pub record FitSaysFits : Type 0 where
  pub bodies : (kinds : List Kind) (rule : Rule) → GoodRule kinds rule → (rows : Choice)
      → ((k : Known) × (fit kinds rule.body rule.tests rows nothing_known ≡ some k)) ↔ Fits kinds rule.body rule.tests rows [] no_marks
  pub sweeps : (kinds : List Kind) (body : List Atom) (sweep : Sweep) → GoodSweep kinds body sweep → (bindings : Bindings)
      → ((x : ℕ) → is_bound bindings x ≡ occurs_in x body) → (gone : Marks) (rows : Choice)
      → ((k : Known) × (fit kinds sweep.body sweep.tests rows (record { bindings = bindings; gone = gone }) ≡ some k))
      ↔ Fits kinds sweep.body sweep.tests rows bindings gone

-- each comes before all that follow, so each stands once
abbrev pub Ascending : List Choice → Type 0
Ascending [] = Unit {0}
Ascending (c ∷ more) = ((d : Choice) → In d more → Before c d) × Ascending more

-- "Choices are ordered by the first atom's row, then the second's, and so on": all of them, each once, in that order
pub record ChoicesAreAll : Type 0 where
  pub all : (kinds : List Kind) (rows : Board) (atoms : List Atom) (c : Choice) → In c (choices kinds rows atoms) ↔ IsChoice kinds rows atoms c
  pub in_order : (kinds : List Kind) (rows : Board) (atoms : List Atom) → Ascending (choices kinds rows atoms)

-- no choice of rows fits the rule
abbrev pub NoneFits : List Kind → Board → Rule → Type 0
NoneFits kinds rows rule = (c : Choice) → IsChoice kinds rows rule.body c → Fits kinds rule.body rule.tests c [] no_marks → ⊥

-- "no choice of rows fits any rule"
abbrev pub NothingFits : Book → Board → Type 0
NothingFits b rows = (i : ℕ) (rule : Rule) → get_elem? b.rules i ≡ some rule → NoneFits b.kinds rows rule

-- ---- "works every sweep once through all its choices"

-- a taken choice and the values with which it fits
pub record Taken : Type 0 where
  pub choice : Choice
  pub bindings : Bindings

abbrev pub choices_of : List Taken → List Choice
choices_of ts = map (λ t. t.choice) ts

-- the card rows that taken choices used, and the facts of their head atoms
abbrev pub rows_used : List Kind → List Atom → List Taken → List ℕ
rows_used kinds atoms [] = []
rows_used kinds atoms (t ∷ more) = card_rows kinds atoms t.choice ++ rows_used kinds atoms more

abbrev pub facts_made : List Atom → List Taken → List Fact
facts_made heads [] = []
facts_made heads (t ∷ more) = head_facts t.bindings heads ++ facts_made heads more

-- each taken choice fits in its turn, with card rows unused so far; its head atoms have the values with which it fits
pub data FitInTurn (kinds : List Kind) (sweep : Sweep) (bindings : Bindings) : Marks → List Taken → Type 0 where
  none-taken : {used : Marks} → FitInTurn kinds sweep bindings used []
  fits_and_then : {used : Marks} {t : Taken} {more : List Taken} → Fits kinds sweep.body sweep.tests t.choice bindings used
      → AtomsEqual (values_of t.bindings) sweep.body t.choice → Under bindings (values_of t.bindings)
      → FitInTurn kinds sweep bindings (λ n. used n || mem n (card_rows kinds sweep.body t.choice)) more
      → FitInTurn kinds sweep bindings used (t ∷ more)

abbrev pub AllNotices : List Kind → List Atom → Type 0
AllNotices kinds atoms = All (λ a. is_card kinds a.kind ≡ false) atoms

pub record SweepDone (kinds : List Kind) (rows : Board) (sweep : Sweep) (bindings : Bindings) (work work' : Work) : Type 0 where
  pub taken_ones : List Taken
  pub are_choices : All (λ t. IsChoice kinds rows sweep.body t.choice) taken_ones
  pub in_order : Ascending (choices_of taken_ones)
  pub each_fits : FitInTurn kinds sweep bindings work.used taken_ones
  -- no card row twice, nor one used before; used afterwards are exactly these
  pub apart : Apart (rows_used kinds sweep.body taken_ones)
  pub unused_before : Unused work.used (rows_used kinds sweep.body taken_ones)
  pub used_after : (n : ℕ) → work'.used n ≡ (work.used n || mem n (rows_used kinds sweep.body taken_ones))
  pub made : work'.made ≡ work.made ++ facts_made sweep.heads taken_ones
  -- none is left that still fits
  pub none_left : HasCard kinds sweep.body → (c : Choice) → IsChoice kinds rows sweep.body c → Fits kinds sweep.body sweep.tests c bindings work'.used → ⊥
  -- of an all-notice body each fitting choice is taken, once
  pub all_taken : AllNotices kinds sweep.body → (c : Choice)
      → (IsChoice kinds rows sweep.body c × Fits kinds sweep.body sweep.tests c bindings work.used) ↔ In c (choices_of taken_ones)

-- the sweeps in file order
pub data SweepsDone (kinds : List Kind) (rows : Board) (bindings : Bindings) : Work → List Sweep → Work → Type 0 where
  no_sweep : {work : Work} → SweepsDone kinds rows bindings work [] work
  sweep_and_then : {work work' work'' : Work} {sweep : Sweep} {more : List Sweep}
      → SweepDone kinds rows sweep bindings work work' → SweepsDone kinds rows bindings work' more work'' → SweepsDone kinds rows bindings work (sweep ∷ more) work''

-- ---- one firing

-- "it uses up cards that fit the rule's body, reads notices without using them": derivable in the paper's judgments, Γ; Δ ⇒ Γ'; Δ'; Ξ, with
-- exactly the notices made, the cards made and the cards used
pub record MeldAllows (b : Book) (rows : Board) (rule : Rule) (work : Work) (rows' : Board) : Type 0 where
  pub used : List Fact
  pub step : Step rows.notices rows.cards (map (rule_form b.kinds) b.rules) (of_class b.kinds false work.made) (of_class b.kinds true work.made) used
  pub apply : Apply rows.notices rows.cards (rule_form b.kinds rule) (of_class b.kinds false work.made) (of_class b.kinds true work.made) used
  -- what is left of the cards, and the list form of the board after
  pub less : Sum rows.cards (unused_rows 0 work.used rows.cards) used
  pub cards : rows'.cards ≡ unused_rows 0 work.used rows.cards ++ of_class b.kinds true work.made
  pub notices : rows'.notices ≡ rows.notices ++ of_class b.kinds false work.made
  -- "Cards before, less cards used, plus cards made, are the cards after, with equal cards counted apart."
  pub cards_counted : (f : Fact) → count f rows.cards + count f (of_class b.kinds true work.made) ≡ count f rows'.cards + count f used
  pub notices_counted : (f : Fact) → count f rows.notices + count f (of_class b.kinds false work.made) ≡ count f rows'.notices

-- the first rule's first fit, and what it does: `number` is the rule's, `rows'` the board after, before its room is judged
pub record FirstFit (b : Book) (rows : Board) (number : ℕ) (rule : Rule) (work : Work) : Type 0 where
  -- "Among possible firings it takes the first rule's first fit in document 01's order."
  pub listed : get_elem? b.rules number ≡ some rule
  pub earlier_rules : (j : ℕ) (other : Rule) → j < number → get_elem? b.rules j ≡ some other → NoneFits b.kinds rows other
  pub choice : Choice
  pub is_choice : IsChoice b.kinds rows rule.body choice
  pub fits : Fits b.kinds rule.body rule.tests choice [] no_marks
  pub earlier_choices : (c : Choice) → IsChoice b.kinds rows rule.body c → Before c choice → Fits b.kinds rule.body rule.tests c [] no_marks → ⊥
  -- the values of the body's variables, and of no others; and the card rows it uses
  pub known : Known
  pub values : AtomsEqual (values_of known.bindings) rule.body choice
  pub bound : (x : ℕ) → is_bound known.bindings x ≡ occurs_in x rule.body
  pub used : (n : ℕ) → known.gone n ≡ mem n (card_rows b.kinds rule.body choice)
  -- its sweeps, under those values, from those rows
  pub swept : SweepsDone b.kinds rows known.bindings (body_work rule known) rule.sweeps work

pub record FiringIs (b : Book) (rows : Board) (number : ℕ) (rows' : Board) : Type 0 where
  pub rule : Rule
  pub work : Work
  pub first : FirstFit b rows number rule work
  pub after : rows' ≡ board_after b.kinds rows work
  pub room : has_room rows' ≡ true
  pub allowed : MeldAllows b rows rule work rows'

-- FULL: the firing that document 01 takes would exceed the board, "and the firing hasn't happened"
pub record Overfills (b : Book) (rows : Board) : Type 0 where
  pub number : ℕ
  pub rule : Rule
  pub work : Work
  pub first : FirstFit b rows number rule work
  pub no_room : has_room (board_after b.kinds rows work) ≡ false

-- ---- a run

-- so many firings one after another, from a board and the rule fired last to a board and the rule fired last
pub data Fires (b : Book) : Board → ℕ → ℕ → Board → ℕ → Type 0 where
  none_yet : {rows : Board} {last : ℕ} → Fires b rows last 0 rows last
  fires_and_then : {rows rows' rows'' : Board} {last number last' firings : ℕ}
      → FiringIs b rows number rows' → Fires b rows' number firings rows'' last' → Fires b rows last (suc firings) rows'' last'

-- "A run repeats: limit reached, end with LIMIT; else look, and QUIET if no rule fits."
abbrev pub EndsSo : Book → ℕ → ℕ → Board → End → Type 0
EndsSo b limit firings rows Quiet = (firings < limit) × NothingFits b rows
EndsSo b limit firings rows Limit = firings ≡ limit
EndsSo b limit firings rows Full = (firings < limit) × Overfills b rows
EndsSo b limit firings rows Spent = ⊥
EndsSo b limit firings rows Stuck = ⊥

pub record RunIs (b : Book) (limit : ℕ) (rows : Board) (outcome : Outcome) : Type 0 where
  pub after : Board
  pub firings : ℕ
  pub last : ℕ
  pub end : End
  pub sequence : Fires b rows no_rule firings after last
  pub ends_so : EndsSo b limit firings after end
  pub answer : outcome.answer ≡ end_answer end (length (encode_board after)) firings last
  pub written : outcome.written ≡ encode_board after
  -- "Such a run short of its firing limit ends quiet exactly if no choice of rows fits any rule."
  pub quiet_exactly : firings < limit → (outcome.answer.number ≡ end_number Quiet) ↔ NothingFits b after

abbrev pub RunsAreAllowed : Type 0
RunsAreAllowed = (book_file board_file : List ℕ) (limit room : ℕ) (b : Book) (rows : Board) → Bytes book_file → Bytes board_file
    → judge_book book_file ≡ accepted b → judge_board b.kinds board_file ≡ accepted rows → longest_board ≤ room
    → RunIs b limit rows (run_book_file book_file board_file limit room)

-- the judgments don't allow too much: where no choice fits, Meld allows no step, and the other way round
abbrev pub QuietIsMelds : Type 0
QuietIsMelds = (b : Book) → GoodBook b → (rows : Board)
    → NothingFits b rows ↔ ((Γ' Δ' Ξ : List Fact) → Step rows.notices rows.cards (map (rule_form b.kinds) b.rules) Γ' Δ' Ξ → ⊥)

-- ==== DEMAND 3
-- "For every accepted book, the strip translated from it, run on any accepted board of that book with the same firing limit, any step allowance and
-- an output buffer that isn't SHORT, ends with the answer and board of demand 2, unless it reports the allowance spent."

-- the translation is an accepted strip of the book's kinds, within its size; so a board is accepted for the one exactly if for the other
pub record TranslationIs (b : Book) (outcome : Outcome) : Type 0 where
  pub answer : outcome.answer ≡ acceptance (length outcome.written)
  pub size : length outcome.written ≤ longest_strip
  pub is_strip : judge_strip outcome.written ≡ accepted (translate b)
  pub same_kinds : strip_kinds (translate b) ≡ b.kinds

abbrev pub TranslationsAreStrips : Type 0
TranslationsAreStrips = (book_file : List ℕ) (room : ℕ) (b : Book) → Bytes book_file → judge_book book_file ≡ accepted b → longest_strip ≤ room
    → TranslationIs b (translate_file book_file room)

-- "For each attempt some number of steps is enough": with fewer it is spent, and it is never stuck
abbrev pub TakesSteps : Book → Board → ℕ → Type 0
TakesSteps b rows steps = (allowance : ℕ) → attempt (translate b) allowance rows ≡ (if leb steps allowance then done (fire b rows) else spent)

abbrev pub AttemptsEnd : Type 0
AttemptsEnd = (b : Book) (rows : Board) → GoodBook b → GoodBoard b.kinds rows → (steps : ℕ) × TakesSteps b rows steps

-- "one attempt at a firing takes more steps than allowed, counted by the strip's own step rules": after so many firings of the book's run, short
-- of the limit, on the board that the run with that limit writes
pub record TakesTooMany (b : Book) (book_file board_file : List ℕ) (limit allowance room : ℕ) : Type 0 where
  pub completed : ℕ
  pub short : completed < limit
  pub rows : Board
  pub last : ℕ
  pub reached : run_book_file book_file board_file completed room
      ≡ record { answer = end_answer Limit (length (encode_board rows)) completed last; written = encode_board rows }
  pub is_board : judge_board b.kinds (encode_board rows) ≡ accepted rows
  pub steps : ℕ
  pub takes : TakesSteps b rows steps
  pub too_many : allowance < steps

-- "the board is then that of the firings completed"
pub record StripRunIs (b : Book) (book_file board_file : List ℕ) (limit allowance room : ℕ) (outcome : Outcome) : Type 0 where
  pub as_the_book : (outcome.answer.number ≡ end_number Spent → ⊥) → outcome ≡ run_book_file book_file board_file limit room
  pub spent_exactly : (outcome.answer.number ≡ end_number Spent) ↔ TakesTooMany b book_file board_file limit allowance room
  pub spent_board : outcome.answer.number ≡ end_number Spent → (t : TakesTooMany b book_file board_file limit allowance room)
      × (outcome ≡ record { answer = end_answer Spent (length (encode_board t.rows)) t.completed t.last; written = encode_board t.rows })
  -- "a translated strip is never stuck"
  pub never_stuck : outcome.answer.number ≡ end_number Stuck → ⊥

abbrev pub StripsAgree : Type 0
StripsAgree = (book_file board_file : List ℕ) (limit allowance room strip_room : ℕ) (b : Book) (rows : Board) → Bytes book_file → Bytes board_file
    → judge_book book_file ≡ accepted b → judge_board b.kinds board_file ≡ accepted rows → longest_board ≤ room → longest_strip ≤ strip_room
    → StripRunIs b book_file board_file limit allowance room (run_strip_file (translate_file book_file strip_room).written board_file limit allowance room)

-- a board that the book refuses, the strip refuses alike
abbrev pub BoardsRefusedAlike : Type 0
BoardsRefusedAlike = (book_file board_file : List ℕ) (limit allowance room strip_room : ℕ) (b : Book) (why : Refusal) (place : ℕ) → Bytes book_file
    → judge_book book_file ≡ accepted b → judge_board b.kinds board_file ≡ refused why place → longest_strip ≤ strip_room
    → run_strip_file (translate_file book_file strip_room).written board_file limit allowance room ≡ run_book_file book_file board_file limit room

-- ==== THE THREE DEMANDS

pub record DemandOne : Type 0 where
  pub refusals_keep_the_output : RefusalsKeepTheOutput
  pub places_are_in_the_file : PlacesAreInTheFile
  pub entries_judge : EntriesJudge
  pub files_are_encodings : FilesAreEncodings
  pub sizes_hold : SizesHold
  pub read_in_place : ReadInPlace
  pub runs_write_boards : RunsWriteBoards

pub record DemandTwo : Type 0 where
  pub fit_says_fits : FitSaysFits
  pub choices_are_all : ChoicesAreAll
  pub runs_are_allowed : RunsAreAllowed
  pub quiet_is_melds : QuietIsMelds

pub record DemandThree : Type 0 where
  pub translations_are_strips : TranslationsAreStrips
  pub attempts_end : AttemptsEnd
  pub strips_agree : StripsAgree
  pub boards_refused_alike : BoardsRefusedAlike
