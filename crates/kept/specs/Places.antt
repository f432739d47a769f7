-- A refusal's place is one of the file: CUT's is the file's length, every other is a byte, or a word, that is there. Each way of judging a field
-- keeps that, so a record does, and so the loop over records.
use Prim.Native.Nat.{ℕ, zero, suc, ◌+◌, ◌*◌, ◌-◌, ◌/◌, ◌%◌, ◌≤◌, ◌<◌}
use Rattle.std.proofs.Common.{arith, inl, inr}
use Rattle.std.proofs.Math.Path.{refl}
use Rattle.std.specs.Prelude.{Bool, true, false, ◌&&◌, not, ◌||◌, length, eqb, leb, ltb, if◌then◌else◌}
use mathlib.Core.List.{List, [], ◌∷◌, ◌++◌}
use Rattle.meaning.specs.Facts.{Kind, Fact, Board, most_kinds, most_rules, most_sweeps, variables, most_numbers, most_cards, most_notices, longest_strip, arity_of}
use Rattle.meaning.specs.Rules.{Term, constant, variable, Atom}
use Rattle.meaning.specs.Words.{Word}
use Rattle.meaning.specs.WellFormed.{any_variable}
use Rattle.files.specs.Numbers.{Refusal, PLACE, NOCARD, BARE, MANY, FIELD, LOOSE, STRIP}
use Rattle.files.specs.Judge.{Verdict, accepted, refused, Judged, go, ended, stop, demand, byte, two, at_end, after_record, judge}
use Rattle.files.specs.Board.{Mark, ca, no, en, other, is_empty, is_of_class, numbers, row, marked, mark_of, board_record, empty_board, judge_board}
use Rattle.files.specs.Book as B
use Rattle.files.specs.Book.{Open, no_rule, in_rule, in_sweep, Reading, groups, rules_closed, sweeps_so_far, may_stand_here, has_card, bodied, most_in_group, is_bound, term, terms, atom, fields, after_place, book_record, empty_reading, book_of, judge_book}
use Rattle.files.specs.Strip.{Earlier, word_of, word_is_good, may_be_last, earlier_than_next, fields_at, word_then, word_bytes, is_zero, judge_words, judge_strip}
use Rattle.files.specs.InPlace.{comparison_of}
use Rattle.promises.specs.Promises.{PlaceIs, PlaceFits, PlacesAreInTheFile}

-- what a record may answer: as much is left as there was, or less; a refusal is placed
data Placed {S : Type 0} (n : ℕ) : Judged S → Type 0 where
  goes : {s : S} {rest : List ℕ} → length rest ≤ n → Placed n (go s rest)
  ends : {s : S} {rest : List ℕ} → length rest ≤ n → Placed n (ended s rest)
  stops : {why : Refusal} {place : ℕ} → PlaceIs why place n → Placed n (stop why place)

module _ {S : Type 0} (n : ℕ) where
  placed_demand : (t : Bool) (why : Refusal) (place : ℕ) (next : Judged S) → PlaceIs why place n → Placed n next → Placed n (demand t why place next)
  placed_demand true why place next p h = h
  placed_demand false why place next p h = stops p

  placed_byte : (rest : List ℕ) (next : ℕ → List ℕ → Judged S) → length rest ≤ n
      → ((b : ℕ) (tail : List ℕ) → suc (length tail) ≤ n → Placed n (next b tail)) → Placed n (byte n rest next)
  placed_byte [] next l h = stops refl
  placed_byte (b ∷ tail) next l h = h b tail l

  placed_two : (rest : List ℕ) (next : ℕ → List ℕ → Judged S) → length rest ≤ n
      → ((v : ℕ) (tail : List ℕ) → length tail ≤ n → Placed n (next v tail)) → Placed n (two n rest next)
  placed_two [] next l h = stops refl
  placed_two (low ∷ []) next l h = stops refl
  placed_two (low ∷ high ∷ tail) next l h = h (low + 256 * high) tail (omega arith)

  placed_numbers : (m : ℕ) (rest : List ℕ) (next : List ℕ → List ℕ → Judged S) → length rest ≤ n
      → ((vs tail : List ℕ) → length tail ≤ n → Placed n (next vs tail)) → Placed n (numbers n m rest next)
  placed_numbers zero rest next l h = h [] rest l
  placed_numbers (suc m) rest next l h =
      placed_two rest (λ v rest₁. numbers n m rest₁ (λ vs rest₂. next (v ∷ vs) rest₂)) l
      (λ v tail k. placed_numbers m tail (λ vs rest₂. next (v ∷ vs) rest₂) k (λ vs end j. h (v ∷ vs) end j))

  -- ---- fields of a book

  placed_term : (bound : ℕ → Bool) (at : ℕ) (rest : List ℕ) (next : Term → List ℕ → Judged S) → at < n → length rest ≤ n
      → ((t : Term) (tail : List ℕ) → length tail ≤ n → Placed n (next t tail)) → Placed n (term n bound at rest next)
  placed_term bound at rest next p l h =
      placed_byte rest _ l λ tag tail k.
      placed_demand (leb tag 1) FIELD at _ p
      (placed_two tail _ (omega arith) λ v end j. by_tag (eqb tag 0) v end j)
    where
      by_tag : (t : Bool) (v : ℕ) (end : List ℕ) → length end ≤ n
          → Placed n (if t then next (constant v) end else demand (ltb v variables) FIELD at (demand (bound v) LOOSE at (next (variable v) end)))
      by_tag true v end j = h (constant v) end j
      by_tag false v end j =
          placed_demand (ltb v variables) FIELD at _ p (placed_demand (bound v) LOOSE at _ p (h (variable v) end j))

  placed_terms : (bound : ℕ → Bool) (at m : ℕ) (rest : List ℕ) (next : List Term → List ℕ → Judged S) → at < n → length rest ≤ n
      → ((ts : List Term) (tail : List ℕ) → length tail ≤ n → Placed n (next ts tail)) → Placed n (terms n bound at m rest next)
  placed_terms bound at zero rest next p l h = h [] rest l
  placed_terms bound at (suc m) rest next p l h =
      placed_term bound at rest (λ t tail. terms n bound at m tail λ ts end. next (t ∷ ts) end) p l
      λ t tail k. placed_terms bound at m tail (λ ts end. next (t ∷ ts) end) p k λ ts end j. h (t ∷ ts) end j

  -- an atom, or two terms, with which the file goes on
  placed_atom : (kinds : List Kind) (bound : ℕ → Bool) (at : ℕ) (rest : List ℕ) (add : Atom → S) → at < n → length rest ≤ n
      → Placed n (atom n kinds bound at rest (λ a tail. go (add a) tail))
  placed_atom kinds bound at rest add p l =
      placed_byte rest _ l λ kind tail k.
      placed_demand (ltb kind (length kinds)) FIELD at _ p
      (placed_terms bound at (arity_of kinds kind) tail (λ ts end. go (add (record { kind = kind; terms = ts })) end) p (omega arith) λ ts end j. goes j)

  placed_terms_two : (bound : ℕ → Bool) (at : ℕ) (rest : List ℕ) (add : Term → Term → S) → at < n → length rest ≤ n
      → Placed n (term n bound at rest (λ left more. term n bound at more (λ right tail. go (add left right) tail)))
  placed_terms_two bound at rest add p l =
      placed_term bound at rest _ p l λ left more j. placed_term bound at more (λ right tail. go (add left right) tail) p j λ right tail i. goes i

  placed_bodied : (kinds : List Kind) (now : Open) (at : ℕ) (next : Judged S) → at < n → Placed n next → Placed n (bodied kinds now at next)
  placed_bodied kinds no_rule at next p h = h
  placed_bodied kinds (in_rule rule) at next p h = placed_demand (has_card kinds rule.body) NOCARD at next p h
  placed_bodied kinds (in_sweep rule sweep) at next p h = by (is_empty sweep.body)
    where
      by : (t : Bool) → Placed n (if t then stop BARE at else next)
      by true = stops p
      by false = h

  -- ---- the loop over records

  placed_end : (s : S) (rest : List ℕ) → length rest ≤ n → PlaceFits (at_end n s rest) n
  placed_end s [] l = tt
  placed_end s (b ∷ rest) l = omega arith

  placed_after : (j : Judged S) (next : S → List ℕ → Verdict S) → Placed n j
      → ((s : S) (rest : List ℕ) → length rest ≤ n → PlaceFits (next s rest) n) → PlaceFits (after_record n j next) n
  placed_after (go s rest) next (goes p) h = h s rest p
  placed_after (ended s rest) next (ends p) h = placed_end s rest p
  placed_after (stop why place) next (stops p) h = p

  placed_judge : (record1 : S → List ℕ → Judged S) → ((s : S) (rest : List ℕ) → length rest ≤ n → Placed n (record1 s rest))
      → (turns : ℕ) (s : S) (file : List ℕ) → length file ≤ n → PlaceFits (judge n record1 turns s file) n
  unfolding judge
  placed_judge record1 h zero s file l = refl
  placed_judge record1 h (suc turns) s file l =
      placed_after (record1 s file) _ (h s file l) (λ s' rest k. placed_judge record1 h turns s' rest k)

-- ---- a record of a board

module _ (kinds : List Kind) (n : ℕ) where
  placed_row : (card : Bool) (at : ℕ) (rest : List ℕ) (add : Fact → Board) → at < n → length rest ≤ n
      → Placed n (row kinds n card at rest (λ f tail. go (add f) tail))
  placed_row card at rest add p l =
      placed_byte n rest _ l λ kind tail k.
      placed_demand n (is_of_class kinds card kind) FIELD at _ p
      (placed_numbers n (arity_of kinds kind) tail (λ vs end. go (add (record { kind = kind; numbers = vs })) end) (omega arith) λ vs end j. goes j)

  placed_marked : (mark : Mark) (at : ℕ) (board : Board) (rest : List ℕ) → at < n → length rest ≤ n → Placed n (marked kinds n mark at board rest)
  placed_marked ca at board rest p l =
      placed_demand n (is_empty board.notices) PLACE at _ p
      (placed_demand n (ltb (length board.cards) most_cards) MANY at _ p
      (placed_row true at rest (λ f. record { cards = board.cards ++ (f ∷ []); notices = board.notices }) p l))
  placed_marked no at board rest p l =
      placed_demand n (ltb (length board.notices) most_notices) MANY at _ p (placed_row false at rest (λ f. record { cards = board.cards; notices = board.notices ++ (f ∷ []) }) p l)
  placed_marked en at board rest p l = ends l
  placed_marked other at board rest p l = stops p

  placed_board : (board : Board) (rest : List ℕ) → length rest ≤ n → Placed n (board_record kinds n board rest)
  unfolding board_record
  placed_board board [] l = stops refl
  placed_board board (a ∷ []) l = stops refl
  placed_board board (a ∷ b ∷ tail) l = placed_marked (mark_of a b) (n - suc (suc (length tail))) board tail (omega arith) (omega arith)

-- ---- a record of a book

module _ (n : ℕ) where
  placed_fields : (mark : B.Mark) (at : ℕ) (r : Reading) (rest : List ℕ) → at < n → length rest ≤ n → Placed n (fields n mark at r rest)
  placed_fields B.kd at r rest p l =
      placed_demand n (ltb (length r.kinds) most_kinds) MANY at _ p
      (placed_byte n rest _ l λ class tail k. placed_demand n (leb class 1) FIELD at _ p
      (placed_byte n tail _ (omega arith) λ arity end j. placed_demand n (leb arity most_numbers) FIELD at _ p (goes (omega arith))))
  placed_fields B.ru at r rest p l = placed_demand n (ltb (length (rules_closed r.rules r.now)) most_rules) MANY at _ p (goes l)
  placed_fields B.ba at r rest p l =
      placed_demand n (ltb (length (groups r.now).body) (most_in_group r.now)) MANY at _ p
      (placed_atom n r.kinds any_variable at rest (λ a. record { kinds = r.kinds; rules = r.rules; now = B.with_groups r.now (record { body = (groups r.now).body ++ (a ∷ []); tests = (groups r.now).tests; heads = (groups r.now).heads }) }) p l)
  placed_fields B.te at r rest p l =
      placed_demand n (ltb (length (groups r.now).tests) (most_in_group r.now)) MANY at _ p
      (placed_byte n rest _ l λ number tail k. placed_demand n (leb number 3) FIELD at _ p
      (placed_terms_two n (is_bound r.now) at tail (λ left right. record { kinds = r.kinds; rules = r.rules; now = B.with_groups r.now (record { body = (groups r.now).body; tests = (groups r.now).tests ++ (record { comparison = comparison_of number; left = left; right = right } ∷ []); heads = (groups r.now).heads }) }) p (omega arith)))
  placed_fields B.he at r rest p l =
      placed_demand n (ltb (length (groups r.now).heads) (most_in_group r.now)) MANY at _ p
      (placed_atom n r.kinds (is_bound r.now) at rest (λ a. record { kinds = r.kinds; rules = r.rules; now = B.with_groups r.now (record { body = (groups r.now).body; tests = (groups r.now).tests; heads = (groups r.now).heads ++ (a ∷ []) }) }) p l)
  placed_fields B.sw at r rest p l = placed_demand n (ltb (sweeps_so_far r.now) most_sweeps) MANY at _ p (goes l)
  placed_fields B.en at r rest p l = ends l
  placed_fields B.other at r rest p l = stops p

  placed_after_place : (mark : B.Mark) (at : ℕ) (r : Reading) (rest : List ℕ) → at < n → length rest ≤ n → Placed n (after_place n mark at r rest)
  placed_after_place B.kd at r rest p l = placed_fields B.kd at r rest p l
  placed_after_place B.ba at r rest p l = placed_fields B.ba at r rest p l
  placed_after_place B.ru at r rest p l = placed_bodied n r.kinds r.now at _ p (placed_fields B.ru at r rest p l)
  placed_after_place B.te at r rest p l = placed_bodied n r.kinds r.now at _ p (placed_fields B.te at r rest p l)
  placed_after_place B.he at r rest p l = placed_bodied n r.kinds r.now at _ p (placed_fields B.he at r rest p l)
  placed_after_place B.sw at r rest p l = placed_bodied n r.kinds r.now at _ p (placed_fields B.sw at r rest p l)
  placed_after_place B.en at r rest p l = placed_bodied n r.kinds r.now at _ p (placed_fields B.en at r rest p l)
  placed_after_place B.other at r rest p l = stops p

  placed_book : (r : Reading) (rest : List ℕ) → length rest ≤ n → Placed n (book_record n r rest)
  unfolding book_record
  placed_book r [] l = stops refl
  placed_book r (a ∷ []) l = stops refl
  placed_book r (a ∷ b ∷ tail) l =
      let at = n - suc (suc (length tail)) in
      placed_demand n (may_stand_here (B.mark_of a b) r.now) PLACE at _ (omega arith) (placed_after_place (B.mark_of a b) at r tail (omega arith) (omega arith))

book_of_lem : (n : ℕ) (v : Verdict Reading) → PlaceFits v n → PlaceFits (book_of v) n
book_of_lem n (accepted r) h = tt
book_of_lem n (refused why place) h = h

-- ---- a strip: the lowest faulty word is one of the words

placed_words : (file : List ℕ) (size left i : ℕ) (before : Earlier) → word_bytes * (left + i) ≤ length file → PlaceFits (judge_words file size left i before) (length file)
unfolding judge_words
placed_words file size zero i before l = tt
placed_words file size (suc left) i before l =
    let f = fields_at file (word_bytes * i) in
    by (word_is_good size before f && may_be_last (suc left) f) (word_of f) (judge_words file size left (suc i) (earlier_than_next before f))
    (placed_words file size left (suc i) (earlier_than_next before f) (omega arith))
  where
    by : (t : Bool) (w : Word) (v : Verdict (List Word)) → PlaceFits v (length file) → PlaceFits (word_then t i w v) (length file)
    by false w v h = inr (omega arith)
    by true w (accepted words) h = tt
    by true w (refused why place) h = h

placed_strip : (file : List ℕ) → PlaceFits (judge_strip file) (length file)
unfolding judge_strip
placed_strip file = by (is_zero (length file) || ltb longest_strip (length file) || not (is_zero (length file % word_bytes)))
  where
    by : (t : Bool) → PlaceFits (if t then refused STRIP 0 else judge_words file (length file / word_bytes) (length file / word_bytes) 0 (record { kinds = 0; others = false })) (length file)
    by true = inl refl
    by false = placed_words file (length file / word_bytes) (length file / word_bytes) 0 _ (omega arith)

-- ---- the promise

-- CUT's place is the file's length; every other place is one of the file.
pub places_are_in_the_file_lem : PlacesAreInTheFile
unfolding judge_book judge_board
places_are_in_the_file_lem = record {
  books = λ file. book_of_lem (length file) (judge (length file) (book_record (length file)) (suc (length file)) empty_reading file) (placed_judge (length file) (book_record (length file)) (placed_book (length file)) (suc (length file)) empty_reading file (omega arith));
  boards = λ kinds file. placed_judge (length file) (board_record kinds (length file)) (placed_board kinds (length file)) (suc (length file)) empty_board file (omega arith);
  strips = placed_strip;
}
