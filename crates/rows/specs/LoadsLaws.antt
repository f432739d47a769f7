-- A board that is loaded is the board that the arrays hold: at most 256 cards and 128 notices, each fact with the numbers of its kind.
use Prim.Native.Nat.{ℕ, zero, suc, ◌+◌, ◌≤◌}
use native.Mathlib.Omega.{arith}
use Rattle.std.specs.Prelude.{◌≡◌, refl, Bool, List, [], map, if◌then◌else◌}
use Rattle.std.proofs.Common.{sym, ap, ◌∙◌}
use Rattle.std.proofs.Math.Bool.{true, false}
use Rattle.std.proofs.Math.ListN.{length}
use Rattle.meaning.specs.Basics.{All}
use Rattle.meaning.specs.Facts.{Kind, Fact, Board, arity_of, most_cards, most_notices}
use Rattle.meaning.specs.WellFormed.{GoodKind}
use Rattle.files.specs.Marks.{CA, NO, is_mark}
use Rattle.files.specs.InPlace.{byte_at, two_at, many_at, prepend, records_at, fact_at, board_at}
use Rattle.rows.specs.Held.{row_count, notices_from, Sized, fact_in, facts_from, board_of, kinds_with, numbers_with}
use Rattle.rows.specs.HeldLaws.{sized_with, rows_written, below_written, facts_of_rows, Fitting, facts_back, arity_few}
use Rattle.rows.specs.Loads.{count_of, loaded_kinds, loaded_numbers, class_at}

-- ---- the facts that a file is read as

many-length : (item : ℕ → ℕ) (size n p : ℕ) → length (many_at item size n p) ≡ n
unfolding many_at
many-length item size zero p = refl
many-length item size (suc n) p = ap suc (many-length item size n (p + size))

module _ (file : List ℕ) (kinds : List Kind) (mark : List ℕ) where
  pub class_size : (most p : ℕ) → length (class_at file kinds mark most p).value ≤ most
  unfolding records_at
  class_size zero p = omega arith
  class_size (suc most) p = by (is_mark mark (byte_at file p) (byte_at file (p + 1))) (class_size most (fact_at file kinds (p + 2)).next)
    where
      by : (t : Bool) → length (class_at file kinds mark most (fact_at file kinds (p + 2)).next).value ≤ most
          → length (if t then prepend (fact_at file kinds (p + 2)).value (class_at file kinds mark most (fact_at file kinds (p + 2)).next) else record { value = []; next = p }).value ≤ suc most
      by true h = omega arith
      by false h = omega arith

  pub class-fits : (most p : ℕ) → All GoodKind kinds → All (Fitting kinds) (class_at file kinds mark most p).value
  unfolding records_at
  class-fits zero p good = tt
  class-fits (suc most) p good = by (is_mark mark (byte_at file p) (byte_at file (p + 1))) (class-fits most (fact_at file kinds (p + 2)).next good)
    where
      by : (t : Bool) → All (Fitting kinds) (class_at file kinds mark most (fact_at file kinds (p + 2)).next).value
          → All (Fitting kinds) (if t then prepend (fact_at file kinds (p + 2)).value (class_at file kinds mark most (fact_at file kinds (p + 2)).next) else record { value = []; next = p }).value
      by true h =
          let arity = arity_of kinds (byte_at file (p + 2)) in
          let e : length (many_at (two_at file) 2 arity (p + 2 + 1)) ≡ arity = many-length (two_at file) 2 arity (p + 2 + 1) in
          (record { arity = e; few = omega (arith, e, arity_few kinds (byte_at file (p + 2)) good) }, h)
      by false h = tt

-- ---- what the arrays hold then

class-held : (kinds : List Kind) (kind numbers : List ℕ) (row : ℕ) (facts : List Fact) → Sized kind numbers → row + length facts ≤ row_count
    → All (Fitting kinds) facts → facts_from kinds (kinds_with kind row facts) (numbers_with numbers row facts) row (length facts) ≡ facts
class-held kinds kind numbers row facts s h all =
    facts_of_rows kinds (kinds_with kind row facts) (numbers_with numbers row facts) row (length facts)
    ∙ ap (map (fact_in kinds)) (rows_written kind numbers row facts s h)
    ∙ facts_back kinds facts all

pub held : (kinds : List Kind) (kind numbers : List ℕ) (board : Board) → Sized kind numbers → length board.cards ≤ most_cards
    → length board.notices ≤ most_notices → All (Fitting kinds) board.cards → All (Fitting kinds) board.notices
    → board_of kinds (loaded_kinds kind board) (loaded_numbers numbers board) (count_of board).cards (count_of board).notices ≡ board
held kinds kind numbers board s few few' all all' =
    let cards = board.cards in
    let kind₁ = kinds_with kind 0 cards in
    let numbers₁ = numbers_with numbers 0 cards in
    let e : facts_from kinds (loaded_kinds kind board) (loaded_numbers numbers board) 0 (length cards) ≡ cards =
    facts_of_rows kinds (loaded_kinds kind board) (loaded_numbers numbers board) 0 (length cards)
    ∙ ap (map (fact_in kinds)) (below_written kind₁ numbers₁ notices_from board.notices 0 (length cards) (omega arith))
    ∙ sym (facts_of_rows kinds kind₁ numbers₁ 0 (length cards))
    ∙ class-held kinds kind numbers 0 cards s (omega arith) all in
    let e' : facts_from kinds (loaded_kinds kind board) (loaded_numbers numbers board) notices_from (length board.notices) ≡ board.notices =
    class-held kinds kind₁ numbers₁ notices_from board.notices (sized_with kind numbers 0 cards s) (omega arith) all' in
    λ i. record { cards = e i; notices = e' i }

-- any file, read against kinds with at most four numbers
pub loaded_board : (file : List ℕ) (kinds : List Kind) (kind numbers : List ℕ) → Sized kind numbers → All GoodKind kinds
    → board_of kinds (loaded_kinds kind (board_at file kinds)) (loaded_numbers numbers (board_at file kinds)) (count_of (board_at file kinds)).cards (count_of (board_at file kinds)).notices
    ≡ board_at file kinds
unfolding board_at
loaded_board file kinds kind numbers s good =
    let next = (class_at file kinds CA most_cards 0).next in
    held kinds kind numbers (board_at file kinds) s (class_size file kinds CA most_cards 0) (class_size file kinds NO most_notices next)
    (class-fits file kinds CA most_cards 0 good) (class-fits file kinds NO most_notices next good)

pub loaded_sized : (kind numbers : List ℕ) (board : Board) → Sized kind numbers → Sized (loaded_kinds kind board) (loaded_numbers numbers board)
loaded_sized kind numbers board s =
    sized_with (kinds_with kind 0 board.cards) (numbers_with numbers 0 board.cards) notices_from board.notices (sized_with kind numbers 0 board.cards s)

-- a board has at most 256 cards and 128 notices
pub board_size : (file : List ℕ) (kinds : List Kind) → ((count_of (board_at file kinds)).cards ≤ most_cards) × ((count_of (board_at file kinds)).notices ≤ most_notices)
unfolding board_at
board_size file kinds = (class_size file kinds CA most_cards 0, class_size file kinds NO most_notices (class_at file kinds CA most_cards 0).next)
