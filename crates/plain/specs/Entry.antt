-- What the entry has judged before it runs a book.
use Rattle.std.specs.Prelude.{◌≡◌, ℕ, ◌≤◌, List, length}
use Rattle.meaning.specs.Facts.{most_kinds, longest_book, longest_board}
use Rattle.meaning.specs.WellFormed.{GoodBook, GoodBoard}
use Rattle.files.specs.Encode.{encode_book}
use Rattle.files.specs.InPlace.{book_at, board_at}
use Rattle.kinds.specs.declared.Kinds.{Kinds}
use Rattle.kinds.specs.Listed.{kinds_of}

-- both files are accepted, and the output has room for every board
pub record Ready (book_file : List ℕ) (kinds : Kinds) (board_file : List ℕ) (room : ℕ) : Type 0 where
  pub good : GoodBook (book_at book_file)
  pub encoded : book_file ≡ encode_book (book_at book_file)
  pub short : length book_file ≤ longest_book
  pub declared : kinds_of kinds ≡ (book_at book_file).kinds
  pub few : kinds.count ≤ most_kinds
  pub board : GoodBoard (kinds_of kinds) (board_at board_file (kinds_of kinds))
  pub space : longest_board ≤ room
