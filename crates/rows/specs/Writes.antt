-- The bytes of the board that the arrays hold, at the start of an output.
use Rattle.std.specs.Prelude.{ℕ, ◌+◌, ◌*◌, ◌≤◌, ◌≡◌, Bool, ◌&&◌, List, [], ◌++◌, length, drop, leb, if◌then◌else◌}
use Rattle.std.proofs.lemmas.List.Edits.{sets}
use Rattle.meaning.specs.Facts.{Kind, most_cards, most_notices, longest_board}
use Rattle.files.specs.Encode.{encode_board}
use Rattle.rows.specs.declared.Count.{Count}
use Rattle.rows.specs.Held.{board_of}

-- Nothing for a count that no arrays can have, and nothing where the longest board has no room. A kind's numbers past its fourth are in no row, and so
-- in no board.
abbrev pub can_write : Count → ℕ → Bool
can_write count room = leb count.cards most_cards && (leb count.notices most_notices && leb longest_board room)

unfoldable pub written_board : List Kind → List ℕ → List ℕ → Count → ℕ → List ℕ
written_board kinds kind numbers count room =
    if can_write count room then encode_board (board_of kinds kind numbers count.cards count.notices) else []

-- the length of what is written, and every byte of the output: "bytes past it kept"
pub record BoardWritten (bytes out₀ out₁ : List ℕ) (r : ℕ) : Type 0 where
  pub size : r ≡ length bytes
  pub out : out₁ ≡ bytes ++ drop (length bytes) out₀

-- the same of a part: the place after it, and its bytes from a place on; so many rows take 11 bytes each at most
pub record RowsWritten (bytes : List ℕ) (at rows : ℕ) (out₀ out₁ : List ℕ) (r : ℕ) : Type 0 where
  pub next : r ≡ at + length bytes
  pub near : r ≤ at + 11 * rows
  pub out : out₁ ≡ sets out₀ at bytes
