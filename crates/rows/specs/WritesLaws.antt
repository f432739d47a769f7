-- What `write` leaves is the board's encoding and then the old bytes.
use Rattle.std.specs.Prelude.{ℕ, ◌*◌, ◌≤◌, ◌≡◌, refl, List, [], ◌∷◌, length}
use Rattle.std.proofs.Common.{arith}
use borrow.Author.Tests.{le-leb}
use Rattle.meaning.specs.Facts.{Kind, most_cards, most_notices, longest_board}
use Rattle.files.specs.Encode.{two_bytes, concat_map, encode_board}
use Rattle.rows.specs.declared.Count.{Count}
use Rattle.rows.specs.Held.{board_of}
use Rattle.rows.specs.Writes.{written_board, BoardWritten}

pub two-length : (vs : List ℕ) → length (concat_map two_bytes vs) ≡ 2 * length vs
unfolding concat_map
two-length [] = refl
two-length (v ∷ vs) = omega (arith, two-length vs)

-- ---- what is written

module _ (kinds : List Kind) (kind numbers : List ℕ) (count : Count) (c : count.cards ≤ most_cards) (n : count.notices ≤ most_notices) where
  pub written_is : (room : ℕ) → longest_board ≤ room → written_board kinds kind numbers count room ≡ encode_board (board_of kinds kind numbers count.cards count.notices)
  unfolding written_board
  written_is room h = rw (le-leb count.cards most_cards c, le-leb count.notices most_notices n, le-leb longest_board room h)

  pub board-written : (out₀ out₁ : List ℕ) (r : ℕ) → longest_board ≤ length out₀ → BoardWritten (written_board kinds kind numbers count (length out₀)) out₀ out₁ r
      → BoardWritten (encode_board (board_of kinds kind numbers count.cards count.notices)) out₀ out₁ r
  board-written out₀ out₁ r h w = rw (written_is (length out₀) h) at w
