-- What the entry has judged before it runs a strip.
use Rattle.std.specs.Prelude.{ℕ, ◌≤◌, List}
use Rattle.meaning.specs.Facts.{longest_board}
use Rattle.meaning.specs.WellFormed.{GoodBoard}
use Rattle.files.specs.InPlace.{board_at}
use Rattle.kinds.specs.declared.Kinds.{Kinds}
use Rattle.kinds.specs.Listed.{kinds_of}
use Rattle.machine.specs.Firings.{Known}

-- both files are accepted, and the output has room for every board
pub record BothAccepted (strip_file : List ℕ) (kinds : Kinds) (board_file : List ℕ) (room : ℕ) : Type 0 where
  pub known : Known strip_file kinds
  pub board : GoodBoard (kinds_of kinds) (board_at board_file (kinds_of kinds))
  pub space : longest_board ≤ room
