-- The kinds that stand at a book's start, as a struct holds them.
use Rattle.std.specs.Prelude.{ℕ, ◌≤◌, ◌≡◌, List}
use Rattle.meaning.specs.Facts.{most_kinds}
use Rattle.files.specs.InPlace.{kinds_at}
use Rattle.kinds.specs.declared.Kinds.{Kinds}
use Rattle.kinds.specs.Listed.{kinds_of}

pub record KindsRead (file : List ℕ) (kinds : Kinds) : Type 0 where
  pub listed : kinds_of kinds ≡ (kinds_at file).value
  pub few : kinds.count ≤ most_kinds
