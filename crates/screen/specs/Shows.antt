-- What putting text, rows, and a whole answer leaves: the output with the text, and the place in the board after the rows. A row takes 513 bytes at most.
use Rattle.std.specs.Prelude.{ℕ, ◌+◌, ◌*◌, ◌≤◌, ◌≡◌, List, length, take}
use Rattle.meaning.specs.Facts.{Fact}
use Rattle.files.specs.Encode.{concat_map}
use Rattle.files.specs.Display.{row_line}
use Rattle.files.specs.InPlace.{Read}
use Rattle.screen.specs.declared.Writer.{Writer}
use Rattle.screen.specs.Put.{Output, reached, put}

abbrev pub output_of : Writer → Output
output_of w = reached w.out.now w.at

-- a writer puts some text, and still writes to the same lent bytes
pub record Puts (before after : Writer) (text : List ℕ) : Type 0 where
  pub lent : after.out.ghost_name ≡ before.out.ghost_name
  pub output : output_of after ≡ put (output_of before) text

pub record RowPut (fact : Read Fact) (word : List ℕ) (before after : Writer) (r from : ℕ) : Type 0 where
  pub line : Puts before after (row_line word fact.value)
  pub next : r ≡ fact.next
  pub near : r ≤ from + 511

pub record RowsPut (facts : Read (List Fact)) (word : List ℕ) (before after : Writer) (r from most : ℕ) : Type 0 where
  pub lines : Puts before after (concat_map (row_line word) facts.value)
  pub next : r ≡ facts.next
  pub near : r ≤ from + 513 * most

-- the text from the start of the output on, as much of it as fits; the count lies within the output, in both forms that a part of it asks
pub record TextPut (text before after : List ℕ) (r : ℕ) : Type 0 where
  pub whole : reached after r ≡ put (reached before 0) text
  pub within : r ≤ length after
  pub part : r ≡ length (take r after)
