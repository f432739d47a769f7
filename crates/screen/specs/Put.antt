-- Text put into lent bytes: a byte goes to the place that is reached, and what finds no room is left out. Every other byte is kept.
use Rattle.std.specs.Prelude.{ℕ, ◌+◌, ◌≡◌, refl, Bool, true, false, List, [], ◌∷◌, ◌++◌, length, set, ltb, if◌then◌else◌}
use Rattle.std.proofs.Common.{◌∙◌, length-set}

-- the lent bytes, and the place that the next byte of the text goes to
pub record Output : Type 0 where
  pub bytes : List ℕ
  pub place : ℕ

abbrev pub reached : List ℕ → ℕ → Output
reached bytes place = record { bytes = bytes; place = place }

abbrev pub put_byte : Output → ℕ → Output
put_byte o byte =
    if ltb o.place (length o.bytes) then record { bytes = set o.bytes o.place byte; place = o.place + 1 } else o

unfoldable pub put : Output → List ℕ → Output
put o [] = o
put o (byte ∷ more) = put (put_byte o byte) more

-- one text behind another
pub put_append : (o : Output) (a b : List ℕ) → put o (a ++ b) ≡ put (put o a) b
unfolding put
put_append o [] b = refl
put_append o (byte ∷ a) b = put_append (put_byte o byte) a b

-- the lent bytes stay as many
byte-length : (o : Output) (byte : ℕ) → length (put_byte o byte).bytes ≡ length o.bytes
byte-length o byte = by (ltb o.place (length o.bytes))
  where
    by : (t : Bool) → length (if t then reached (set o.bytes o.place byte) (o.place + 1) else o).bytes ≡ length o.bytes
    by true = length-set o.bytes o.place byte
    by false = refl

pub put-length : (o : Output) (text : List ℕ) → length (put o text).bytes ≡ length o.bytes
unfolding put
put-length o [] = refl
put-length o (byte ∷ more) = put-length (put_byte o byte) more ∙ byte-length o byte
