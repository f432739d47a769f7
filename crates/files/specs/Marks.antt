-- "Every record opens with a mark of two letters in ASCII." The nine marks, named once; readers compare them and writers write them.
use Rattle.std.specs.Prelude.{ℕ, Bool, ◌&&◌, List, [], ◌∷◌, get_or, eqb}

abbrev pub KD : List ℕ
KD = 0x6b ∷ 0x64 ∷ []

abbrev pub RU : List ℕ
RU = 0x72 ∷ 0x75 ∷ []

abbrev pub BA : List ℕ
BA = 0x62 ∷ 0x61 ∷ []

abbrev pub TE : List ℕ
TE = 0x74 ∷ 0x65 ∷ []

abbrev pub HE : List ℕ
HE = 0x68 ∷ 0x65 ∷ []

abbrev pub SW : List ℕ
SW = 0x73 ∷ 0x77 ∷ []

abbrev pub CA : List ℕ
CA = 0x63 ∷ 0x61 ∷ []

abbrev pub NO : List ℕ
NO = 0x6e ∷ 0x6f ∷ []

abbrev pub EN : List ℕ
EN = 0x65 ∷ 0x6e ∷ []

-- are these two bytes the mark
abbrev pub is_mark : List ℕ → ℕ → ℕ → Bool
is_mark mark a b = eqb a (get_or mark 0 0) && eqb b (get_or mark 1 0)
