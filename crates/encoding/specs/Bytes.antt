-- What a byte is, and numbers of two bytes: a file is a list of bytes, and two bytes say one number and are said by it.
use Rattle.std.specs.Prelude.{ℕ, zero, suc, ◌+◌, ◌*◌, ◌/◌, ◌%◌, ◌<◌, ◌≡◌, refl, List, [], ◌∷◌, ◌++◌, length, get_or}
use Rattle.std.proofs.Common.{arith, ap, ap₂}
use Rattle.meaning.specs.Basics.{All}
use Rattle.meaning.specs.Facts.{number_limit}
pub use Rattle.files.specs.Judge.{Bytes}
use Rattle.files.specs.Encode.{two_bytes, concat_map}

-- it does where each place of it does
pub bytes_of : (file : List ℕ) → ((i : ℕ) → get_or file i 0 < 256) → Bytes file
bytes_of [] h = tt
bytes_of (b ∷ file) h = (h 0, bytes_of file (λ i. h (suc i)))

pub byte_of : (file : List ℕ) → Bytes file → (i : ℕ) → get_or file i 0 < 256
byte_of [] b i = omega arith
byte_of (x ∷ file) b zero = b.0
byte_of (x ∷ file) b (suc i) = byte_of file b.1 i

pub bytes_apart : (xs ys : List ℕ) → Bytes (xs ++ ys) → Bytes xs × Bytes ys
bytes_apart [] ys h = (tt, h)
bytes_apart (x ∷ xs) ys h = let (a, b) = bytes_apart xs ys h.1 in ((h.0, a), b)

pub bytes_joined : (xs ys : List ℕ) → Bytes xs → Bytes ys → Bytes (xs ++ ys)
bytes_joined [] ys h k = k
bytes_joined (x ∷ xs) ys h k = (h.0, bytes_joined xs ys h.1 k)

-- ---- two bytes, one number

pub low_of : (low high : ℕ) → low < 256 → (low + 256 * high) % 256 ≡ low
low_of low high h = omega arith

pub high_of : (low high : ℕ) → low < 256 → (low + 256 * high) / 256 ≡ high
high_of low high h = omega arith

pub number_of : (v : ℕ) → v % 256 + 256 * (v / 256) ≡ v
number_of v = omega arith

pub within_limit : (low high : ℕ) → low < 256 → high < 256 → low + 256 * high < number_limit
within_limit low high h k = omega arith

pub low_byte : (v : ℕ) → v % 256 < 256
low_byte v = omega arith

pub high_byte : (v : ℕ) → v < number_limit → v / 256 < 256
high_byte v h = omega arith

-- ---- the numbers that a list of bytes says, two bytes each

unfoldable pub said : List ℕ → List ℕ
said [] = []
said (low ∷ []) = []
said (low ∷ high ∷ more) = (low + 256 * high) ∷ said more

pub said-length : (m : ℕ) (bytes : List ℕ) → length bytes ≡ 2 * m → length (said bytes) ≡ m
unfolding said
said-length zero [] h = refl
said-length zero (low ∷ more) h = let bad : ⊥ = omega arith in absurd bad
said-length (suc m) [] h = let bad : ⊥ = omega arith in absurd bad
said-length (suc m) (low ∷ []) h = let bad : ⊥ = omega arith in absurd bad
said-length (suc m) (low ∷ high ∷ more) h = ap suc (said-length m more (omega arith))

-- the bytes are those of the numbers they say
pub said-spelled : (m : ℕ) (bytes : List ℕ) → length bytes ≡ 2 * m → Bytes bytes → concat_map two_bytes (said bytes) ≡ bytes
unfolding said concat_map
said-spelled zero [] h b = refl
said-spelled zero (low ∷ more) h b = let bad : ⊥ = omega arith in absurd bad
said-spelled (suc m) [] h b = let bad : ⊥ = omega arith in absurd bad
said-spelled (suc m) (low ∷ []) h b = let bad : ⊥ = omega arith in absurd bad
said-spelled (suc m) (low ∷ high ∷ more) h b =
    cc (low_of low high b.0, high_of low high b.0, said-spelled m more (omega arith) b.1.1)

pub said_limited : (bytes : List ℕ) → Bytes bytes → All (λ v. v < number_limit) (said bytes)
unfolding said
said_limited [] b = tt
said_limited (low ∷ []) b = tt
said_limited (low ∷ high ∷ more) b = (within_limit low high b.0 b.1.0, said_limited more b.1.1)

-- the numbers are those that their bytes say
pub spelled-said : (vs : List ℕ) → said (concat_map two_bytes vs) ≡ vs
unfolding said concat_map
spelled-said [] = refl
spelled-said (v ∷ vs) = ap₂ ◌∷◌ (number_of v) (spelled-said vs)

pub spelled-length : (vs : List ℕ) → length (concat_map two_bytes vs) ≡ 2 * length vs
unfolding concat_map
spelled-length [] = refl
spelled-length (v ∷ vs) = omega (arith, spelled-length vs)

pub spelled_bytes : (vs : List ℕ) → All (λ v. v < number_limit) vs → Bytes (concat_map two_bytes vs)
unfolding concat_map
spelled_bytes [] h = tt
spelled_bytes (v ∷ vs) h = (low_byte v, (high_byte v h.0, spelled_bytes vs h.1))
