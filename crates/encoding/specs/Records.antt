-- Reading in place (crates/files, `InPlace`): where the bytes from place p on are those of so many things, so many things are read there, and
-- the next place is where the other bytes begin.
use Prim.Native.Nat.{ℕ, zero, suc, ◌+◌, ◌*◌, ◌≤◌}
use Rattle.std.proofs.Common.{add-zero, sym, ap, ap₂, ◌∙◌, get_or-drop, drop-drop}
use native.Mathlib.Omega.{arith}
use Rattle.std.specs.Prelude.{◌≡◌, false, length, get_or}
use Rattle.std.proofs.Math.Path.{refl}
use mathlib.Core.List.{List, [], ◌∷◌, ◌++◌, map, append_assoc}
use Rattle.std.proofs.Math.ListN.{drop}
use borrow.Author.Tests.{eq-eqb}
use Rattle.meaning.specs.Basics.{All}
use Rattle.files.specs.Marks.{is_mark}
use Rattle.files.specs.InPlace.{byte_at, two_at, Read, records_at, many_at}
use Rattle.files.specs.Encode.{concat_map}
use Rattle.encoding.specs.Bytes.{said}

-- the value is read, and `rest` follows it
abbrev pub Reads : {A : Type 0} → List ℕ → Read A → A → List ℕ → Type 0
Reads file r a rest = (r.value ≡ a) × (drop r.next file ≡ rest)

module _ (file : List ℕ) (p : ℕ) (l : List ℕ) (here : drop p file ≡ l) where
  pub byte_further : (k : ℕ) → byte_at file (p + k) ≡ get_or l k 0
  byte_further k = sym (get_or-drop p file k 0) ∙ ap (λ (q : List ℕ). get_or q k 0) here

  pub byte_here : byte_at file p ≡ get_or l 0 0
  byte_here = ap (byte_at file) (sym (add-zero p)) ∙ byte_further 0

  pub further : (k : ℕ) → drop (p + k) file ≡ drop k l
  further k = sym (drop-drop k p file) ∙ ap (drop k) here

-- numbers of two bytes
pub numbers-at : (file : List ℕ) (m p : ℕ) (bytes tail : List ℕ) → length bytes ≡ 2 * m → drop p file ≡ bytes ++ tail
    → (many_at (two_at file) 2 m p ≡ said bytes) × (drop (p + 2 * m) file ≡ tail)
unfolding many_at said
numbers-at file zero p [] tail h e = (refl, further file p tail e 0)
numbers-at file zero p (low ∷ more) tail h e = let bad : ⊥ = omega arith in absurd bad
numbers-at file (suc m) p [] tail h e = let bad : ⊥ = omega arith in absurd bad
numbers-at file (suc m) p (low ∷ []) tail h e = let bad : ⊥ = omega arith in absurd bad
numbers-at file (suc m) p (low ∷ high ∷ more) tail h e =
    let ih = numbers-at file m (p + 2) more tail (omega arith) (further file p (low ∷ high ∷ (more ++ tail)) e 2) in
    let place : p + 2 + 2 * m ≡ p + 2 * suc m = omega arith in (
      ap₂ ◌∷◌
          (ap₂ (λ (x y : ℕ). x + 256 * y) (byte_here file p (low ∷ high ∷ (more ++ tail)) e) (byte_further file p (low ∷ high ∷ (more ++ tail)) e 1))
          ih.0,
      ap (λ (q : ℕ). drop q file) (sym place) ∙ ih.1,
    )

-- Records with the mark a b: `item` reads what follows a mark, `spell` is its bytes and `mean` its value
module _ {A W : Type 0} (file : List ℕ) (a b : ℕ) (item : ℕ → Read A) (spell : W → List ℕ) (mean : W → A) (Good : W → Type 0)
    (reads : (w : W) (p : ℕ) (rest : List ℕ) → Good w → drop p file ≡ spell w ++ rest → Reads file (item p) (mean w) rest) where
  abbrev mark : List ℕ
  mark = a ∷ b ∷ []

  pub records-at : (left : ℕ) (ws : List W) (p : ℕ) (rest : List ℕ) → length ws ≤ left → All Good ws
      → drop p file ≡ concat_map (λ w. (a ∷ b ∷ []) ++ spell w) ws ++ rest → is_mark (a ∷ b ∷ []) (get_or rest 0 0) (get_or rest 1 0) ≡ false
      → Reads file (records_at file (a ∷ b ∷ []) item left p) (map mean ws) rest
  unfolding records_at concat_map
  records-at zero [] p rest h g e n = (refl, e)
  records-at zero (w ∷ ws) p rest h g e n = let bad : ⊥ = omega arith in absurd bad
  records-at (suc left) [] p rest h g e n = rw (byte_here file p rest e, byte_further file p rest e 1, n) (refl, e)
  records-at (suc left) (w ∷ ws) p rest h g e n =
      let tail = concat_map (λ w. (a ∷ b ∷ []) ++ spell w) ws ++ rest in
      let here : drop p file ≡ a ∷ b ∷ (spell w ++ tail) = e ∙ append_assoc ((a ∷ b ∷ []) ++ spell w) (concat_map (λ w. (a ∷ b ∷ []) ++ spell w) ws) rest in
      let one = reads w (p + 2) tail g.0 (further file p (a ∷ b ∷ (spell w ++ tail)) here 2) in
      let more = records-at left ws (item (p + 2)).next rest (omega arith) g.1 one.1 n in
      rw (byte_here file p (a ∷ b ∷ (spell w ++ tail)) here, byte_further file p (a ∷ b ∷ (spell w ++ tail)) here 1, eq-eqb a a refl, eq-eqb b b refl)
      (ap₂ ◌∷◌ one.0 more.0, more.1)
