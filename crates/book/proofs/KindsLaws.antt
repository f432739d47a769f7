-- The kinds at the start of any bytes, read one by one.
use Rattle.std.specs.Prelude.{if◌then◌else◌}
use Prim.Native.Nat.{ℕ, zero, suc, ◌+◌, ◌-◌, ◌*◌, ◌≤◌, ◌<◌, min}
use mathlib.Core.Path.{◌≡◌, refl, sym, ap, ap₂, ◌∙◌}
use mathlib.Core.Bool.{Bool, true, false}
use mathlib.Core.List.{List, [], ◌∷◌, ◌++◌, append_assoc, append-nil}
use native.Mathlib.Nat.{add-zero}
use native.Mathlib.Omega.{arith}
use lib.ListN.{length, drop, set, length-set, length-append, get_or-append, get_or-eq_default, drop_of_length-le}
use lib.Seq.{drop-drop, get_or-drop, drop-append_seam}
use lib.Dec.{eqb, leb, ltb}
use borrow.Author.Tests.{leb-true, leb-false, ltb-true, ltb-false}
use Rattle.std.proofs.lemmas.List.{nil_from_length}
use Rattle.meaning.specs.Facts.{Kind, most_kinds}
use Rattle.files.specs.Marks.{KD, is_mark}
use Rattle.files.specs.InPlace.{byte_at, prepend, records_at, kind_at, kinds_at}
use Rattle.book.specs.Kinds.{KindsRead}
use Rattle.kinds.specs.declared.Kinds.{Kinds}
use Rattle.kinds.specs.Listed.{kinds_of, kinds_from, no_kinds, with_kind}
use Rattle.kinds.specs.KindLaws.{with-room, with-listed}

-- a piece of four bytes, or the last and shorter one: its bytes, and what is left after it
module _ (rest piece later : List ℕ) (e : rest ≡ piece ++ later) (n : length piece ≡ min 4 (length rest)) where
  piece_later : later ≡ drop 4 rest
  piece_later = by (leb 4 (length rest)) refl
    where
      by : (b : Bool) → leb 4 (length rest) ≡ b → later ≡ drop 4 rest
      by true l =
          let h : 4 ≤ length rest = leb-true 4 (length rest) l in
          let four : length piece ≡ 4 = omega arith in
          sym (drop-append_seam piece later) ∙ ap₂ (λ (k : ℕ) (x : List ℕ). drop k x) four (sym e)
      by false l =
          let h : length rest < 4 = leb-false 4 (length rest) l in
          nil_from_length later (omega (arith, ap length e, length-append piece later)) ∙ sym (drop_of_length-le rest {i = 4} (omega arith))

  piece_byte : (k : ℕ) → k < 4 → byte_at piece k ≡ byte_at rest k
  piece_byte k h = by (ltb k (length piece)) refl
    where
      by : (b : Bool) → ltb k (length piece) ≡ b → byte_at piece k ≡ byte_at rest k
      by true l = sym (ap (λ (x : List ℕ). byte_at x k) e ∙ get_or-append piece later 0 k (ltb-true k (length piece) l))
      by false l =
          let m : length piece ≤ k = ltb-false k (length piece) l in
          get_or-eq_default piece 0 m ∙ sym (get_or-eq_default rest 0 (omega arith))

-- the kinds from a place on, at most so many
abbrev from : List ℕ → ℕ → ℕ → List Kind
from file left p = (records_at file KD (kind_at file) left p).value

abbrev mark_at : List ℕ → ℕ → Bool
mark_at file p = is_mark KD (byte_at file p) (byte_at file (p + 1))

-- one more of them, if a mark stands there
abbrev one_more : List ℕ → ℕ → ℕ → Bool → List Kind
one_more file left p mark =
    (if mark then prepend (kind_at file (p + 2)).value (records_at file KD (kind_at file) left (p + 2 + 2)) else record { value = []; next = p }).value

from-none : (file : List ℕ) (left p : ℕ) → mark_at file p ≡ false → from file left p ≡ []
unfolding records_at
from-none file zero p e = refl
from-none file (suc left) p e = ap (one_more file left p) e

from_one : (file : List ℕ) (left p : ℕ) → mark_at file p ≡ true → from file (suc left) p ≡ (kind_at file (p + 2)).value ∷ from file left (p + 4)
unfolding records_at
from_one file left p e =
    let q : p + 2 + 2 ≡ p + 4 = omega arith in
    ap (one_more file left p) e ∙ ap (λ (n : ℕ). (kind_at file (p + 2)).value ∷ from file left n) q

-- the kinds that are read, and those that are left, are all kinds
pub record Counted (file rest : List ℕ) (kinds : Kinds) : Type 0 where
  pub few : kinds.count ≤ most_kinds
  pub classes : length kinds.class ≡ most_kinds
  pub arities : length kinds.arity ≡ most_kinds
  pub place : rest ≡ drop (4 * kinds.count) file
  pub same : kinds_of kinds ++ from file (most_kinds - kinds.count) (4 * kinds.count) ≡ (kinds_at file).value

pub count_start : (file rest : List ℕ) → rest ≡ file → (kinds : Kinds) → kinds ≡ no_kinds → Counted file rest kinds
unfolding kinds_at kinds_of kinds_from
count_start file rest p kinds e = rw e (record { few = omega arith; classes = refl; arities = refl; place = p; same = refl })

module _ (file rest : List ℕ) (kinds : Kinds) (s : Counted file rest kinds) where
  abbrev here : Bool
  here = mark_at file (4 * kinds.count)

  pub count_whole : most_kinds ≤ kinds.count → KindsRead file kinds
  unfolding records_at
  count_whole h =
      let e : most_kinds - kinds.count ≡ 0 = omega arith in
      record { listed = sym (append-nil (kinds_of kinds)) ∙ ap (λ (n : ℕ). kinds_of kinds ++ from file n (4 * kinds.count)) (sym e) ∙ s.same; few = s.few }

  count_end : here ≡ false → KindsRead file kinds
  count_end e = record {
    listed =
        sym (append-nil (kinds_of kinds))
        ∙ ap (λ (l : List Kind). kinds_of kinds ++ l) (sym (from-none file (most_kinds - kinds.count) (4 * kinds.count) e))
        ∙ s.same;
    few = s.few;
  }

  byte_there : (k p : ℕ) → p ≡ 4 * kinds.count + k → byte_at rest k ≡ byte_at file p
  byte_there k p e = ap (λ (l : List ℕ). byte_at l k) s.place ∙ get_or-drop (4 * kinds.count) file k 0 ∙ ap (byte_at file) (sym e)

  -- where nothing is left, no mark stands there
  pub count_past : (n : ℕ) → kinds.count + n ≡ most_kinds → (0 < n → length rest ≡ 0) → KindsRead file kinds
  count_past n e none = by (leb most_kinds kinds.count) refl
    where
      by : (b : Bool) → leb most_kinds kinds.count ≡ b → KindsRead file kinds
      by true l = count_whole (leb-true most_kinds kinds.count l)
      by false l =
          let h : kinds.count < most_kinds = leb-false most_kinds kinds.count l in
          let nil : rest ≡ [] = nil_from_length rest (none (omega arith)) in
          count_end
          (ap₂ (is_mark KD)
          (sym (byte_there 0 (4 * kinds.count) (omega arith)) ∙ ap (λ (l : List ℕ). byte_at l 0) nil)
          (sym (byte_there 1 (4 * kinds.count + 1) refl) ∙ ap (λ (l : List ℕ). byte_at l 1) nil))

  module _ (size : ℕ) (z : size ≡ 4) (piece later : List ℕ) (p : rest ≡ piece ++ later) (l : length piece ≡ min size (length rest)) where
    n : length piece ≡ min 4 (length rest)
    n = omega arith

    piece_there : (k : ℕ) → k < 4 → byte_at piece k ≡ byte_at file (4 * kinds.count + k)
    piece_there k h = piece_byte rest piece later p n k h ∙ byte_there k (4 * kinds.count + k) refl

    its_mark : (mark : Bool) → mark ≡ is_mark KD (byte_at piece 0) (byte_at piece 1) → mark ≡ here
    its_mark mark m =
        m ∙ ap₂ (is_mark KD) (piece_there 0 (omega arith) ∙ ap (byte_at file) (add-zero (4 * kinds.count))) (piece_there 1 (omega arith))

    pub count_stops : (mark : Bool) → mark ≡ is_mark KD (byte_at piece 0) (byte_at piece 1) → mark ≡ false → KindsRead file kinds
    count_stops mark m e = count_end (sym (its_mark mark m) ∙ e)

    pub count_goes : (mark : Bool) → mark ≡ is_mark KD (byte_at piece 0) (byte_at piece 1) → mark ≡ true → kinds.count < most_kinds
        → (class arity : ℕ) → class ≡ byte_at piece 2 → arity ≡ byte_at piece 3 → (more : Kinds) → more ≡ with_kind kinds class arity
        → Counted file later more × (more.count ≡ kinds.count + 1)
    count_goes mark m e h class arity c a more k = (
      record {
        few = omega (arith, count_is);
        classes = ap (λ (x : Kinds). length x.class) added ∙ length-set kinds.class kinds.count class ∙ s.classes;
        arities = ap (λ (x : Kinds). length x.arity) added ∙ length-set kinds.arity kinds.count arity ∙ s.arities;
        place = piece_later rest piece later p n ∙ ap (drop 4) s.place ∙ drop-drop 4 (4 * kinds.count) file ∙ ap (λ (n : ℕ). drop n file) four;
        same =
            ap (λ (l : List Kind). l ++ from file (most_kinds - more.count) (4 * more.count)) listed
            ∙ append_assoc (kinds_of kinds) _ _
            ∙ ap (λ (n : ℕ). kinds_of kinds ++ ((kind_at file (4 * kinds.count + 2)).value ∷ from file (most_kinds - more.count) n)) (sym four)
            ∙ ap (λ (l : List Kind). kinds_of kinds ++ l)
            (sym (from_one file (most_kinds - more.count) (4 * kinds.count) (sym (its_mark mark m) ∙ e)))
            ∙ ap (λ (n : ℕ). kinds_of kinds ++ from file n (4 * kinds.count)) one
            ∙ s.same;
      },
      count_is,
    )
      where
        added : more ≡ record { count = kinds.count + 1; class = set kinds.class kinds.count class; arity = set kinds.arity kinds.count arity }
        added = k ∙ sym (with-room kinds class arity h)

        count_is : more.count ≡ kinds.count + 1
        count_is = ap (λ (x : Kinds). x.count) added

        four : 4 * kinds.count + 4 ≡ 4 * more.count
        four = omega (arith, count_is)

        one : suc (most_kinds - more.count) ≡ most_kinds - kinds.count
        one = omega (arith, count_is)

        listed : kinds_of more ≡ kinds_of kinds ++ ((kind_at file (4 * kinds.count + 2)).value ∷ [])
        listed =
            let three : 4 * kinds.count + 3 ≡ 4 * kinds.count + 2 + 1 = omega arith in
            ap kinds_of k ∙ with-listed kinds class arity h s.classes s.arities
            ∙ ap₂ (λ (x y : ℕ). kinds_of kinds ++ (record { card = eqb x 0; arity = y } ∷ []))
            (c ∙ piece_there 2 (omega arith)) (a ∙ piece_there 3 (omega arith) ∙ ap (byte_at file) three)
