-- The kinds of a struct `Kinds`, one by one: how many there are, what kind k is, and that one more kind stands at the end of the list.
use Rattle.std.specs.Prelude.{ℕ, zero, suc, ◌+◌, ◌≤◌, ◌<◌, ◌≡◌, refl, Bool, true, false, not, List, [], ◌∷◌, ◌++◌, length, get_or, set, min, eqb, leb, ltb, if◌then◌else◌}
use Rattle.std.proofs.Common.{add-zero, add-suc, suc-add, zero-add, arith, sym, ap, ap₂, ◌∙◌, get_or-set_same, get_or-set_other, leb-true, leb-false, lt-ltb, le-ltb, le-leb}
use Rattle.std.proofs.Math.Bool.{beq}
use Rattle.std.proofs.Math.ListN.{get_or-eq_default}
use Rattle.std.proofs.lemmas.Bool.{lt-leb}
use Rattle.meaning.specs.Facts.{Kind, no_kind, is_card, arity_of, most_kinds}
use Rattle.files.specs.Board.{is_of_class}
use Rattle.kinds.specs.declared.Kinds.{Kinds}
use Rattle.kinds.specs.Listed.{kinds_from, in_range, kinds_of, with_kind}

-- kind k by the classes and arities
abbrev pub kind_by : List ℕ → List ℕ → ℕ → Kind
kind_by classes arities k = record { card = eqb (get_or classes k 0) 0; arity = get_or arities k 0 }

from-length : (classes arities : List ℕ) (i n : ℕ) → length (kinds_from classes arities i n) ≡ n
unfolding kinds_from
from-length classes arities i zero = refl
from-length classes arities i (suc n) = ap suc (from-length classes arities (suc i) n)

from_at : (classes arities : List ℕ) (i n k : ℕ) → k < n → get_or (kinds_from classes arities i n) k no_kind ≡ kind_by classes arities (i + k)
unfolding kinds_from
from_at classes arities i zero k h = let bad : ⊥ = omega arith in absurd bad
from_at classes arities i (suc n) zero h = ap (kind_by classes arities) (sym (add-zero i))
from_at classes arities i (suc n) (suc k) h =
    from_at classes arities (suc i) n k (omega arith) ∙ ap (kind_by classes arities) (suc-add i k ∙ sym (add-suc i k))

in_range_is : (count : ℕ) → in_range count ≡ min count most_kinds
in_range_is count = cases (leb count most_kinds) refl
  where
    cases : (t : Bool) → leb count most_kinds ≡ t → (if t then count else most_kinds) ≡ min count most_kinds
    cases true e = omega (arith, leb-true count most_kinds e)
    cases false e = omega (arith, leb-false count most_kinds e)

-- ---- kind k

pub kinds-length : (kinds : Kinds) → length (kinds_of kinds) ≡ in_range kinds.count
unfolding kinds_of
kinds-length kinds = from-length kinds.class kinds.arity 0 (in_range kinds.count)

pub kind_at : (kinds : Kinds) (k : ℕ) → k < kinds.count → k < most_kinds → get_or (kinds_of kinds) k no_kind ≡ kind_by kinds.class kinds.arity k
unfolding kinds_of
kind_at kinds k h l =
    from_at kinds.class kinds.arity 0 (in_range kinds.count) k (omega (arith, in_range_is kinds.count))
    ∙ ap (kind_by kinds.class kinds.arity) (zero-add k)

past : (kinds : Kinds) (k : ℕ) → min kinds.count most_kinds ≤ k → get_or (kinds_of kinds) k no_kind ≡ no_kind
past kinds k h = get_or-eq_default (kinds_of kinds) no_kind (omega (arith, kinds-length kinds, in_range_is kinds.count))

-- ---- what the methods answer

pub arity_past : (kinds : Kinds) (k : ℕ) → min kinds.count most_kinds ≤ k → arity_of (kinds_of kinds) k ≡ 0
arity_past kinds k h = ap (λ (x : Kind). x.arity) (past kinds k h)

pub arity_at : (kinds : Kinds) (k : ℕ) → k < kinds.count → k < most_kinds → get_or kinds.arity k 0 ≡ arity_of (kinds_of kinds) k
arity_at kinds k h l = sym (ap (λ (x : Kind). x.arity) (kind_at kinds k h l))

pub card-at : (kinds : Kinds) (k : ℕ) → k < kinds.count → k < most_kinds → is_card (kinds_of kinds) k ≡ eqb (get_or kinds.class k 0) 0
card-at kinds k h l = ap (λ (x : Kind). x.card) (kind_at kinds k h l)

declared : (kinds : Kinds) (k : ℕ) → k < kinds.count → k < most_kinds → ltb k (length (kinds_of kinds)) ≡ true
declared kinds k h l = lt-ltb k (length (kinds_of kinds)) (omega (arith, kinds-length kinds, in_range_is kinds.count))

pub class_past : (kinds : Kinds) (card : Bool) (k : ℕ) → min kinds.count most_kinds ≤ k → is_of_class (kinds_of kinds) card k ≡ false
class_past kinds true k h = rw (le-ltb k (length (kinds_of kinds)) (omega (arith, kinds-length kinds, in_range_is kinds.count)))
class_past kinds false k h = rw (le-ltb k (length (kinds_of kinds)) (omega (arith, kinds-length kinds, in_range_is kinds.count)))

same-card : (b : Bool) → beq b true ≡ b
same-card true = refl
same-card false = refl

same_notice : (b : Bool) → beq b false ≡ not b
same_notice true = refl
same_notice false = refl

pub class_at : (kinds : Kinds) (card : Bool) (k : ℕ) → k < kinds.count → k < most_kinds
    → beq (eqb (get_or kinds.class k 0) 0) card ≡ is_of_class (kinds_of kinds) card k
class_at kinds true k h l = rw (declared kinds k h l, card-at kinds k h l) (same-card _)
class_at kinds false k h l = rw (declared kinds k h l, card-at kinds k h l) (same_notice _)

-- ---- one kind more

pub with_full : (kinds : Kinds) (class arity : ℕ) → most_kinds ≤ kinds.count → kinds ≡ with_kind kinds class arity
with_full kinds class arity h = rw (le-leb most_kinds kinds.count h)

pub with-room : (kinds : Kinds) (class arity : ℕ) → kinds.count < most_kinds
    → record { count = kinds.count + 1; class = set kinds.class kinds.count class; arity = set kinds.arity kinds.count arity } ≡ with_kind kinds class arity
with-room kinds class arity h = rw (lt-leb most_kinds kinds.count h)

-- a store past the kinds that are listed changes none of them, and then is the last
from-set : (classes arities : List ℕ) (class arity i n at : ℕ) → i + n ≡ at → at < length classes → at < length arities
    → kinds_from (set classes at class) (set arities at arity) i (suc n) ≡ kinds_from classes arities i n ++ (record { card = eqb class 0; arity = arity } ∷ [])
unfolding kinds_from
from-set classes arities class arity i zero at e h l =
    let p : i ≡ at = omega arith in
    rw (p, get_or-set_same classes at class 0 h, get_or-set_same arities at arity 0 l)
from-set classes arities class arity i (suc n) at e h l =
    let other : i ≡ at → ⊥ = λ q. omega arith in
    ap₂ ◌∷◌
    (ap₂ (λ (c a : ℕ). record { card = eqb c 0; arity = a }) (get_or-set_other classes at i class 0 other) (get_or-set_other arities at i arity 0 other))
    (from-set classes arities class arity (suc i) n at (omega arith) h l)

pub with-listed : (kinds : Kinds) (class arity : ℕ) → kinds.count < most_kinds → length kinds.class ≡ most_kinds → length kinds.arity ≡ most_kinds
    → kinds_of (with_kind kinds class arity) ≡ kinds_of kinds ++ (record { card = eqb class 0; arity = arity } ∷ [])
unfolding kinds_of
with-listed kinds class arity h p q =
    rw (lt-leb most_kinds kinds.count h, le-leb (kinds.count + 1) most_kinds (omega arith), le-leb kinds.count most_kinds (omega arith))
    (ap (kinds_from (set kinds.class kinds.count class) (set kinds.arity kinds.count arity) 0) (omega arith)
    ∙ from-set kinds.class kinds.arity class arity 0 kinds.count kinds.count (zero-add kinds.count) (omega arith) (omega arith))
