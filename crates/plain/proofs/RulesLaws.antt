-- The walk over a book's rules. The loop's invariant, `Placing`: the places found so far, and those from here on, are all the rules' places.
use Rattle.std.specs.Prelude.{if◌then◌else◌}
use Prim.Native.Nat.{ℕ, zero, suc, ◌+◌, ◌*◌, ◌-◌, ◌≤◌, ◌<◌}
use native.Mathlib.Nat.{zero-add}
use native.Mathlib.Omega.{arith}
use mathlib.Core.Path.{◌≡◌, refl, sym, ap, ap₂, ◌∙◌}
use mathlib.Core.Bool.{Bool, true, false, not}
use mathlib.Core.List.{List, [], ◌∷◌, ◌++◌, append_assoc, append-nil}
use lib.ListN.{length, set, replicate, length-set}
use lib.Seq.{get_or-set_same, get_or-set_other}
use borrow.Author.Tests.{le-leb, not-true, not-false}
use Rattle.meaning.specs.Facts.{Kind, most_kinds, most_rules, longest_book}
use Rattle.files.specs.Marks.{KD, RU, is_mark}
use Rattle.files.specs.InPlace.{byte_at, prepend, records_at, kind_at, rule_at, kinds_at}
use Rattle.kinds.specs.declared.Kinds.{Kinds}
use Rattle.kinds.specs.Listed.{kinds_of}
use Rattle.kinds.specs.KindLaws.{kinds-length}
use Rattle.places.specs.Stands.{mark_stands, rule_end}
use Rattle.places.specs.StandsLaws.{stands_near, stands_is, rule_end_at}
use Rattle.plain.specs.Stands.{places_from}
use Rattle.plain.specs.Playing.{rule_places, places_of}

-- ---- the rules come after the kinds, four bytes each

kinds-past : (file : List ℕ) (left p : ℕ) → (records_at file KD (kind_at file) left p).next ≡ p + 4 * length (records_at file KD (kind_at file) left p).value
unfolding records_at
kinds-past file zero p = omega arith
kinds-past file (suc left) p = by (is_mark KD (byte_at file p) (byte_at file (p + 1))) (kinds-past file left (kind_at file (p + 2)).next)
  where
    by : (t : Bool) → (records_at file KD (kind_at file) left (kind_at file (p + 2)).next).next
        ≡ (kind_at file (p + 2)).next + 4 * length (records_at file KD (kind_at file) left (kind_at file (p + 2)).next).value
        → (if t then prepend (kind_at file (p + 2)).value (records_at file KD (kind_at file) left (kind_at file (p + 2)).next) else record { value = []; next = p }).next
        ≡ p + 4 * length (if t then prepend (kind_at file (p + 2)).value (records_at file KD (kind_at file) left (kind_at file (p + 2)).next) else record { value = []; next = p }).value
    by true e = omega (arith, e)
    by false e = omega arith

after-kinds : (file : List ℕ) (kinds : Kinds) → kinds_of kinds ≡ (kinds_at file).value → kinds.count ≤ most_kinds → 4 * kinds.count ≡ (kinds_at file).next
unfolding kinds_at
after-kinds file kinds e few =
    let many : length (kinds_of kinds) ≡ kinds.count =
    kinds-length kinds ∙ ap (λ (t : Bool). if t then kinds.count else most_kinds) (le-leb kinds.count most_kinds few) in
    omega (arith, kinds-past file most_kinds 0, ap length e, many)

-- ---- the places

-- a store past the places that are listed changes none of them, and then is the last
places_set : (at : List ℕ) (place i n count : ℕ) → i + n ≡ count → count < length at → places_from (set at count place) i (suc n) ≡ places_from at i n ++ (place ∷ [])
unfolding places_from
places_set at place i zero count e h =
    let p : i ≡ count = omega arith in
    rw (p, get_or-set_same at count place 0 h)
places_set at place i (suc n) count e h =
    let other : i ≡ count → ⊥ = λ q. omega arith in
    ap₂ ◌∷◌ (get_or-set_other at count i place 0 other) (places_set at place (suc i) n count (omega arith) h)

from-none : (file : List ℕ) (kinds : List Kind) (left p : ℕ) → is_mark RU (byte_at file p) (byte_at file (p + 1)) ≡ false → rule_places file kinds left p ≡ []
unfolding rule_places
from-none file kinds zero p e = refl
from-none file kinds (suc left) p e = rw e

from_one : (file : List ℕ) (kinds : List Kind) (left p : ℕ) → is_mark RU (byte_at file p) (byte_at file (p + 1)) ≡ true
    → rule_places file kinds (suc left) p ≡ (p + 2) ∷ rule_places file kinds left (rule_at file kinds (p + 2)).next
unfolding rule_places
from_one file kinds left p e = rw e

pub record Placing (file : List ℕ) (kinds : List Kind) (at : List ℕ) (count next : ℕ) : Type 0 where
  pub few : count ≤ most_rules
  pub size : length at ≡ most_rules
  pub short : length file ≤ longest_book
  pub same : places_from at 0 count ++ rule_places file kinds (most_rules - count) next ≡ places_of file

pub place_start : (file : List ℕ) (kinds : Kinds) → length file ≤ longest_book → kinds_of kinds ≡ (kinds_at file).value → kinds.count ≤ most_kinds
    → Placing file (kinds_of kinds) (replicate 32 0) 0 (4 * kinds.count)
unfolding places_from
place_start file kinds s e few = record {
  few = omega arith;
  size = refl;
  short = s;
  same = ap₂ (λ (k : List Kind) (n : ℕ). rule_places file k most_rules n) e (after-kinds file kinds e few);
}

module _ (file : List ℕ) (kinds : List Kind) (at : List ℕ) (count next : ℕ) (s : Placing file kinds at count next) where
  pub place_whole : most_rules ≤ count → places_from at 0 count ≡ places_of file
  unfolding rule_places
  place_whole h =
      let e : most_rules - count ≡ 0 = omega arith in
      sym (append-nil (places_from at 0 count)) ∙ ap (λ (n : ℕ). places_from at 0 count ++ rule_places file kinds n next) (sym e) ∙ s.same

  module _ (marked : Bool) (m : marked ≡ mark_stands file RU next) where
    here : is_mark RU (byte_at file next) (byte_at file (next + 1)) ≡ marked
    here = sym (m ∙ stands_is file RU next s.short (λ h. omega (arith, h)))

    pub place_end : not marked ≡ true → places_from at 0 count ≡ places_of file
    place_end e =
        sym (append-nil (places_from at 0 count))
        ∙ ap (λ (l : List ℕ). places_from at 0 count ++ l) (sym (from-none file kinds (most_rules - count) next (here ∙ not-true marked e)))
        ∙ s.same

    module _ (e : not marked ≡ false) where
      pub place_near : next < longest_book
      place_near = stands_near file RU next (sym m ∙ not-false marked e)

      pub place_next : count < most_rules → (after : ℕ) → after ≡ rule_end file kinds (next + 2) → Placing file kinds (set at count (next + 2)) (count + 1) after
      place_next h after w = record {
        few = omega arith;
        size = length-set at count (next + 2) ∙ s.size;
        short = s.short;
        same =
            let one : most_rules - count ≡ suc (most_rules - (count + 1)) = omega arith in
            let more : count + 1 ≡ suc count = omega arith in
            ap (λ (n : ℕ). places_from (set at count (next + 2)) 0 n ++ rule_places file kinds (most_rules - (count + 1)) after) more
            ∙ ap (λ (l : List ℕ). l ++ rule_places file kinds (most_rules - (count + 1)) after)
            (places_set at (next + 2) 0 count count (zero-add count) (omega (arith, s.size)))
            ∙ append_assoc (places_from at 0 count) _ _
            ∙ ap (λ (p : ℕ). places_from at 0 count ++ ((next + 2) ∷ rule_places file kinds (most_rules - (count + 1)) p)) (w ∙ rule_end_at file kinds s.short (next + 2))
            ∙ ap (λ (l : List ℕ). places_from at 0 count ++ l) (sym (from_one file kinds (most_rules - (count + 1)) next (here ∙ not-false marked e)))
            ∙ ap (λ (n : ℕ). places_from at 0 count ++ rule_places file kinds n next) (sym one)
            ∙ s.same;
      }
