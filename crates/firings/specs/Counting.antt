-- Multi-sets, by counting, "with equal cards counted apart"; and the rows that marks leave and take. By induction on the rows, each step one `omega`
-- over the counts of one fact.
use Rattle.std.specs.Prelude.{◌≡◌, refl, ℕ, zero, suc, ◌+◌, ◌<◌, true, false, List, [], ◌∷◌, ◌++◌, eqb, if◌then◌else◌}
use Rattle.std.proofs.Common.{ap, ap₂, add-zero, add-suc, suc-add, arith, eqb-true, eq-eqb, ne_eqb}
use Rattle.std.proofs.lemmas.Bool.{false≢true}
use Rattle.std.proofs.Math.Option.{some, some-injective, none-ne-some}
use Rattle.std.proofs.Math.ListN.{get_elem?}
use Rattle.meaning.specs.Facts.{Fact}
use Rattle.meaning.specs.Fit.{Marks, no_marks, mark}
use Rattle.meaning.specs.Firing.{unused_rows}
use Rattle.meaning.specs.Meld.{same_numbers, same_fact, count, Sum}
use Rattle.firings.specs.Basics.{cases, both, equal_facts}

-- ---- `same_fact` is equality

same_numbers_equal : (ns ms : List ℕ) → same_numbers ns ms ≡ true → ns ≡ ms
same_numbers_equal [] [] h = refl
same_numbers_equal [] (m ∷ ms) h = absurd (false≢true h)
same_numbers_equal (n ∷ ns) [] h = absurd (false≢true h)
same_numbers_equal (n ∷ ns) (m ∷ ms) h =
    let w = both (eqb n m) (same_numbers ns ms) h in
    ap₂ (λ (x : ℕ) (l : List ℕ). x ∷ l) (eqb-true n m w.0) (same_numbers_equal ns ms w.1)

same_numbers_self : (ns : List ℕ) → same_numbers ns ns ≡ true
same_numbers_self [] = refl
same_numbers_self (n ∷ ns) = rw (eq-eqb n n refl) (same_numbers_self ns)

pub same_equal : (f g : Fact) → same_fact f g ≡ true → f ≡ g
same_equal f g h =
    let w = both (eqb f.kind g.kind) (same_numbers f.numbers g.numbers) h in
    equal_facts f g (eqb-true f.kind g.kind w.0) (same_numbers_equal f.numbers g.numbers w.1)

same_self : (f : Fact) → same_fact f f ≡ true
same_self f = rw (eq-eqb f.kind f.kind refl) (same_numbers_self f.numbers)

pub count_self : (f : Fact) → count f (f ∷ []) ≡ 1
count_self f = rw (same_self f) (omega arith)

-- ---- sums

pub count_append : (f : Fact) (xs ys : List Fact) → count f (xs ++ ys) ≡ count f xs + count f ys
count_append f [] ys = omega arith
count_append f (x ∷ xs) ys = omega (arith, count_append f xs ys)

pub sum_append : (xs ys : List Fact) → Sum (xs ++ ys) xs ys
sum_append xs ys = record { counts = λ f. count_append f xs ys }

pub sum_cons : (x : Fact) (xs : List Fact) → Sum (x ∷ xs) (x ∷ []) xs
sum_cons x xs = record { counts = λ f. omega arith }

pub sum_nothing : (xs : List Fact) → Sum xs [] xs
sum_nothing xs = record { counts = λ f. omega arith }

-- first x, then y: then both
pub sum_then : {a b c x y xy : List Fact} → Sum a x b → Sum b y c → Sum xy x y → Sum a xy c
sum_then p q r = record { counts = λ f. omega (arith, p.counts f, q.counts f, r.counts f) }

-- ---- rows that marks leave and take

-- the rows that are used, in order; the first of the list has number n
unfoldable pub used_rows : ℕ → Marks → List Fact → List Fact
used_rows n used [] = []
used_rows n used (f ∷ more) = if used n then f ∷ used_rows (suc n) used more else used_rows (suc n) used more

pub unused_and_used : (n : ℕ) (used : Marks) (facts : List Fact) → Sum facts (unused_rows n used facts) (used_rows n used facts)
unfolding unused_rows used_rows
unused_and_used n used [] = sum_nothing []
unused_and_used n used (f ∷ facts) =
    let r = unused_and_used (suc n) used facts in
    cases (used n)
    (λ y. rw y (record { counts = λ g. omega (arith, r.counts g) }))
    (λ y. rw y (record { counts = λ g. omega (arith, r.counts g) }))

pub unused_all : (n : ℕ) (facts : List Fact) → unused_rows n no_marks facts ≡ facts
unfolding unused_rows
unused_all n [] = refl
unused_all n (f ∷ facts) = ap (λ (l : List Fact). f ∷ l) (unused_all (suc n) facts)

-- a mark below does not matter
mark_below : (n i : ℕ) (used : Marks) (facts : List Fact) → i < n → unused_rows n (mark i used) facts ≡ unused_rows n used facts
unfolding unused_rows
mark_below n i used [] h = refl
mark_below n i used (f ∷ facts) h =
    let q : eqb n i ≡ false = ne_eqb n i (omega arith) in
    let r = mark_below (suc n) i used facts (omega arith) in
    cases (used n) (λ y. rw (y, r)) (λ y. rw (y, q, r))

-- one more mark takes that row
pub mark-takes : (n i : ℕ) (used : Marks) (facts : List Fact) (f : Fact) → get_elem? facts i ≡ some f → used (n + i) ≡ false
    → Sum (unused_rows n used facts) (f ∷ []) (unused_rows n (mark (n + i) used) facts)
unfolding unused_rows
mark-takes n i used [] f e h = absurd (none-ne-some f e)
mark-takes n zero used (x ∷ facts) f e h =
    let p : used n ≡ false = rw add-zero at h in
    let below = mark_below (suc n) n used facts (omega arith) in
    rw (add-zero n, p, eq-eqb n n refl, below, ← (some-injective x f e)) (sum_cons x (unused_rows (suc n) used facts))
mark-takes n (suc i) used (x ∷ facts) f e h =
    let q : eqb n (n + suc i) ≡ false = ne_eqb n (n + suc i) (omega arith) in
    let r : Sum (unused_rows (suc n) used facts) (f ∷ []) (unused_rows (suc n) (mark (n + suc i) used) facts) =
    rw (add-suc, ← suc-add) (mark-takes (suc n) i used facts f e (rw (suc-add, ← add-suc) h)) in
    cases (used n) (λ y. rw y r) (λ y. rw (y, q) (record { counts = λ g. omega (arith, r.counts g) }))
