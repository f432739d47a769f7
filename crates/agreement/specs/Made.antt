-- Made facts: how many there are of a class, and that a made list without room leaves none on the board either, so that PUT's FULL is the
-- book's.
use Rattle.std.specs.Prelude.{◌≡◌, refl, ℕ, ◌+◌, ◌≤◌, Bool, true, false, not, ◌&&◌, List, [], ◌∷◌, ◌++◌, length, leb, if◌then◌else◌}
use Rattle.std.proofs.Common.{arith, true≢false, length-append, leb-false}
use Rattle.std.proofs.Math.Bool.{and-false}
use Rattle.std.proofs.lemmas.Bool.{lt-leb}
use Rattle.meaning.specs.Facts.{Kind, Fact, Board, most_cards, most_notices, is_card}
use Rattle.meaning.specs.Firing.{Work, unused_rows, of_class, board_after, has_room, settle, full}
use Rattle.meaning.specs.Words.{made_has_room}
use Rattle.agreement.specs.Tools.{cases}

-- is the fact of the class
abbrev pub is_of : List Kind → Bool → Fact → Bool
is_of kinds true f = is_card kinds f.kind
is_of kinds false f = not (is_card kinds f.kind)

pub of_class_cons : (kinds : List Kind) (class : Bool) (f : Fact) (more : List Fact)
    → of_class kinds class (f ∷ more) ≡ (if is_of kinds class f then f ∷ of_class kinds class more else of_class kinds class more)
unfolding of_class
of_class_cons kinds true f more = refl
of_class_cons kinds false f more = cases (is_card kinds f.kind) (λ y. rw y) (λ y. rw y)

of_class_nil : (kinds : List Kind) (class : Bool) → of_class kinds class [] ≡ []
unfolding of_class
of_class_nil kinds true = refl
of_class_nil kinds false = refl

-- how many made facts there are of the class
abbrev many : List Kind → Bool → List Fact → ℕ
many kinds class made = length (of_class kinds class made)

many_append : (kinds : List Kind) (class : Bool) (xs ys : List Fact) → many kinds class (xs ++ ys) ≡ many kinds class xs + many kinds class ys
many_append kinds class [] ys = rw of_class_nil (omega arith)
many_append kinds class (f ∷ xs) ys =
    let rest = many_append kinds class xs ys in
    simp of_class_cons (cases (is_of kinds class f) (λ y. rw y (omega arith)) (λ y. rw y rest))

-- it depends on their kinds only
many-kind : (kinds : List Kind) (class : Bool) (made : List Fact) (f f' : Fact) → is_of kinds class f ≡ is_of kinds class f'
    → many kinds class (made ++ (f ∷ [])) ≡ many kinds class (made ++ (f' ∷ []))
many-kind kinds class made f f' e = simp (many_append, of_class_cons, e, of_class_nil) (cases (is_of kinds class f') (λ y. rw y) (λ y. rw y))

pub room-kind : (kinds : List Kind) (made : List Fact) (f f' : Fact) → f.kind ≡ f'.kind
    → made_has_room kinds (made ++ (f ∷ [])) ≡ made_has_room kinds (made ++ (f' ∷ []))
room-kind kinds made f f' e = rw (many-kind kinds true made f f' (rw e), many-kind kinds false made f f' (rw e))

-- more cards or notices than there is room for stay too many when others join them
too_many_lem : (cards cards' notices notices' : ℕ) → cards ≤ cards' → notices ≤ notices'
    → (leb cards most_cards && leb notices most_notices) ≡ false → (leb cards' most_cards && leb notices' most_notices) ≡ false
too_many_lem cards cards' notices notices' p q h =
    cases (leb cards most_cards)
    (λ y. cases (leb notices most_notices)
    (λ z. absurd (true≢false (rw (y, z) at h)))
    (λ z. let over = leb-false notices most_notices z in rw (lt-leb notices' most_notices (omega arith)) (and-false (leb cards' most_cards))))
    (λ y. let over = leb-false cards most_cards y in rw (lt-leb cards' most_cards (omega arith)))

pub room_less : (kinds : List Kind) (xs ys : List Fact) → made_has_room kinds xs ≡ false → made_has_room kinds (xs ++ ys) ≡ false
room_less kinds xs ys h =
    too_many_lem (many kinds true xs) (many kinds true (xs ++ ys)) (many kinds false xs) (many kinds false (xs ++ ys))
    (omega (arith, many_append kinds true xs ys)) (omega (arith, many_append kinds false xs ys)) h

-- "If that exceeds 256 cards or 128 notices, the run ends with FULL."
pub overfull_settles : (kinds : List Kind) (board : Board) (number : ℕ) (work : Work) → made_has_room kinds work.made ≡ false
    → settle kinds board number work ≡ full
overfull_settles kinds board number work h =
    let after : Board = board_after kinds board work in
    let none : has_room after ≡ false = too_many_lem (many kinds true work.made) (length after.cards) (many kinds false work.made)
    (length after.notices)
    (omega (arith, length-append (unused_rows 0 work.used board.cards) (of_class kinds true work.made)))
    (omega (arith, length-append board.notices (of_class kinds false work.made))) h in
    rw none
