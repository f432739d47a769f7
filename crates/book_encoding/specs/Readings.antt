-- What is read of a book file so far: the book that it makes if it is closed now, and when it may be closed.
use Rattle.std.specs.Prelude.{◌≤◌, ◌≡◌, refl, ◌⊎◌, Bool, true, false, ◌||◌, List, [], ◌∷◌, ◌++◌, length}
use Rattle.std.proofs.Common.{inl, inr}
use Rattle.meaning.specs.Facts.{Kind, is_card}
use Rattle.meaning.specs.Rules.{Atom, Test, Sweep, Rule, Book}
use Rattle.meaning.specs.WellFormed.{HasCard}
use Rattle.files.specs.Book.{Open, no_rule, in_rule, in_sweep, Reading, groups, rules_closed, has_card}
use Rattle.book_encoding.specs.Lists.{absurd_bool}

abbrev pub reading : List Kind → List Rule → Open → Reading
reading kinds rules now = record { kinds = kinds; rules = rules; now = now }

-- the book of what is read, if it ends here
abbrev pub closed_book : Reading → Book
closed_book r = record { kinds = r.kinds; rules = rules_closed r.rules r.now }

-- the open groups with one member more

abbrev pub more_body : Open → Atom → Sweep
more_body now a = record { body = (groups now).body ++ (a ∷ []); tests = (groups now).tests; heads = (groups now).heads }

abbrev pub more_tests : Open → Test → Sweep
more_tests now t = record { body = (groups now).body; tests = (groups now).tests ++ (t ∷ []); heads = (groups now).heads }

abbrev pub more_heads : Open → Atom → Sweep
more_heads now a = record { body = (groups now).body; tests = (groups now).tests; heads = (groups now).heads ++ (a ∷ []) }

-- the record that closes what is open came after a body that passes
abbrev pub Bodied : List Kind → Open → Type 0
Bodied kinds no_rule = Unit {0}
Bodied kinds (in_rule rule) = HasCard kinds rule.body
Bodied kinds (in_sweep rule sweep) = 1 ≤ length sweep.body

pub has_card_lem : (kinds : List Kind) (body : List Atom) → has_card kinds body ≡ true → HasCard kinds body
has_card_lem kinds [] e = absurd_bool e
has_card_lem kinds (a ∷ body) e = cases (is_card kinds a.kind) refl e (has_card_lem kinds body)
  where
    cases : (card : Bool) → is_card kinds a.kind ≡ card → (card || has_card kinds body) ≡ true → (has_card kinds body ≡ true → HasCard kinds body)
        → (is_card kinds a.kind ≡ true) ⊎ HasCard kinds body
    cases true c e more = inl c
    cases false c e more = inr (more e)

pub card_had : (kinds : List Kind) (body : List Atom) → HasCard kinds body → has_card kinds body ≡ true
card_had kinds [] h = absurd h
card_had kinds (a ∷ body) h = cases h (card_had kinds body)
  where
    either : (card : Bool) → (card || true) ≡ true
    either true = refl
    either false = refl

    cases : (is_card kinds a.kind ≡ true) ⊎ HasCard kinds body → (HasCard kinds body → has_card kinds body ≡ true) → (is_card kinds a.kind || has_card kinds body) ≡ true
    cases (inl card) more = rw card
    cases (inr later) more = rw (more later) (either (is_card kinds a.kind))
