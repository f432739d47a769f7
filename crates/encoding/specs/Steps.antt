-- A good strip's kinds are those of its first words, its start is one of its words, and no step falls off its end: from a place within it every
-- word leads to a place within it, or ends the attempt. (The last is proved in proofs/Stays.)
use Rattle.std.specs.Prelude.{ℕ, ◌+◌, ◌≤◌, ◌<◌, ◌≡◌, refl, List, [], ◌∷◌, ◌++◌, map, length}
use Rattle.std.proofs.Common.{arith, sym, ap, ◌∙◌, subst, append-nil, length-append}
use Rattle.std.proofs.lemmas.List.{length-map}
use Rattle.meaning.specs.Basics.{All}
use Rattle.meaning.specs.Facts.{Kind, most_kinds}
use Rattle.meaning.specs.Words.{Word, KIND, OPEN, SEEK, BIND, SAME, LIT, TEST, KEEP, PUT, ARG, JUMP, FIRE, QUIET, Stepped, going, ends, strip_kinds, start}
use Rattle.meaning.specs.WellFormed.{GoodKind, GoodWord, EndsWell, GoodStrip}
use Rattle.meaning.specs.Translation.{kind_word}

-- ---- the kinds

-- the first word that is no KIND ends them
no_kinds_lem : (kinds size : ℕ) (words : List Word) → All (GoodWord kinds size) words → strip_kinds words ≡ []
no_kinds_lem kinds size [] g = refl
no_kinds_lem kinds size (KIND card arity ∷ words) g = absurd g.0
no_kinds_lem kinds size (OPEN c ∷ words) g = refl
no_kinds_lem kinds size (SEEK c k target ∷ words) g = refl
no_kinds_lem kinds size (BIND c i x ∷ words) g = refl
no_kinds_lem kinds size (SAME c i x target ∷ words) g = refl
no_kinds_lem kinds size (LIT c i v target ∷ words) g = refl
no_kinds_lem kinds size (TEST t target ∷ words) g = refl
no_kinds_lem kinds size (KEEP ∷ words) g = refl
no_kinds_lem kinds size (PUT k ∷ words) g = refl
no_kinds_lem kinds size (ARG i t ∷ words) g = refl
no_kinds_lem kinds size (JUMP target ∷ words) g = refl
no_kinds_lem kinds size (FIRE r ∷ words) g = refl
no_kinds_lem kinds size (QUIET ∷ words) g = refl

first-kinds : (kinds : List Kind) (others : List Word) → strip_kinds others ≡ [] → strip_kinds (map kind_word kinds ++ others) ≡ kinds
first-kinds [] others e = e
first-kinds (kind ∷ kinds) others e = ap (λ (l : List Kind). kind ∷ l) (first-kinds kinds others e)

-- A good strip declares the kinds that its first words say.
pub strip_kinds_lem : (words : List Word) (g : GoodStrip words) → strip_kinds words ≡ g.kinds
strip_kinds_lem words g =
    ap strip_kinds g.split ∙ first-kinds g.kinds g.others (no_kinds_lem (length g.kinds) (length words) g.others g.good_others)

-- They are 32 at most, with at most four numbers each.
pub strip_kinds_good : (words : List Word) → GoodStrip words → (length (strip_kinds words) ≤ most_kinds) × All GoodKind (strip_kinds words)
strip_kinds_good words g =
    let e = strip_kinds_lem words g in
    (subst (λ (l : List Kind). length l ≤ most_kinds) (sym e) g.kinds_size, subst (All GoodKind) (sym e) g.good_kinds)

-- ---- the start

no_end : (kinds : List Kind) → EndsWell (map kind_word kinds) → ⊥
no_end [] e = e
no_end (kind ∷ []) e = e
no_end (kind ∷ next ∷ kinds) e = no_end (next ∷ kinds) e

some-other : (kinds : List Kind) (others : List Word) → EndsWell (map kind_word kinds ++ others) → 0 < length others
some-other kinds [] e = absurd (no_end kinds (subst EndsWell (append-nil (map kind_word kinds)) e))
some-other kinds (w ∷ others) e = omega arith

-- An attempt starts at one of the words.
pub strip_starts : (words : List Word) → GoodStrip words → (start words).at < length words
unfolding start
strip_starts words g =
    let all : length words ≡ length (map kind_word g.kinds) + length g.others
    = ap length g.split ∙ length-append (map kind_word g.kinds) g.others in
    omega (
      arith,
      ap length (strip_kinds_lem words g),
      length-map g.kinds kind_word,
      some-other g.kinds g.others (subst EndsWell g.split g.last),
    )

-- ---- one step

-- the place after the step is one of so many, unless it ends
abbrev pub Stays : ℕ → Stepped → Type 0
Stays size (going s) = s.at < size
Stays size (ends a) = Unit {0}
