-- The kinds that the leading words of an accepted strip declare are the strip's kinds.
use Rattle.std.specs.Prelude.{ℕ, zero, suc, ◌*◌, ◌/◌, ◌%◌, ◌<◌, ◌≡◌, refl, Bool, true, false, not, ◌&&◌, ◌||◌, List, [], ◌∷◌, ◌++◌, length, eqb, leb, ltb, if◌then◌else◌}
use Rattle.std.proofs.Common.{sym, ap, ◌∙◌, append_assoc, append-nil, arith, length-set, ltb-true}
use Rattle.std.proofs.lemmas.Bool.{lt-leb}
use Rattle.meaning.specs.Facts.{Kind, most_kinds, most_numbers, longest_strip}
use Rattle.meaning.specs.Words.{Word, strip_kinds}
use Rattle.files.specs.InPlace.{byte_at}
use Rattle.files.specs.Numbers.{STRIP}
use Rattle.files.specs.Judge.{Verdict, accepted, refused}
use Rattle.files.specs.Strip.{Fields, word_bytes, fields_at, word_of, Earlier, is_zero, word_is_good, may_be_last, earlier_than_next, word_then, judge_words, judge_strip}
use Rattle.kinds.specs.Listed.{kinds_of, kinds_from, no_kinds, with_kind}
use Rattle.kinds.specs.KindLaws.{with-listed}
use Rattle.kinds.specs.declared.Kinds.{Kinds}
use Rattle.strip.specs.Leading.{leading_from, leading_kinds}

-- ---- what an accepted word tells

record Good (test : Bool) (word : Word) (more : Verdict (List Word)) (words : List Word) : Type 0 where
  passed : test ≡ true
  rest : List Word
  accepted_rest : more ≡ accepted rest
  is : words ≡ word ∷ rest

good : (test : Bool) (i : ℕ) (word : Word) (more : Verdict (List Word)) (words : List Word) → word_then test i word more ≡ accepted words → Good test word more words
good false i word more words e = let z : ◌≡◌ {A = ℕ} 0 1 = cc in let bad : ⊥ = omega arith in absurd bad
good true i word (accepted rest) words e = record { passed = refl; rest = rest; accepted_rest = refl; is = cc }
good true i word (refused why place) words e = let z : ◌≡◌ {A = ℕ} 0 1 = cc in let bad : ⊥ = omega arith in absurd bad

and-true : (a b : Bool) → (a && b) ≡ true → (a ≡ true) × (b ≡ true)
and-true true true e = (refl, refl)
and-true true false e = let z : ◌≡◌ {A = ℕ} 0 1 = cc in let bad : ⊥ = omega arith in absurd bad
and-true false b e = let z : ◌≡◌ {A = ℕ} 0 1 = cc in let bad : ⊥ = omega arith in absurd bad

-- a good KIND is one of at most 32
room_for_kind : (size left : ℕ) (before : Earlier) (f : Fields) → eqb f.code 0 ≡ true → (word_is_good size before f && may_be_last left f) ≡ true → before.kinds < most_kinds
room_for_kind size left before f z e =
    let fields = leb f.a 1 && leb f.b most_numbers && is_zero f.c && is_zero f.value && is_zero f.target in
    let few = ltb before.kinds most_kinds in
    let word : (fields && few && not before.others) ≡ true = rw z at (and-true (word_is_good size before f) (may_be_last left f) e).0 in
    ltb-true before.kinds most_kinds (and-true fields few (and-true (fields && few) (not before.others) word).0).1

-- ---- `strip_kinds` of a KIND, and of a word that is none

one_kind : (f : Fields) (words : List Word) → eqb f.code 0 ≡ true → strip_kinds (word_of f ∷ words) ≡ record { card = eqb f.a 0; arity = f.b } ∷ strip_kinds words
one_kind f words z = rw z

either : (test : Bool) (u v : Word) (words : List Word) → strip_kinds (u ∷ words) ≡ [] → strip_kinds (v ∷ words) ≡ [] → strip_kinds ((if test then u else v) ∷ words) ≡ []
either true u v words p q = p
either false u v words p q = q

no_kind_lem : (f : Fields) (words : List Word) → eqb f.code 0 ≡ false → strip_kinds (word_of f ∷ words) ≡ []
no_kind_lem f words z =
    rw z
    (either (eqb f.code 1) _ _ words refl
    (either (eqb f.code 2) _ _ words refl
    (either (eqb f.code 3) _ _ words refl
    (either (eqb f.code 4) _ _ words refl
    (either (eqb f.code 5) _ _ words refl
    (either (eqb f.code 6) _ _ words refl
    (either (eqb f.code 7) _ _ words refl
    (either (eqb f.code 8) _ _ words refl
    (either (eqb f.code 9) _ _ words refl
    (either (eqb f.code 10) _ _ words refl
    (either (eqb f.code 11) _ _ words refl refl)))))))))))

-- ---- word after word

module _ (file : List ℕ) (size left i : ℕ) where
  -- the words from number i on are accepted: their kinds come after those found
  abbrev Listed : Type 0
  Listed =
      (before : Earlier) (found : Kinds) (words : List Word)
      → before.kinds ≡ found.count → length found.class ≡ most_kinds → length found.arity ≡ most_kinds
      → judge_words file size left i before ≡ accepted words → kinds_of (leading_from file left i found) ≡ kinds_of found ++ strip_kinds words

listed_next : (file : List ℕ) (size left i : ℕ) → Listed file size left (suc i) → Listed file size (suc left) i
unfolding judge_words leading_from
listed_next file size left i next before found words k p q e = by (eqb (byte_at file (word_bytes * i)) 0) refl
  where
    f : Fields
    f = fields_at file (word_bytes * i)

    g : Good (word_is_good size before f && may_be_last (suc left) f) (word_of f) (judge_words file size left (suc i) (earlier_than_next before f)) words
    g = good (word_is_good size before f && may_be_last (suc left) f) i (word_of f) (judge_words file size left (suc i) (earlier_than_next before f)) words e

    by : (t : Bool) → eqb (byte_at file (word_bytes * i)) 0 ≡ t → kinds_of (leading_from file (suc left) i found) ≡ kinds_of found ++ strip_kinds words
    by true z =
        let few : found.count < most_kinds = omega (arith, room_for_kind size (suc left) before f z g.passed) in
        let full = lt-leb most_kinds found.count few in
        let with_it = with_kind found f.a f.b in
        let k' : (earlier_than_next before f).kinds ≡ with_it.count = rw (z, full) (omega arith) in
        let p' : length with_it.class ≡ most_kinds = rw full (length-set found.class found.count f.a ∙ p) in
        let q' : length with_it.arity ≡ most_kinds = rw full (length-set found.arity found.count f.b ∙ q) in
        rw (z, g.is, one_kind f g.rest z)
        (next (earlier_than_next before f) with_it g.rest k' p' q' g.accepted_rest
        ∙ ap (λ (l : List Kind). l ++ strip_kinds g.rest) (with-listed found f.a f.b few p q)
        ∙ append_assoc (kinds_of found) (record { card = eqb f.a 0; arity = f.b } ∷ []) (strip_kinds g.rest))
    by false z = rw (z, g.is, no_kind_lem f g.rest z) (sym (append-nil (kinds_of found)))

listed-from : (file : List ℕ) (size left i : ℕ) → Listed file size left i
unfolding judge_words leading_from
listed-from file size zero i before found words k p q e =
    let none_left : words ≡ [] = cc in
    rw none_left (sym (append-nil (kinds_of found)))
listed-from file size (suc left) i before found words k p q e =
    listed_next file size left i (λ before' found' words' k' p' q' e'. listed-from file size left (suc i) before' found' words' k' p' q' e') before found words k p q e

no_kinds_lem : kinds_of no_kinds ≡ []
unfolding kinds_of kinds_from
no_kinds_lem = refl

pub accepted-kinds : (file : List ℕ) (words : List Word) → judge_strip file ≡ accepted words → kinds_of (leading_kinds file) ≡ strip_kinds words
unfolding judge_strip leading_kinds
accepted-kinds file words e = by (is_zero (length file) || ltb longest_strip (length file) || not (is_zero (length file % word_bytes))) refl
  where
    by : (t : Bool) → (is_zero (length file) || ltb longest_strip (length file) || not (is_zero (length file % word_bytes))) ≡ t → kinds_of (leading_kinds file) ≡ strip_kinds words
    by true z = let same : refused STRIP 0 ≡ accepted words = rw z at e in let no : ◌≡◌ {A = ℕ} 0 1 = cc in let bad : ⊥ = omega arith in absurd bad
    by false z =
        listed-from file (length file / word_bytes) (length file / word_bytes) 0 (record { kinds = 0; others = false }) no_kinds words refl refl refl (rw z at e)
        ∙ ap (λ (l : List Kind). l ++ strip_kinds words) no_kinds_lem
