-- Strip files: a file is accepted exactly if it is the encoding of a good strip; that strip is the only one; and it is what is read in place.
-- (Proved word by word, `StripWords`; here the file's length joins in.)
use Rattle.std.specs.Prelude.{ℕ, ◌*◌, ◌/◌, ◌%◌, ◌≤◌, ◌<◌, ◌≡◌, refl, ◌↔◌, Bool, true, false, not, ◌||◌, List, [], ◌∷◌, ◌++◌, map, length, ltb, if◌then◌else◌}
use Rattle.std.proofs.Common.{zero-add, arith, sym, ap, ◌∙◌, subst, length-append, ltb-false, eqb-true, le-ltb, ne_eqb}
use Rattle.std.proofs.Math.Option.{some}
use Rattle.std.proofs.Math.ListN.{get_elem?}
use Rattle.std.proofs.lemmas.Bool.{eqb-false}
use Rattle.meaning.specs.Basics.{All}
use Rattle.meaning.specs.Facts.{Kind, most_kinds, number_limit, longest_strip}
use Rattle.meaning.specs.Words.{Word}
use Rattle.meaning.specs.WellFormed.{GoodKind, GoodWord, EndsWell, GoodStrip}
use Rattle.meaning.specs.Translation.{kind_word}
use Rattle.files.specs.Numbers.{STRIP}
use Rattle.files.specs.Judge.{accepted, refused}
use Rattle.files.specs.Strip.{fields_at, word_of, words_at, Earlier, is_zero, judge_words, judge_strip}
use Rattle.files.specs.Encode.{concat_map, encode_word, encode_strip}
use Rattle.encoding.specs.Bytes.{Bytes, bytes_joined}
use Rattle.encoding.specs.Judging.{not-accepted}
use Rattle.encoding.specs.Word.{word_length, word_is_bytes, kind_is_bytes}
use Rattle.encoding.specs.StripWords.{word_at, many-at, words_in_place, words_count, Held, Ends, words-held, words-judged}

-- ---- the length, and in place

-- nothing stands before the first word
abbrev nothing : Earlier
nothing = record { kinds = 0; others = false }

-- an accepted file's length, and how its words are judged then
record Measured (file : List ℕ) (words : List Word) : Type 0 where
  not_empty : 0 < length file
  most : length file ≤ longest_strip
  eights : length file % 8 ≡ 0
  judged : judge_words file (length file / 8) (length file / 8) 0 nothing ≡ accepted words

measured : (file : List ℕ) (words : List Word) → judge_strip file ≡ accepted words → Measured file words
unfolding judge_strip
measured file words e = cases (is_zero (length file)) (ltb longest_strip (length file)) (is_zero (length file % 8)) refl refl refl e
  where
    cases : (p q r : Bool) → is_zero (length file) ≡ p → ltb longest_strip (length file) ≡ q → is_zero (length file % 8) ≡ r
        → (if p || q || not r then refused STRIP 0
        else judge_words file (length file / 8) (length file / 8) 0 nothing) ≡ accepted words → Measured file words
    cases true q r a b c e = absurd (not-accepted e)
    cases false true r a b c e = absurd (not-accepted e)
    cases false false false a b c e = absurd (not-accepted e)
    cases false false true a b c e =
        let some_bytes : length file ≡ 0 → ⊥ = eqb-false (length file) 0 a in
        record { not_empty = omega arith; most = ltb-false longest_strip (length file) b; eights = eqb-true (length file % 8) 0 c; judged = e }

-- The words that are read in place of an accepted file are those that it is accepted as.
pub strip_in_place : (file : List ℕ) (words : List Word) → judge_strip file ≡ accepted words → words_at file ≡ words
unfolding words_at
strip_in_place file words e =
    words_in_place file (length file / 8) (length file / 8) 0 nothing words (measured file words e).judged

eight_bytes_each : (file : List ℕ) (words : List Word) → Measured file words → length file ≡ 8 * length words
eight_bytes_each file words m =
    let n = words_count file (length file / 8) (length file / 8) 0 nothing words m.judged in
    omega (arith, m.eights)

-- An accepted file has eight bytes for each word.
pub strip_size : (file : List ℕ) (words : List Word) → judge_strip file ≡ accepted words → length file ≡ 8 * length words
strip_size file words e = eight_bytes_each file words (measured file words e)

-- It has a word at least.
pub strip_not_empty : (file : List ℕ) (words : List Word) → judge_strip file ≡ accepted words → 0 < length words
strip_not_empty file words e =
    let m = measured file words e in
    omega (arith, m.not_empty, eight_bytes_each file words m)

-- Word i is read at byte 8i.
pub strip_word_in_place : (file : List ℕ) (words : List Word) (i : ℕ) → judge_strip file ≡ accepted words → i < length words
    → get_elem? words i ≡ some (word_of (fields_at file (8 * i)))
unfolding words_at
strip_word_in_place file words i e h =
    ap (λ (l : List Word). get_elem? l i) (sym (strip_in_place file words e))
    ∙ many-at (word_at file) (length file / 8) 0 i (omega (arith, eight_bytes_each file words (measured file words e)))
    ∙ ap (λ (q : ℕ). some (word_at file q)) (zero-add (8 * i))

-- ---- accepted

all_end : (words : List Word) → 0 < length words → Ends words → EndsWell words
all_end [] h e = let bad : ⊥ = omega arith in absurd bad
all_end (w ∷ words) h e = e

held-good : (size : ℕ) (words : List Word) → Held size nothing words → size ≡ length words → EndsWell words
    → 8 * size ≤ longest_strip → GoodStrip words
held-good size words h n l m = record {
  kinds = h.kinds;
  others = h.others;
  split = h.split;
  kinds_size = omega (arith, h.room (omega arith));
  good_kinds = h.good_kinds;
  good_others = rw (n, zero-add (length h.kinds)) at h.good_others;
  last = l;
  size = omega arith;
}

-- An accepted file is the encoding of the words that it is accepted as, and they are a good strip.
pub strip_accepted : (file : List ℕ) (words : List Word) → Bytes file → judge_strip file ≡ accepted words
    → GoodStrip words × (file ≡ encode_strip words)
strip_accepted file words b e =
    let m = measured file words e in
    let n = eight_bytes_each file words m in
    let size : length file / 8 ≡ length words = omega arith in
    let (h, d, l) = words-held file (length file / 8) b (length file / 8) 0 nothing words (omega (arith, m.eights)) m.judged in
    (held-good (length file / 8) words h size (all_end words (strip_not_empty file words e) l) (omega (arith, m.most)), d)

-- ---- encoded

-- Each word has eight bytes.
pub strip_length : (words : List Word) → length (encode_strip words) ≡ 8 * length words
unfolding encode_strip concat_map
strip_length [] = refl
strip_length (w ∷ words) = omega (arith, strip_length words, word_length w, length-append (encode_word w) (concat_map encode_word words))

ends_some : (words : List Word) → EndsWell words → (0 < length words) × Ends words
ends_some [] e = absurd e
ends_some (w ∷ words) e = (omega arith, e)

size_judged : (file : List ℕ) (size : ℕ) → length file ≡ 8 * size → 0 < size → 8 * size ≤ longest_strip
    → judge_strip file ≡ judge_words file size size 0 nothing
unfolding judge_strip
size_judged file size n not_empty most =
    let eights : length file % 8 ≡ 0 = omega arith in
    let size' : length file / 8 ≡ size = omega arith in
    rw (ne_eqb (length file) 0 (λ q. omega arith), le-ltb longest_strip (length file) (omega arith), eights, size')

split_encoded : (kinds : List Kind) (others : List Word) → length kinds ≤ most_kinds → All GoodKind kinds
    → All (GoodWord (length kinds) (length (map kind_word kinds ++ others))) others → EndsWell (map kind_word kinds ++ others)
    → 8 * length (map kind_word kinds ++ others) ≤ longest_strip
    → judge_strip (encode_strip (map kind_word kinds ++ others)) ≡ accepted (map kind_word kinds ++ others)
split_encoded kinds others m k g e n =
    let words = map kind_word kinds ++ others in
    let (not_empty, l) = ends_some words e in
    size_judged (encode_strip words) (length words) (strip_length words) not_empty n
    ∙ words-judged (encode_strip words) (length words) kinds others 0 nothing refl (omega arith) k
    (rw (zero-add (length kinds)) g) refl l

-- The encoding of a good strip is accepted, as that strip.
pub strip_encoded : (words : List Word) → GoodStrip words → judge_strip (encode_strip words) ≡ accepted words
strip_encoded words g =
    subst (λ (l : List Word). judge_strip (encode_strip l) ≡ accepted l) (sym g.split)
    (split_encoded g.kinds g.others g.kinds_size g.good_kinds
    (subst (λ (l : List Word). All (GoodWord (length g.kinds) (length l)) g.others) g.split g.good_others)
    (subst EndsWell g.split g.last)
    (subst (λ (l : List Word). 8 * length l ≤ longest_strip) g.split g.size))

-- So a file is accepted as a strip exactly if that strip is good and the file is its encoding.
pub strip_exactly : (file : List ℕ) (words : List Word) → Bytes file
    → (judge_strip file ≡ accepted words) ↔ (GoodStrip words × (file ≡ encode_strip words))
strip_exactly file words b = (λ e. strip_accepted file words b e, λ h. ap judge_strip h.1 ∙ strip_encoded words h.0)

-- An encoding has one good strip.
pub strip_unique : (one other : List Word) → GoodStrip one → GoodStrip other → encode_strip one ≡ encode_strip other → one ≡ other
strip_unique one other g h e =
    let p = strip_encoded one g in
    let q = strip_encoded other h in
    cc

-- ---- bytes

others_bytes : (kinds size : ℕ) (words : List Word) → kinds ≤ most_kinds → size ≤ number_limit → All (GoodWord kinds size) words
    → Bytes (encode_strip words)
unfolding encode_strip concat_map
others_bytes kinds size [] k n g = tt
others_bytes kinds size (w ∷ words) k n g =
    bytes_joined (encode_word w) (concat_map encode_word words) (word_is_bytes kinds size w (omega arith) n g.0) (others_bytes kinds size words k n g.1)

words_bytes : (kinds : List Kind) (others : List Word) → All GoodKind kinds → Bytes (encode_strip others)
    → Bytes (encode_strip (map kind_word kinds ++ others))
unfolding encode_strip concat_map
words_bytes [] others g b = b
words_bytes (kind ∷ kinds) others g b =
    bytes_joined (encode_word (kind_word kind)) (concat_map encode_word (map kind_word kinds ++ others)) (kind_is_bytes kind.card kind.arity g.0)
    (words_bytes kinds others g.1 b)

-- The encoding of a good strip is bytes.
pub strip_bytes : (words : List Word) → GoodStrip words → Bytes (encode_strip words)
strip_bytes words g =
    subst (λ (l : List Word). Bytes (encode_strip l)) (sym g.split)
    (words_bytes g.kinds g.others g.good_kinds
    (others_bytes (length g.kinds) (length words) g.others g.kinds_size (omega (arith, g.size)) g.good_others))
