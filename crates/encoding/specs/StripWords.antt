-- A strip word by word: an accepted list of words is what is read in place, each word is good after those before it and the bytes are theirs; and
-- good words that are there are judged good.
use Prim.Native.Nat.{ℕ, zero, suc, ◌+◌, ◌*◌, ◌≤◌, ◌<◌}
use Rattle.std.proofs.Common.{add-zero, add-suc, ◌∙◌, inl, inr, drop-cons, lt-ltb}
use native.Mathlib.Omega.{arith}
use Rattle.std.specs.Prelude.{◌≡◌, ◌⊎◌, Bool, false, ◌&&◌, length, leb}
use Rattle.std.proofs.Math.Path.{refl, sym, ap, ap₂, subst}
use Rattle.std.proofs.Math.Bool.{true}
use Rattle.std.proofs.lemmas.Bool.{false≢true}
use Rattle.std.proofs.Math.Option.{some}
use mathlib.Core.List.{List, [], ◌∷◌, ◌++◌, map}
use Rattle.std.proofs.Math.ListN.{drop, get_elem?, drop_of_length-le}
use Rattle.std.proofs.Math.Seq.{drop_at}
use Rattle.meaning.specs.Basics.{All}
use Rattle.meaning.specs.Facts.{Kind, most_kinds}
use Rattle.meaning.specs.Words.{Word}
use Rattle.meaning.specs.WellFormed.{GoodKind, GoodWord, EndsWell}
use Rattle.meaning.specs.Translation.{kind_word}
use Rattle.files.specs.Judge.{Verdict, accepted, refused}
use Rattle.files.specs.InPlace.{byte_at, many_at}
use Rattle.files.specs.Strip.{Fields, fields_at, word_of, Earlier, word_is_good, may_be_last, earlier_than_next, word_then, judge_words}
use Rattle.files.specs.Encode.{concat_map, encode_word, encode_strip}
use Rattle.encoding.specs.Bytes.{Bytes, byte_of, low_of, high_of, within_limit}
use Rattle.encoding.specs.Judging.{both, not-accepted}
use Rattle.encoding.specs.Records.{byte_here, byte_further, further}
use Rattle.encoding.specs.Word.{spell, Says, KindHere, WordHere, word_says, fields_of, kind_read, word_read, word_length}

-- ---- in place

-- the word's test held, and the words after it are accepted
record OneMore (t : Bool) (w : Word) (v : Verdict (List Word)) (words : List Word) : Type 0 where
  held : t ≡ true
  more : List Word
  rest : v ≡ accepted more
  are : words ≡ w ∷ more

one_more_lem : (t : Bool) (i : ℕ) (w : Word) (v : Verdict (List Word)) (words : List Word) → word_then t i w v ≡ accepted words → OneMore t w v words
one_more_lem false i w v words e = absurd (not-accepted e)
one_more_lem true i w (refused why place) words e = absurd (not-accepted e)
one_more_lem true i w (accepted more) words e = record { held = refl; more = more; rest = refl; are = cc }

-- the word at place p
abbrev pub word_at : List ℕ → ℕ → Word
word_at file p = word_of (fields_at file p)

many-length : {A : Type 0} (item : ℕ → A) (left p : ℕ) → length (many_at item 8 left p) ≡ left
unfolding many_at
many-length item zero p = refl
many-length item (suc left) p = ap suc (many-length item left (p + 8))

pub many-at : {A : Type 0} (item : ℕ → A) (left p i : ℕ) → i < left → get_elem? (many_at item 8 left p) i ≡ some (item (p + 8 * i))
unfolding many_at
many-at item zero p i h = let bad : ⊥ = omega arith in absurd bad
many-at item (suc left) p zero h = ap (λ (q : ℕ). some (item q)) (omega arith)
many-at item (suc left) p (suc i) h = many-at item left (p + 8) i (omega arith) ∙ ap (λ (q : ℕ). some (item q)) (omega arith)

module _ (file : List ℕ) (size : ℕ) where
  -- one word more
  abbrev fits : ℕ → ℕ → Earlier → Bool
  fits left i before = word_is_good size before (fields_at file (8 * i)) && may_be_last (suc left) (fields_at file (8 * i))

  abbrev next : ℕ → Earlier → Earlier
  next i before = earlier_than_next before (fields_at file (8 * i))

  step-accepted : (left i : ℕ) (before : Earlier) (words : List Word) → judge_words file size (suc left) i before ≡ accepted words
      → OneMore (fits left i before) (word_at file (8 * i)) (judge_words file size left (suc i) (next i before)) words
  unfolding judge_words
  step-accepted left i before words e =
      one_more_lem (fits left i before) i (word_at file (8 * i)) (judge_words file size left (suc i) (next i before)) words e

  pub words_in_place : (left i : ℕ) (before : Earlier) (words : List Word) → judge_words file size left i before ≡ accepted words
      → many_at (word_at file) 8 left (8 * i) ≡ words
  unfolding judge_words many_at
  words_in_place zero i before words e = cc
  words_in_place (suc left) i before words e =
      let o = step-accepted left i before words e in
      let ih = words_in_place left (suc i) (next i before) o.more o.rest in
      let place : 8 * i + 8 ≡ 8 * suc i = omega arith in
      ap (λ (l : List Word). word_at file (8 * i) ∷ l) (ap (many_at (word_at file) 8 left) place ∙ ih) ∙ sym o.are

  pub words_count : (left i : ℕ) (before : Earlier) (words : List Word) → judge_words file size left i before ≡ accepted words → length words ≡ left
  words_count left i before words e = ap length (sym (words_in_place left i before words e)) ∙ many-length (word_at file) left (8 * i)

-- ---- accepted: the words are good, and the bytes are theirs

-- the eight bytes at place p are those of the fields there
word_bytes : (file : List ℕ) (p : ℕ) → Bytes file → p + 8 ≤ length file → drop p file ≡ spell (fields_at file p) ++ drop (p + 8) file
word_bytes file p b h =
    let five : p + 4 + 1 ≡ p + 5 = omega arith in
    let seven : p + 6 + 1 ≡ p + 7 = omega arith in
    let first : drop p file ≡ drop (p + 0) file = ap (λ (q : ℕ). drop q file) (sym (add-zero p)) in
    let code : byte_at file p ≡ byte_at file (p + 0) = ap (byte_at file) (sym (add-zero p)) in
    cc (
      one 0 (omega arith),
      one 1 (omega arith),
      one 2 (omega arith),
      one 3 (omega arith),
      one 4 (omega arith),
      one 5 (omega arith),
      one 6 (omega arith),
      one 7 (omega arith),
      low_of (byte_at file (p + 4)) (byte_at file (p + 4 + 1)) (byte_of file b (p + 4)),
      high_of (byte_at file (p + 4)) (byte_at file (p + 4 + 1)) (byte_of file b (p + 4)),
      low_of (byte_at file (p + 6)) (byte_at file (p + 6 + 1)) (byte_of file b (p + 6)),
      high_of (byte_at file (p + 6)) (byte_at file (p + 6 + 1)) (byte_of file b (p + 6)),
    )
  where
    one : (k : ℕ) → p + k < length file → drop (p + k) file ≡ byte_at file (p + k) ∷ drop (p + suc k) file
    one k l = drop-cons file (p + k) 0 l ∙ ap (λ (q : ℕ). byte_at file (p + k) ∷ drop q file) (sym (add-suc p k))

-- what words are good after those before
pub record Held (size : ℕ) (before : Earlier) (words : List Word) : Type 0 where
  pub kinds : List Kind
  pub others : List Word
  pub split : words ≡ map kind_word kinds ++ others
  pub late : before.others ≡ true → kinds ≡ []
  pub room : before.kinds ≤ most_kinds → before.kinds + length kinds ≤ most_kinds
  pub good_kinds : All GoodKind kinds
  pub good_others : All (GoodWord (before.kinds + length kinds) size) others

module _ (size : ℕ) (before : Earlier) (w : Word) (words : List Word) where
  kind-held : (code : ℕ) → KindHere before code w → Held size (record { kinds = suc before.kinds; others = before.others }) words
      → Held size before (w ∷ words)
  kind-held code k h =
      let sum : suc before.kinds + length h.kinds ≡ before.kinds + suc (length h.kinds) = omega arith in
      record {
        kinds = k.kind ∷ h.kinds;
        others = h.others;
        split = ap₂ ◌∷◌ k.is h.split;
        late = λ q. absurd (false≢true (sym k.first ∙ q));
        room = λ r. omega (arith, h.room k.room);
        good_kinds = (k.good, h.good_kinds);
        good_others = rw sum at h.good_others;
      }

  word_held : (code : ℕ) → WordHere size before code w → Held size (record { kinds = before.kinds; others = true }) words
      → Held size before (w ∷ words)
  word_held code k h =
      let no_kinds_lem : h.kinds ≡ [] = h.late refl in
      record {
        kinds = [];
        others = w ∷ h.others;
        split = ap (λ (l : List Word). w ∷ l) (h.split ∙ rw no_kinds_lem);
        late = λ q. refl;
        room = λ r. omega arith;
        good_kinds = tt;
        good_others = (rw (add-zero before.kinds) k.good, rw no_kinds_lem at h.good_others);
      }

  here_held : (f : Fields) → Says size before f w → Held size (earlier_than_next before f) words → Held size before (w ∷ words)
  here_held f s h = cases s.here
    where
      cases : KindHere before f.code w ⊎ WordHere size before f.code w → Held size before (w ∷ words)
      cases (inl k) = kind-held f.code k (rw k.code_is at h)
      cases (inr k) = word_held f.code k (rw k.code_is at h)

-- the last of these words may be the last
abbrev pub Ends : List Word → Type 0
Ends [] = Unit {0}
Ends (w ∷ words) = EndsWell (w ∷ words)

ends_more : (f : Fields) (w : Word) (words : List Word) (left : ℕ) → length words ≡ left → may_be_last (suc left) f ≡ true
    → (leb 10 f.code ≡ true → EndsWell (w ∷ [])) → Ends words → EndsWell (w ∷ words)
ends_more f w [] zero l m e h = e m
ends_more f w [] (suc left) l m e h = let bad : ⊥ = omega arith in absurd bad
ends_more f w (w' ∷ more) left l m e h = h

module _ (file : List ℕ) (size : ℕ) (b : Bytes file) where
  says : (i : ℕ) (before : Earlier) → word_is_good size before (fields_at file (8 * i)) ≡ true
      → Says size before (fields_at file (8 * i)) (word_at file (8 * i))
  says i before e =
      word_says size before (fields_at file (8 * i)) (byte_of file b (8 * i + 2))
      (within_limit (byte_at file (8 * i + 2)) (byte_at file (8 * i + 3)) (byte_of file b (8 * i + 2)) (byte_of file b (8 * i + 3)))
      (within_limit (byte_at file (8 * i + 4)) (byte_at file (8 * i + 4 + 1)) (byte_of file b (8 * i + 4)) (byte_of file b (8 * i + 4 + 1))) e

  pub words-held : (left i : ℕ) (before : Earlier) (words : List Word) → 8 * (i + left) ≡ length file → judge_words file size left i before ≡ accepted words
      → Held size before words × (drop (8 * i) file ≡ encode_strip words) × Ends words
  unfolding judge_words encode_strip concat_map
  words-held zero i before words n e =
      let nil : words ≡ [] = cc in
      let empty : Held size before [] = record {
        kinds = [];
        others = [];
        split = refl;
        late = λ q. refl;
        room = λ r. omega arith;
        good_kinds = tt;
        good_others = tt;
      } in
      rw nil (empty, drop_of_length-le file {i = 8 * i} (omega arith), tt)
  words-held (suc left) i before words n e =
      let o = step-accepted file size left i before words e in
      let f = fields_at file (8 * i) in
      let (t, m) = both (word_is_good size before f) (may_be_last (suc left) f) o.held in
      let s = says i before t in
      let (h, d, l) = words-held left (suc i) (next file size i before) o.more (omega arith) o.rest in
      let place : 8 * i + 8 ≡ 8 * suc i = omega arith in
      let many = words_count file size left (suc i) (next file size i before) o.more o.rest in
      rw o.are (
        here_held size before (word_of f) o.more f s h,
        word_bytes file (8 * i) b (omega arith) ∙ ap₂ ◌++◌ (sym s.bytes) (ap (λ (q : ℕ). drop q file) place ∙ d),
        ends_more f (word_of f) o.more left many m s.ends l,
      )

-- ---- encoded: the words are judged good

ends_tail : (w : Word) (words : List Word) → EndsWell (w ∷ words) → Ends words
ends_tail w [] e = tt
ends_tail w (w' ∷ words) e = e

may_be_last_lem : (f : Fields) (w : Word) (words : List Word) → EndsWell (w ∷ words) → (EndsWell (w ∷ []) → leb 10 f.code ≡ true)
    → may_be_last (suc (length words)) f ≡ true
may_be_last_lem f w [] e h = h e
may_be_last_lem f w (w' ∷ words) e h = rw (lt-ltb 1 (suc (suc (length words))) (omega arith))

module _ (file : List ℕ) (size : ℕ) where
  fields_there : (p : ℕ) (w : Word) (rest : List ℕ) → drop p file ≡ encode_word w ++ rest → fields_at file p ≡ fields_of w rest
  fields_there p w rest e =
      let at : (k : ℕ) → byte_at file (p + k) ≡ byte_at (encode_word w ++ rest) k = byte_further file p (encode_word w ++ rest) e in
      let five : p + 4 + 1 ≡ p + 5 = omega arith in
      let seven : p + 6 + 1 ≡ p + 7 = omega arith in
      rw (five, seven, byte_here file p (encode_word w ++ rest) e, at 1, at 2, at 3, at 4, at 5, at 6, at 7)

  -- a word that is there and is good is judged, then the words after it
  step-judged : (i : ℕ) (before later : Earlier) (w : Word) (words : List Word) → drop (8 * i) file ≡ encode_strip (w ∷ words) → EndsWell (w ∷ words)
      → word_of (fields_of w (encode_strip words)) ≡ w → word_is_good size before (fields_of w (encode_strip words)) ≡ true
      → earlier_than_next before (fields_of w (encode_strip words)) ≡ later → (EndsWell (w ∷ []) → leb 10 (fields_of w (encode_strip words)).code ≡ true)
      → (drop (8 * suc i) file ≡ encode_strip words → judge_words file size (length words) (suc i) later ≡ accepted words)
      → judge_words file size (suc (length words)) i before ≡ accepted (w ∷ words)
  unfolding judge_words encode_strip concat_map
  step-judged i before later w words e l word good after last more =
      let f = fields_of w (encode_strip words) in
      let place : 8 * suc i ≡ 8 * i + 8 = omega arith in
      let rest : drop (8 * suc i) file ≡ encode_strip words
      = ap (λ (q : ℕ). drop q file) place ∙ further file (8 * i) (encode_word w ++ encode_strip words) e 8
      ∙ drop_at (encode_word w) (encode_strip words) 8 (word_length w) in
      subst
      (λ (f : Fields).
      word_then (word_is_good size before f && may_be_last (suc (length words)) f) i (word_of f) (judge_words file size (length words) (suc i) (earlier_than_next before f))
      ≡ accepted (w ∷ words))
      (sym (fields_there (8 * i) w (encode_strip words) e))
      (rw (good, may_be_last_lem f w words l last, word, after, more rest))

  others-judged : (words : List Word) (i : ℕ) (before : Earlier) → All (GoodWord before.kinds size) words → drop (8 * i) file ≡ encode_strip words
      → Ends words → judge_words file size (length words) i before ≡ accepted words
  unfolding judge_words
  others-judged [] i before g e l = refl
  others-judged (w ∷ words) i before g e l =
      let r = word_read size before (encode_strip words) w g.0 in
      let later : Earlier = record { kinds = before.kinds; others = true } in
      step-judged i before later w words e l r.word r.good (rw r.code_is) r.ends
      (λ d. others-judged words (suc i) later g.1 d (ends_tail w words l))

  pub words-judged : (kinds : List Kind) (others : List Word) (i : ℕ) (before : Earlier) → before.others ≡ false
      → before.kinds + length kinds ≤ most_kinds → All GoodKind kinds → All (GoodWord (before.kinds + length kinds) size) others
      → drop (8 * i) file ≡ encode_strip (map kind_word kinds ++ others) → Ends (map kind_word kinds ++ others)
      → judge_words file size (length (map kind_word kinds ++ others)) i before ≡ accepted (map kind_word kinds ++ others)
  words-judged [] others i before first m g k e l = others-judged others i before (rw (add-zero before.kinds) at k) e l
  words-judged (kind ∷ kinds) others i before first m g k e l =
      let words = map kind_word kinds ++ others in
      let (word, good) = kind_read size before (encode_strip words) kind g.0 (omega arith) first in
      let later : Earlier = record { kinds = suc before.kinds; others = before.others } in
      let sum : before.kinds + suc (length kinds) ≡ suc before.kinds + length kinds = omega arith in
      step-judged i before later (kind_word kind) words e l word good refl (λ q. absurd q)
      (λ d. words-judged kinds others (suc i) later first (omega arith) g.1 (rw sum at k) d (ends_tail (kind_word kind) words l))
