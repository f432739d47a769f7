-- The loop over words: the judgement of the words that are left is that of the whole file. One law for each end of `check_strip`.
use Prim.Native.Nat.{ℕ, suc, ◌+◌, ◌*◌, ◌-◌, ◌/◌, ◌%◌, ◌≤◌, ◌<◌}
use mathlib.Core.Path.{◌≡◌, refl, sym, ap, ◌∙◌}
use mathlib.Core.Bool.{Bool, true, false, ◌&&◌}
use mathlib.Core.List.{List}
use mathlib.Core.Option.{Option}
use native.Mathlib.Omega.{arith}
use native.Mathlib.Nat.{sub-zero}
use native.Mathlib.Numerals.{add-one}
use lib.ListN.{length}
use lib.Dec.{eqb}
use borrow.Author.Tests.{eq-eqb, ne_eqb, lt-ltb, le-ltb}
use Rattle.std.specs.Prelude.{Ok, Err}
use Rattle.meaning.specs.Facts.{longest_strip}
use Rattle.meaning.specs.Words.{Word}
use Rattle.files.specs.Numbers as N
use Rattle.files.specs.Judge.{Verdict, accepted, refused, told}
use Rattle.files.specs.InPlace.{byte_at}
use Rattle.files.specs.Strip.{Fields, word_bytes, fields_at, word_of, Earlier, word_is_good, may_be_last, earlier_than_next, word_then, judge_words, judge_strip}
use Rattle.answers.specs.Refused.{about, told_by}
use Rattle.answers.specs.declared.Reason.TheVariants as R
use Rattle.answers.specs.declared.File.TheVariants as F

-- `size` words stand in the file, those below number i are good, and to judge the rest is to judge the file
pub record Going (file : List ℕ) (size i : ℕ) (before : Earlier) : Type 0 where
  pub fits : word_bytes * size ≤ length file
  pub short : length file ≤ longest_strip
  pub few : before.kinds ≤ i
  pub same : told (judge_words file size (size - i) i before) ≡ told (judge_strip file)

-- what a refusal of a strip at a word tells
abbrev pub refused_at : ℕ → Option (N.File × N.Refusal × ℕ)
refused_at i = told_by (Err (record { file = F.Strip; reason = R.Strip; place = i }))

-- ---- the file's length

module _ (file : List ℕ) where
  pub empty : length file ≡ 0 → refused_at 0 ≡ about N.strip (told (judge_strip file))
  unfolding judge_strip
  empty e = rw (eq-eqb (length file) 0 e)

  module _ (some' : length file ≡ 0 → ⊥) where
    pub too_long : longest_strip < length file → refused_at 0 ≡ about N.strip (told (judge_strip file))
    unfolding judge_strip
    too_long h = rw (ne_eqb (length file) 0 some', lt-ltb longest_strip (length file) h)

    module _ (short : length file ≤ longest_strip) where
      pub uneven : (length file % word_bytes ≡ 0 → ⊥) → refused_at 0 ≡ about N.strip (told (judge_strip file))
      unfolding judge_strip
      uneven h = rw (ne_eqb (length file) 0 some', le-ltb longest_strip (length file) short, ne_eqb (length file % word_bytes) 0 h)

      pub going_start : length file % word_bytes ≡ 0 → Going file (length file / word_bytes) 0 (record { kinds = 0; others = false })
      unfolding judge_strip
      going_start h = record {
        fits = omega arith;
        short = short;
        few = omega arith;
        same = rw (sub-zero, ne_eqb (length file) 0 some', le-ltb longest_strip (length file) short, eq-eqb (length file % word_bytes) 0 h);
      }

-- ---- a word

told_then : (i : ℕ) (word : Word) (more : Verdict (List Word)) → told (word_then true i word more) ≡ told more
told_then i word (accepted words) = refl
told_then i word (refused why place) = refl

-- no word has a code above 12
no_word : (size : ℕ) (before : Earlier) (f : Fields) → 12 < f.code → word_is_good size before f ≡ false
no_word size before f more =
    rw (no 0 (omega arith), no 1 (omega arith), no 2 (omega arith), no 3 (omega arith), no 4 (omega arith), no 5 (omega arith), no 6 (omega arith), no 7 (omega arith), no 8 (omega arith), no 9 (omega arith), no 10 (omega arith), no 11 (omega arith), no 12 (omega arith))
  where
    no : (k : ℕ) → k < 13 → eqb f.code k ≡ false
    no k h = ne_eqb f.code k (λ e. omega arith)

next_few : (before : Earlier) (f : Fields) (i : ℕ) → before.kinds ≤ i → (earlier_than_next before f).kinds ≤ i + 1
next_few before f i h = by (eqb f.code 0) refl
  where
    by : (t : Bool) → eqb f.code 0 ≡ t → (earlier_than_next before f).kinds ≤ i + 1
    by true e = rw e (omega arith)
    by false e = rw e (omega arith)

module _ (file : List ℕ) (size i : ℕ) (before : Earlier) (t : Going file size i before) where
  pub all-good : size ≤ i → told_by (Ok tt) ≡ about N.strip (told (judge_strip file))
  unfolding judge_words
  all-good h =
      let none_left : size - i ≡ 0 = omega arith in
      ap (about N.strip) (ap (λ (left : ℕ). told (judge_words file size left i before)) (sym none_left) ∙ t.same)

  pub word_within : i < size → word_bytes * i + 8 ≤ length file
  word_within h = omega (arith, t.fits)

  module _ (f : Fields) (p : f ≡ fields_at file (word_bytes * i)) (h : i < size) where
    -- what the word's test leads to
    abbrev then_rest : Bool → Verdict (List Word)
    then_rest b =
        let at = fields_at file (word_bytes * i) in
        word_then b i (word_of at) (judge_words file size (size - suc i) (suc i) (earlier_than_next before at))

    judged : (test : Bool) → (word_is_good size before f && may_be_last (size - i) f) ≡ test → told (then_rest test) ≡ told (judge_strip file)
    unfolding judge_words
    judged test e =
        let left : size - i ≡ suc (size - suc i) = omega arith in
        ap (λ (b : Bool). told (then_rest b)) (sym e)
        ∙ rw (left, p) (ap (λ (k : ℕ). told (judge_words file size k i before)) (sym left) ∙ t.same)

    pub word_refused : word_is_good size before f ≡ false → refused_at i ≡ about N.strip (told (judge_strip file))
    word_refused g = ap (about N.strip) (judged false (rw g))

    pub not-last : word_is_good size before f ≡ true → may_be_last (size - i) f ≡ false → refused_at i ≡ about N.strip (told (judge_strip file))
    not-last g l = ap (about N.strip) (judged false (rw (g, l)))

    pub word_good : word_is_good size before f ≡ true → may_be_last (size - i) f ≡ true → (next : Earlier) → next ≡ earlier_than_next before f → Going file size (i + 1) next
    word_good g l next q = record {
      fits = t.fits;
      short = t.short;
      few = rw q (next_few before f i t.few);
      same =
          rw (q, p, add-one i)
          (sym (told_then i _ (judge_words file size (size - suc i) (suc i) (earlier_than_next before (fields_at file (word_bytes * i)))))
          ∙ judged true (rw (g, l)));
    }

  pub unknown_code : i < size → 12 < byte_at file (word_bytes * i) → refused_at i ≡ about N.strip (told (judge_strip file))
  unknown_code h more =
      word_refused (fields_at file (word_bytes * i)) refl h (no_word size before (fields_at file (word_bytes * i)) more)
