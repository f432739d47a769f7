-- The fields of a record: terms one after the other, and fields that hold what others hold.
use Prim.Native.Nat.{ℕ, suc, ◌+◌, ◌-◌, ◌≤◌, ◌<◌}
use mathlib.Core.Path.{◌≡◌, refl, sym, ap, ◌∙◌, subst}
use mathlib.Core.Bool.{Bool, ◌||◌, or-false, or_assoc}
use mathlib.Core.List.{List, [], ◌∷◌}
use native.Mathlib.Omega.{arith}
use native.Mathlib.Nat.{sub-zero}
use lib.ListN.{length, take, drop, length-drop}
use lib.Seq.{take_all, drop-drop}
use lib.Dec.{eqb}
use Rattle.std.specs.Prelude.{Ok, Err}
use Rattle.meaning.specs.Facts.{variables}
use Rattle.meaning.specs.Rules.{Term, constant, variable, occurs_in_terms}
use Rattle.files.specs.Judge.{Judged}
use Rattle.files.specs.Book.{Reading, term, terms}
use Rattle.files.specs.InPlace.{term_at}
use Rattle.answers.specs.declared.Refusal.{Refusal}
use Rattle.book.specs.Sets.{is_in}
use Rattle.book.specs.Left.{place}
use Rattle.book.specs.Reads.{Ends, Fields, Marked, Known, TermReads, TermsRead}
use Rattle.book.specs.declared.left.Rest.{Rest}
use Rattle.book.specs.declared.Scan.{Scan}

-- a part of a slice, from `m` on
pub part_from : (m : ℕ) (bytes : List ℕ) → take (length bytes - m) (drop m bytes) ≡ drop m bytes
part_from m bytes = take_all (length bytes - m) (drop m bytes) (omega (arith, length-drop m bytes))

-- ---- several terms

-- one term of a record, and so many, from some bytes on
abbrev term_of : Rest → (ℕ → Bool) → List ℕ → Fields Term
term_of rest bound bytes = term rest.end bound (place rest) bytes

abbrev terms_of : Rest → (ℕ → Bool) → ℕ → List ℕ → Fields (List Term)
terms_of rest bound count bytes = terms rest.end bound (place rest) count bytes

-- judging the terms that are left is judging them all
pub record Ahead (rest : Rest) (count : ℕ) (bound : ℕ → Bool) (known : ℕ) (left : List ℕ) (now i : ℕ) : Type 0 where
  pub before : List Term → List Term
  pub same : (next : List Term → List ℕ → Judged Reading)
      → terms_of rest bound count (drop 3 rest.bytes.now) next ≡ terms_of rest bound (count - i) left (λ ts l. next (before ts) l)
  pub seen : (ts : List Term) (v : ℕ) → v < variables
      → (is_in known v || occurs_in_terms v (before ts)) ≡ (is_in now v || occurs_in_terms v ts)

pub record Scanned (rest : Rest) (count free known : ℕ) (left : List ℕ) (now i : ℕ) : Type 0 where
  pub from : ℕ
  pub past : 3 ≤ from
  pub within : from ≤ length rest.bytes.now
  pub left_is : left ≡ drop from rest.bytes.now
  pub ahead : (bound : ℕ → Bool) → Marked free bound → Ahead rest count bound known left now i

module _ (rest : Rest) (count free known : ℕ) where
  pub scan_starts : 3 ≤ length rest.bytes.now → Scanned rest count free known (take (length rest.bytes.now - 3) (drop 3 rest.bytes.now)) known 0
  scan_starts h = rw (part_from 3 rest.bytes.now) (record {
    from = 3;
    past = omega arith;
    within = h;
    left_is = refl;
    ahead = λ bound b. record {
      before = λ ts. ts;
      same = λ next. ap (λ (k : ℕ). terms_of rest bound k (drop 3 rest.bytes.now) next) (sym (sub-zero count));
      seen = λ ts v u. refl;
    };
  })

  module _ (left : List ℕ) (now i : ℕ) (s : Scanned rest count free known left now i) where
    pub scan_shorter : length left ≤ length rest.bytes.now
    scan_shorter = omega (arith, ap length s.left_is, length-drop s.from rest.bytes.now)

    pub scan_done : count ≤ i → (scan : Scan) → scan.bytes ≡ length rest.bytes.now - length left → scan.known.bits ≡ now
        → TermsRead rest count free known (Ok scan)
    scan_done h scan m k = record {
      reads = λ bound b.
          let a = s.ahead bound b in
          let none : count - i ≡ 0 = omega arith in
          let p : scan.bytes ≡ s.from = omega (arith, s.within, ap length s.left_is, length-drop s.from rest.bytes.now) in record {
            value = a.before [];
            some = omega (arith, s.past);
            within = omega (arith, s.within);
            is = λ v u. ap (λ (x : ℕ). is_in x v) k ∙ sym (or-false (is_in now v)) ∙ sym (a.seen [] v u);
            goes = λ next.
                a.same next ∙ ap (λ (n : ℕ). terms_of rest bound n left (λ ts l. next (a.before ts) l)) none
                ∙ ap (next (a.before [])) (s.left_is ∙ ap (λ (n : ℕ). drop n rest.bytes.now) (sym p));
          };
    }

    module _ (h : i < count) where
      -- the terms after the next one
      abbrev others : (ℕ → Bool) → (List Term → List ℕ → Judged Reading) → Term → List ℕ → Judged Reading
      others bound next t l = terms_of rest bound (count - (i + 1)) l (λ ts l₁. next (t ∷ ts) l₁)

      to_term : (bound : ℕ → Bool) (b : Marked free bound) (next : List Term → List ℕ → Judged Reading)
          → terms_of rest bound count (drop 3 rest.bytes.now) next ≡ term_of rest bound left (others bound (λ ts l. next ((s.ahead bound b).before ts) l))
      to_term bound b next =
          let one : count - i ≡ suc (count - (i + 1)) = omega arith in
          (s.ahead bound b).same next ∙ ap (λ (n : ℕ). terms_of rest bound n left (λ ts l. next ((s.ahead bound b).before ts) l)) one

      pub scan_ends : (e : Refusal) → TermReads rest left free (Err e) → TermsRead rest count free known (Err e)
      scan_ends e y = record {
        reads = λ bound b next.
            subst (λ (j : Judged Reading). Ends rest.end j (Err e)) (sym (to_term bound b next))
            (y.reads bound b (others bound (λ ts l. next ((s.ahead bound b).before ts) l)));
      }

      module _ (m : ℕ) (y : TermReads rest left free (Ok m)) where
        -- the set itself is such a test
        pub scan_within : m ≤ length left
        scan_within = (y.reads (λ v. is_in free v) (λ v u. refl)).within

        occurs_cons : (v : ℕ) (t : Term) (ts : List Term) → occurs_in_terms v (t ∷ ts) ≡ (occurs_in_terms v (t ∷ []) || occurs_in_terms v ts)
        occurs_cons v (constant a) ts = refl
        occurs_cons v (variable a) ts = ap (λ (x : Bool). x || occurs_in_terms v ts) (sym (or-false (eqb v a)))

        pub scan_goes : (after : ℕ) → Known now (term_at left 0 ∷ []) after
            → Scanned rest count free known (take (length left - m) (drop m left)) after (i + 1)
        scan_goes after k = rw (part_from m left) (record {
          from = s.from + m;
          past = omega (arith, s.past);
          within = omega (arith, s.within, scan_within, ap length s.left_is, length-drop s.from rest.bytes.now);
          left_is = ap (drop m) s.left_is ∙ drop-drop m s.from rest.bytes.now;
          ahead = λ bound b.
              let a = s.ahead bound b in
              let f = y.reads bound b in record {
                before = λ ts. a.before (f.value ∷ ts);
                same = λ next. to_term bound b next ∙ f.goes (others bound (λ ts l₁. next (a.before ts) l₁));
                seen = λ ts v u.
                    a.seen (f.value ∷ ts) v u
                    ∙ ap (λ (x : Bool). is_in now v || x)
                    (occurs_cons v f.value ts ∙ ap (λ (t : Term). occurs_in_terms v (t ∷ []) || occurs_in_terms v ts) f.is)
                    ∙ sym (or_assoc (is_in now v) (occurs_in_terms v (term_at left 0 ∷ [])) (occurs_in_terms v ts))
                    ∙ ap (λ (x : Bool). x || occurs_in_terms v ts) (sym (k v u));
              };
        })
