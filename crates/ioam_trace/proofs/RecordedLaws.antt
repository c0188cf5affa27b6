-- Laws of the elements that fit into a trace.
use Rattle.std.proofs.Common.{◌≡◌, ℕ, ◌+◌, ◌-◌, ◌<◌, ◌≤◌, Bool, true, false, cond, List, [], ◌∷◌, ◌++◌, length, arith, refl, sym, ap, ◌∙◌, subst}
use Rattle.std.specs.Prelude.{sum_by, nat_le}
use Rattle.std.proofs.lemmas.List.Sums.{sum_by-append}
use Rattle.std.proofs.lemmas.Bool.{leb-true, le-leb, lt-leb}
use Rattle.ioam_trace.specs.Data.{words_in, recorded, AreRecorded}

-- the words of a list of elements
abbrev pub total : List (List ℕ) → ℕ
total elements = sum_by words_in elements

pub total-cons : (e : List ℕ) (es : List (List ℕ)) → total (e ∷ es) ≡ words_in e + total es
total-cons e es = sum_by-append words_in (e ∷ []) es ∙ omega arith

pub total-push : (es : List (List ℕ)) (e : List ℕ) → total (es ++ e ∷ []) ≡ total es + words_in e
total-push es e = sum_by-append words_in es (e ∷ []) ∙ omega arith

-- what is recorded fits
pub recorded-fits : (capacity : ℕ) (es : List (List ℕ)) → total (recorded capacity es) ≤ capacity
recorded-fits capacity [] = omega arith
recorded-fits capacity (e ∷ es) = fits_either (nat_le (words_in e) capacity) (leb-true (words_in e) capacity) (recorded-fits (capacity - words_in e) es)
  where
    fits_either : (b : Bool) → (b ≡ true → words_in e ≤ capacity) → total (recorded (capacity - words_in e) es) ≤ capacity - words_in e → total (cond b (e ∷ recorded (capacity - words_in e) es) []) ≤ capacity
    fits_either true told rest = omega (arith, told refl, total-cons e (recorded (capacity - words_in e) es))
    fits_either false told rest = omega arith

pub length-recorded : (capacity : ℕ) (es : List (List ℕ)) → length (recorded capacity es) ≤ length es
length-recorded capacity [] = omega arith
length-recorded capacity (e ∷ es) = short_either (nat_le (words_in e) capacity) (length-recorded (capacity - words_in e) es)
  where
    short_either : (b : Bool) → length (recorded (capacity - words_in e) es) ≤ length es → length (cond b (e ∷ recorded (capacity - words_in e) es) []) ≤ length (e ∷ es)
    short_either true rest = omega arith
    short_either false rest = omega arith

-- elements that fit are all recorded
pub recorded-all : (capacity : ℕ) (es : List (List ℕ)) → total es ≤ capacity → recorded capacity es ≡ es
recorded-all capacity [] fits = refl
recorded-all capacity (e ∷ es) fits =
    let sum = total-cons e es in
    let rest = recorded-all (capacity - words_in e) es (omega arith) in
    rw (le-leb (words_in e) capacity (omega arith)) (ap (λ xs. e ∷ xs) rest)

-- where no fewer are recorded than are given, all fit
pub total-recorded : (capacity : ℕ) (es : List (List ℕ)) → length es ≤ length (recorded capacity es) → total es ≤ capacity
total-recorded capacity [] all = omega arith
total-recorded capacity (e ∷ es) all =
    total_either (nat_le (words_in e) capacity) (leb-true (words_in e) capacity) (total-recorded (capacity - words_in e) es) all
  where
    total_either : (b : Bool) → (b ≡ true → words_in e ≤ capacity)
        → (length es ≤ length (recorded (capacity - words_in e) es) → total es ≤ capacity - words_in e) → length (e ∷ es) ≤ length (cond b (e ∷ recorded (capacity - words_in e) es) [])
        → total (e ∷ es) ≤ capacity
    total_either true told rest all = omega (arith, told refl, total-cons e es, rest (omega arith))
    total_either false told rest all = absurd (omega arith)

-- once one did not fit, one more changes nothing
pub recorded-push_over : (capacity : ℕ) (es : List (List ℕ)) (e : List ℕ) → length (recorded capacity es) < length es
    → recorded capacity (es ++ e ∷ []) ≡ recorded capacity es
recorded-push_over capacity [] e over = absurd (omega arith)
recorded-push_over capacity (x ∷ es) e over = same_either (nat_le (words_in x) capacity) (recorded-push_over (capacity - words_in x) es e) over
  where
    same_either : (b : Bool)
        → (length (recorded (capacity - words_in x) es) < length es → recorded (capacity - words_in x) (es ++ e ∷ []) ≡ recorded (capacity - words_in x) es) → length (cond b (x ∷ recorded (capacity - words_in x) es) []) < length (x ∷ es)
        → cond b (x ∷ recorded (capacity - words_in x) (es ++ e ∷ [])) [] ≡ cond b (x ∷ recorded (capacity - words_in x) es) []
    same_either true rest over = ap (λ xs. x ∷ xs) (rest (omega arith))
    same_either false rest over = refl

-- one that does not fit behind those that do
pub recorded-push_not : (capacity : ℕ) (es : List (List ℕ)) (e : List ℕ) → total es ≤ capacity → capacity < total es + words_in e
    → recorded capacity (es ++ e ∷ []) ≡ es
recorded-push_not capacity [] e fits above = rw (lt-leb (words_in e) capacity (omega arith)) refl
recorded-push_not capacity (x ∷ es) e fits above =
    let sum = total-cons x es in
    let rest = recorded-push_not (capacity - words_in x) es e (omega arith) (omega arith) in
    rw (le-leb (words_in x) capacity (omega arith)) (ap (λ xs. x ∷ xs) rest)

-- one that fits
pub recorded-push_fits : (capacity : ℕ) (es : List (List ℕ)) (e : List ℕ) → total es + words_in e ≤ capacity
    → recorded capacity (es ++ e ∷ []) ≡ es ++ e ∷ []
recorded-push_fits capacity es e fits = recorded-all capacity (es ++ e ∷ []) (omega (arith, total-push es e))

-- what is recorded is a front of what is given
recorded-front : (capacity : ℕ) (es : List (List ℕ)) → (rest : List (List ℕ)) × (es ≡ recorded capacity es ++ rest)
recorded-front capacity [] = ([], refl)
recorded-front capacity (e ∷ es) = front_either (nat_le (words_in e) capacity) (recorded-front (capacity - words_in e) es)
  where
    front_either : (b : Bool) → (rest : List (List ℕ)) × (es ≡ recorded (capacity - words_in e) es ++ rest)
        → (rest : List (List ℕ)) × (e ∷ es ≡ cond b (e ∷ recorded (capacity - words_in e) es) [] ++ rest)
    front_either true shorter = (shorter.0, ap (λ xs. e ∷ xs) shorter.1)
    front_either false shorter = (e ∷ es, refl)

-- and no front that fits is longer
recorded-longest : (capacity : ℕ) (front rest : List (List ℕ)) → total front ≤ capacity
    → length front ≤ length (recorded capacity (front ++ rest))
recorded-longest capacity [] rest fits = omega arith
recorded-longest capacity (e ∷ front) rest fits =
    let sum = total-cons e front in
    let shorter = recorded-longest (capacity - words_in e) front rest (omega arith) in
    rw (le-leb (words_in e) capacity (omega arith)) (omega arith)

pub AreRecorded-recorded : (capacity : ℕ) (es : List (List ℕ)) → AreRecorded capacity es (recorded capacity es)
AreRecorded-recorded capacity es =
    let found = recorded-front capacity es in
    record {
      behind = found.0;
      front = found.1;
      fits = recorded-fits capacity es;
      longest = λ first others is few.
          (let P : List (List ℕ) → Type 0 = λ xs. length first ≤ length (recorded capacity xs) in
          subst P (sym is) (recorded-longest capacity first others few));
    }
