-- Laws of lists of numbers that were noted.
use Rattle.std.proofs.Common.{◌≡◌, ◌≢◌, ℕ, ◌+◌, ◌<◌, ◌≤◌, ◌==◌, max, Bool, true, false, ◌||◌, List, [], ◌∷◌, ◌++◌, arith, refl, sym, ap, ◌∙◌, inl, inr, ◌⊎◌, append_assoc}
use Rattle.std.specs.List.{sum_by}
use Rattle.std.proofs.lemmas.List.{append-nil}
use Rattle.std.proofs.lemmas.Bool.{cases_lt}
use Rattle.std.proofs.lemmas.Bool.Decides.{nat_tests}
use Rattle.std.proofs.lemmas.List.Folds.{list_any-append}
use Rattle.std.proofs.lemmas.List.Sums.{sum_by-append}
use Rattle.ioam_edge.specs.declared.note.Note.{Note}
use Rattle.ioam_edge.specs.declared.note.Note.TheVariants.{Next, Gap, Repeat, Late}
use Rattle.ioam_edge.specs.declared.counts.Counts.{Counts}
use Rattle.ioam_edge.specs.Noted.{due, is_noted, note_of, notes_behind, notes_of, gaps_in, missed_in, late_in, repeats_in, capped, counts_in, counted}

-- one number more
pub due-push : (noted : List ℕ) (n : ℕ) → due (noted ++ n ∷ []) ≡ max (due noted) (n + 1)
due-push [] n = omega arith
due-push (m ∷ noted) n = let rest = due-push noted n in omega arith

or_false : (a b : Bool) → b ≡ false → (a || b) ≡ a
or_false true false same = refl
or_false false false same = refl
or_false true true same = refl
or_false false true same = same

or_true : (a b : Bool) → b ≡ true → (a || b) ≡ true
or_true true b same = refl
or_true false b same = same

one_noted : (n number : ℕ) → n ≡ number → is_noted number (n ∷ []) ≡ true
one_noted n number same = grind (arith, nat_tests)

none_noted : (n number : ℕ) → n ≢ number → is_noted number (n ∷ []) ≡ false
none_noted n number other = grind (arith, nat_tests)

pub is_noted-same : (noted : List ℕ) (n : ℕ) → is_noted n (noted ++ n ∷ []) ≡ true
is_noted-same noted n = list_any-append (λ m. m == n) noted (n ∷ []) ∙ or_true (is_noted n noted) (is_noted n (n ∷ [])) (one_noted n n refl)

pub is_noted-other : (noted : List ℕ) (n number : ℕ) → n ≢ number → is_noted number (noted ++ n ∷ []) ≡ is_noted number noted
is_noted-other noted n number other = list_any-append (λ m. m == number) noted (n ∷ [])
    ∙ or_false (is_noted number noted) (is_noted number (n ∷ [])) (none_noted n number other)

-- no number from the one that is due on was noted
not_first : (m number : ℕ) (rest : Bool) → m < number → rest ≡ false → ((m == number) || rest) ≡ false
not_first m number rest below none = grind (arith, nat_tests)

pub is_noted-above : (noted : List ℕ) (number : ℕ) → due noted ≤ number → is_noted number noted ≡ false
is_noted-above [] number above = refl
is_noted-above (m ∷ noted) number above =
    let rest = is_noted-above noted number (omega arith) in
    not_first m number (is_noted number noted) (omega arith) rest

-- what was told with one number more
pub notes_behind-push : (earlier noted : List ℕ) (n : ℕ)
    → notes_behind earlier (noted ++ n ∷ []) ≡ notes_behind earlier noted ++ note_of (earlier ++ noted) n ∷ []
notes_behind-push earlier [] n = ap (λ e. note_of e n ∷ []) (sym (append-nil earlier))
notes_behind-push earlier (m ∷ noted) n = ap (λ rest. note_of earlier m ∷ rest)
    (notes_behind-push (earlier ++ m ∷ []) noted n
    ∙ ap (λ e. notes_behind (earlier ++ m ∷ []) noted ++ note_of e n ∷ []) (append_assoc earlier (m ∷ []) noted))

-- the counts with one note more
capped_sum : (f : Note → ℕ) (notes : List Note) (note : Note) → capped (sum_by f (notes ++ note ∷ [])) ≡ capped (capped (sum_by f notes) + f note)
capped_sum f notes note =
    let more = sum_by-append f notes (note ∷ []) in
    omega arith

same_counts : (a b : Counts) → a.gaps ≡ b.gaps → a.missed ≡ b.missed → a.late ≡ b.late → a.repeats ≡ b.repeats → a ≡ b
same_counts a b g m l r =
    let same : ◌≡◌ {A = Counts} (record { gaps = a.gaps; missed = a.missed; late = a.late; repeats = a.repeats })
    (record { gaps = b.gaps; missed = b.missed; late = b.late; repeats = b.repeats }) = cc in
    same

capped_none : (n : ℕ) → capped (capped n + 0) ≡ capped n
capped_none n = omega arith

pub counts_in-push : (notes : List Note) (note : Note) → counts_in (notes ++ note ∷ []) ≡ counted (counts_in notes) note
counts_in-push notes Next = same_counts _ _
    (capped_sum gaps_in notes Next ∙ capped_none _) (capped_sum missed_in notes Next ∙ capped_none _)
    (capped_sum late_in notes Next ∙ capped_none _) (capped_sum repeats_in notes Next ∙ capped_none _)
counts_in-push notes (Gap missed) = same_counts _ _
    (capped_sum gaps_in notes (Gap missed)) (capped_sum missed_in notes (Gap missed))
    (capped_sum late_in notes (Gap missed) ∙ capped_none _) (capped_sum repeats_in notes (Gap missed) ∙ capped_none _)
counts_in-push notes Repeat = same_counts _ _
    (capped_sum gaps_in notes Repeat ∙ capped_none _) (capped_sum missed_in notes Repeat ∙ capped_none _)
    (capped_sum late_in notes Repeat ∙ capped_none _) (capped_sum repeats_in notes Repeat)
counts_in-push notes Late = same_counts _ _
    (capped_sum gaps_in notes Late ∙ capped_none _) (capped_sum missed_in notes Late ∙ capped_none _)
    (capped_sum late_in notes Late) (capped_sum repeats_in notes Late ∙ capped_none _)

pub counts-push : (noted : List ℕ) (n : ℕ) → counts_in (notes_of (noted ++ n ∷ [])) ≡ counted (counts_in (notes_of noted)) (note_of noted n)
counts-push noted n = ap counts_in (notes_behind-push [] noted n) ∙ counts_in-push (notes_of noted) (note_of noted n)

-- ---- the number due in the words of a list: above each number noted, and one above one of them where there is one

first_noted : (m : ℕ) (rest : Bool) → ((m == m) || rest) ≡ true
first_noted m rest = grind (arith, nat_tests)

later_noted : (a b : Bool) → b ≡ true → (a || b) ≡ true
later_noted true b same = refl
later_noted false b same = same

pub due-noted : (noted : List ℕ) → (due noted ≡ 0) ⊎ ((n : ℕ) × (due noted ≡ n + 1) × (is_noted n noted ≡ true))
due-noted [] = inl refl
due-noted (m ∷ noted) = elim (cases_lt (due noted) (m + 1)) [
  | inl above ↦ inr (m, omega arith, first_noted m (is_noted m noted))
  | inr below ↦ elim (due-noted noted) [
    | inl none ↦ absurd (omega arith)
    | inr found ↦ (let (n, there, is) = found in inr (n, omega arith, later_noted (m == n) (is_noted n noted) is))
  ]
]
