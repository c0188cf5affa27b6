-- What a receiver stands for after a number more.
use Rattle.std.proofs.Common.{◌≡◌, ◌≢◌, ℕ, ◌+◌, ◌-◌, ◌<◌, ◌≤◌, ◌==◌, nat_lt, nat_le, Bool, true, false, ◌&&◌, List, [], ◌∷◌, ◌++◌, arith, refl, sym, ap, ◌∙◌, inl, inr}
use Rattle.std.specs.Int.{bit_at}
use Rattle.std.specs.Bool.{if◌then◌else◌}
use Rattle.std.proofs.lemmas.Bool.{cases_lt, cases_eq}
use Rattle.std.proofs.lemmas.Bool.Decides.{nat_tests}
use Rattle.ioam_edge.specs.declared.note.Note.TheVariants.{Repeat, Late}
use Rattle.ioam_edge.specs.Noted.{due, is_noted, note_of}
use Rattle.ioam_edge.specs.Receiver.{mark, Marks}
use Rattle.ioam_edge.specs.Window.{moved_bit, Moved, Set}
use Rattle.ioam_edge.proofs.NotedLaws.{due-push, is_noted-same, is_noted-other, is_noted-above}
use Rattle.ioam_edge.proofs.WindowLaws.{one_above}

module _ (noted : List ℕ) (seq : ℕ) where
  -- the number due, where the number is above all, and where it is not
  pub due-above : due noted ≤ seq → seq + 1 ≡ due (noted ++ seq ∷ [])
  due-above above = omega (arith, due-push noted seq)

  pub due-below : seq < due noted → due noted ≡ due (noted ++ seq ∷ [])
  due-below below = omega (arith, due-push noted seq)

  -- the mark of the number itself, and of any other
  mark_here : (number : ℕ) → seq ≡ number → 1 ≡ mark (is_noted number (noted ++ seq ∷ []))
  mark_here number same = ap mark (sym (is_noted-same noted seq) ∙ ap (λ n. is_noted n (noted ++ seq ∷ [])) same)

  mark_other : (number : ℕ) → seq ≢ number → mark (is_noted number noted) ≡ mark (is_noted number (noted ++ seq ∷ []))
  mark_other number other = ap mark (sym (is_noted-other noted seq number other))

  mark_passed : (number : ℕ) → due noted ≤ number → seq ≢ number → 0 ≡ mark (is_noted number (noted ++ seq ∷ []))
  mark_passed number above other = ap mark (sym (is_noted-above noted number above)) ∙ mark_other number other

  -- the first number of all
  pub Marks-first : due noted ≡ 0 → Marks 1 (noted ++ seq ∷ [])
  Marks-first none k number few place = let top = due-above (omega arith) in elim (cases_eq k 0) [
    | inl low ↦ ap (bit_at 1) low ∙ mark_here number (omega arith)
    | inr other ↦ one_above k (omega arith) ∙ mark_passed number (omega arith) (λ same. omega arith)
  ]

  -- a number above all
  module _ (window new by : ℕ) (marks : Marks window noted) (moves : due noted + by ≡ seq + 1) (some : 0 < by) (moved : Moved window by new) where
    pub Marks-moved : Marks new (noted ++ seq ∷ [])
    Marks-moved k number few place = let top = due-above (omega arith) in moved k few ∙ elim (cases_eq k 0) [
      | inl low ↦ (let is : moved_bit window by k ≡ 1 = grind (arith, nat_tests) in is) ∙ mark_here number (omega arith)
      | inr other ↦ elim (cases_lt k by) [
        | inl below ↦ moved_middle k (omega arith) below ∙ mark_passed number (omega arith) (λ same. omega arith)
        | inr above ↦ moved_high k (omega arith) above ∙ marks (k - by) number (omega arith) (omega arith) ∙ mark_other number (λ same. omega arith)
      ]
    ]
      where
        moved_middle : (k : ℕ) → 0 < k → k < by → moved_bit window by k ≡ 0
        moved_middle k positive below = grind (arith, nat_tests)

        moved_high : (k : ℕ) → 0 < k → by ≤ k → moved_bit window by k ≡ bit_at window (k - by)
        moved_high k positive above = grind (arith, nat_tests)

  -- a number below the one that is due
  module _ (window new back : ℕ) (marks : Marks window noted) (behind : seq + back + 1 ≡ due noted) (set : Set window back new) where
    pub Marks-set : Marks new (noted ++ seq ∷ [])
    Marks-set k number few place = let top = due-below (omega arith) in set k few ∙ elim (cases_eq k back) [
      | inl same ↦ set_here k same ∙ mark_here number (omega arith)
      | inr other ↦ set_other k other ∙ marks k number few (omega arith) ∙ mark_other number (λ same. other (omega arith))
    ]
      where
        set_here : (k : ℕ) → k ≡ back → (if k == back then 1 else bit_at window k) ≡ 1
        set_here k same = grind (arith, nat_tests)

        set_other : (k : ℕ) → k ≢ back → (if k == back then 1 else bit_at window k) ≡ bit_at window k
        set_other k other = grind (arith, nat_tests)

  -- what the window tells of a number
  is_marked : (b : Bool) → (mark b == 1) ≡ b
  is_marked true = refl
  is_marked false = refl

  pub held-noted : (window back : ℕ) → Marks window noted → seq + back + 1 ≡ due noted
      → (nat_lt back 64 && (bit_at window back == 1)) ≡ (nat_le (due noted) (seq + 64) && is_noted seq noted)
  held-noted window back marks behind = elim (cases_lt back 64) [
    | inl few ↦
        let bit = ap (λ n. n == 1) (marks back seq few behind) ∙ is_marked (is_noted seq noted) in
        near (bit_at window back == 1) (is_noted seq noted) few bit
    | inr many ↦ far (bit_at window back == 1) (is_noted seq noted) many
  ]
    where
      near : (a b : Bool) → back < 64 → a ≡ b → (nat_lt back 64 && a) ≡ (nat_le (due noted) (seq + 64) && b)
      near a b few same = grind (arith, nat_tests)

      far : (a b : Bool) → 64 ≤ back → (nat_lt back 64 && a) ≡ (nat_le (due noted) (seq + 64) && b)
      far a b many = grind (arith, nat_tests)

  -- what a number below the one that is due tells
  pub note-repeat : seq < due noted → (nat_le (due noted) (seq + 64) && is_noted seq noted) ≡ true → Repeat ≡ note_of noted seq
  note-repeat below held = grind (arith, nat_tests)

  pub note-late : seq < due noted → (nat_le (due noted) (seq + 64) && is_noted seq noted) ≡ false → Late ≡ note_of noted seq
  note-late below held = grind (arith, nat_tests)
