-- A trace to which a node adds has room for the element that was added.
use Rattle.std.proofs.Common.{◌≡◌, ◌⊎◌, inl, inr, ℕ, ◌+◌, ◌-◌, ◌*◌, ◌/◌, ◌%◌, ◌<◌, ◌≤◌, Bool, true, false, cond, not, ◌&&◌, eqb, leb, ltb, List, [], ◌∷◌, length, drop, length-take, length-drop, arith, refl, Option, Some, None}
use Rattle.std.proofs.lemmas.Bool.{and_parts, eqb-true, leb-true, ltb-true, ltb-false, not-false, or_cases}
use Rattle.std.proofs.lemmas.Bool.Decides.{nat_tests}
use Rattle.ioam_data.specs.Kind.{has, undefined, words}
use Rattle.ioam_trace.specs.Head.{kind_of, node_len_of, overflow_of, remaining_of}
use Rattle.ioam_explain.specs.Fields.{HasRoom}
use Rattle.ioam_explain.specs.Rows.{first_broken, row}
use Rattle.ioam_explain.specs.Trace.{added, falls, fits, least, left_by, room_rules, suits}
use Rattle.ioam_explain.specs.declared.reason.Reason.{Reason}
use Rattle.ioam_explain.specs.declared.reason.Rule.{Rule}
use Rattle.ioam_explain.specs.declared.reason.Rule.TheVariants as rule
use Rattle.ioam_explain.specs.declared.reason.Value.TheVariants.{Number}
use Rattle.ioam_explain.proofs.FirstLaws.{none-first, none-rest}
use Rattle.ioam_explain.proofs.HoldLaws.{row-holds}

-- ---- no rule says that the trace must be left

none_of : (a b c d e f : Bool) (p q r s t u : Rule)
    → ◌≡◌ {A = Option Rule} (cond a (Some p) (cond b (Some q) (cond c (Some r) (cond d (Some s) (cond e (Some t) (cond f (Some u) None)))))) None
    → (a ≡ false) × (b ≡ false) × (c ≡ false) × (d ≡ false) × (e ≡ false) × (f ≡ false)
none_of true b c d e f p q r s t u is = absurd (cc is)
none_of false true c d e f p q r s t u is = absurd (cc is)
none_of false false true d e f p q r s t u is = absurd (cc is)
none_of false false false true e f p q r s t u is = absurd (cc is)
none_of false false false false true f p q r s t u is = absurd (cc is)
none_of false false false false false true p q r s t u is = absurd (cc is)
none_of false false false false false false p q r s t u is = (refl, refl, refl, refl, refl, refl)

pub record Opened (knows : Bool) (old : List ℕ) : Type 0 where
  pub known : knows ≡ true
  pub clear : eqb (overflow_of old) 1 ≡ false
  pub in_words : length old % 4 ≡ 0
  pub space : 8 + 4 * remaining_of old ≤ length old
  pub suits : suits (kind_of old) (node_len_of old) ≡ true
  pub some : eqb (kind_of old / 2) 0 ≡ false

pub opened : (knows : Bool) (old : List ℕ) → left_by knows old ≡ None → Opened knows old
unfolding left_by
opened knows old is =
    let all = none_of (not knows) (eqb (overflow_of old) 1) (not (eqb (length old % 4) 0)) (ltb (length old) (8 + 4 * remaining_of old))
    (not (suits (kind_of old) (node_len_of old))) (eqb (kind_of old / 2) 0)
    rule.LeftNamespace rule.LeftOverflow rule.LeftPartWord rule.LeftRemainingLen rule.LeftNodeLen rule.LeftNoField is in
    record {
      known = not-false knows all.0;
      clear = all.1;
      in_words = eqb-true (length old % 4) 0 (not-false (eqb (length old % 4) 0) all.2);
      space = ltb-false (length old) (8 + 4 * remaining_of old) all.3;
      suits = not-false (suits (kind_of old) (node_len_of old)) all.4;
      some = all.5;
    }

pub known : (knows : Bool) (old : List ℕ) → left_by knows old ≡ None → left_by true old ≡ None
known true old is = is
known false old is = absurd (is_false (opened false old is).known)
  where
    is_false : ◌≡◌ {A = Bool} false true → ⊥
    is_false is = cc is

pub space : (old : List ℕ) → left_by true old ≡ None → 8 + 4 * remaining_of old ≤ length old
space old is = (opened true old is).space

by_test : (u w n : ℕ) → cond (eqb u 0) (eqb n w) (leb w n) ≡ true → w ≤ n
by_test u w n may = grind (arith, nat_tests)

pub suited : (old : List ℕ) → left_by true old ≡ None → words (kind_of old) ≤ node_len_of old
suited old is = by_test (undefined (kind_of old)) (words (kind_of old)) (node_len_of old) (opened true old is).suits

-- ---- RemainingLen falls by the words of an element

module _ (trace at : ℕ) (old new : List ℕ) (holds : first_broken (room_rules trace at old new) ≡ None) where
  abbrev fit_row : Option Reason
  fit_row = row (not (fits old)) rule.OverflowMissing trace (at + 2) (Number 0) (Number 1)

  abbrev fall_row : Option Reason
  fall_row = row (not (falls old (remaining_of new))) rule.RemainingLen trace (at + 3) (Number (remaining_of new)) (Number (remaining_of old - least old))

  pub fit : least old ≤ remaining_of old
  unfolding room_rules
  fit = leb-true (least old) (remaining_of old) (not-false (fits old)
      (row-holds (not (fits old)) rule.OverflowMissing trace (at + 2) (Number 0) (Number 1) (none-first fit_row (fall_row ∷ []) holds)))

  pub fall : (remaining_of new ≡ remaining_of old - least old) ⊎ ((has (kind_of old) 22 ≡ true) × (remaining_of new < remaining_of old - least old))
  unfolding room_rules
  fall =
      let is = not-false (falls old (remaining_of new))
      (row-holds (not (falls old (remaining_of new))) rule.RemainingLen trace (at + 3) (Number (remaining_of new)) (Number (remaining_of old - least old))
      (none-first fall_row [] (none-rest fit_row (fall_row ∷ []) holds))) in
      elim (or_cases (eqb (remaining_of new) (remaining_of old - least old)) (has (kind_of old) 22 && ltb (remaining_of new) (remaining_of old - least old)) is) [
        | inl same ↦ inl (eqb-true (remaining_of new) (remaining_of old - least old) same)
        | inr more ↦
            let both = and_parts (has (kind_of old) 22) (ltb (remaining_of new) (remaining_of old - least old)) more in
            inr (both.0, ltb-true (remaining_of new) (remaining_of old - least old) both.1)
      ]

  pub order : remaining_of new ≤ remaining_of old
  order = elim fall as (λ _. remaining_of new ≤ remaining_of old) [
    | inl same ↦ omega (arith, same)
    | inr more ↦ omega (arith, more.1)
  ]

  -- the words that were added
  most : remaining_of new ≤ remaining_of old - least old
  most = elim fall as (λ _. remaining_of new ≤ remaining_of old - least old) [
    | inl same ↦ omega (arith, same)
    | inr more ↦ omega (arith, more.1)
  ]

  plain : (b : Bool) (node_len : ℕ) → least old ≡ node_len + cond b 1 0 → has (kind_of old) 22 ≡ b → b ≡ false → remaining_of new ≡ remaining_of old - node_len
  plain true node_len is bit none = absurd (cc none)
  plain false node_len is bit none = elim fall as (λ _. remaining_of new ≡ remaining_of old - node_len) [
    | inl same ↦ omega (arith, same, is)
    | inr more ↦ absurd (cc (bit, more.0))
  ]

  pub has_room : length new ≡ length old → left_by true old ≡ None → HasRoom (kind_of old) (node_len_of old) (length (added old new))
  has_room same opens =
      let end : 8 + 4 * remaining_of old ≤ length old = space old opens in
      let long : length (added old new) ≡ 4 * (remaining_of old - remaining_of new) =
      omega (arith, same, end, order, length-take (8 + 4 * remaining_of old - (8 + 4 * remaining_of new)) (drop (8 + 4 * remaining_of new) new), length-drop (8 + 4 * remaining_of new) new) in (
        omega (arith, long),
        omega (arith, long, most, fit),
        λ none. omega (arith, long, fit, plain (has (kind_of old) 22) (node_len_of old) refl refl none),
      )
