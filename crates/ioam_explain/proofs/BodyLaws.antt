-- The data of a trace, by the rule by which the trace must be left.
use Rattle.std.proofs.Common.{◌≡◌, ℕ, ◌+◌, Bool, List, ◌++◌, drop, ap, sym, ◌∙◌, Option, Some, None}
use Rattle.ioam_explain.specs.Rows.{differing, first_broken}
use Rattle.ioam_explain.specs.Trace.{front_rules, left_by, open_rules, rules_by}
use Rattle.ioam_explain.specs.declared.reason.Reason.{Reason}
use Rattle.ioam_explain.specs.declared.reason.Rule.{Rule}
use Rattle.ioam_explain.proofs.FirstLaws.{only, passed}

module _ (hops id inward trace at : ℕ) (knows : Bool) (old new : List ℕ) (front : first_broken (front_rules trace at old new) ≡ None) where
  abbrev by : Option Rule → List (Option Reason)
  by left = rules_by hops id inward trace (at + 2) (drop 2 old) (drop 2 new) left

  module _ (o n : List ℕ) (o_is : o ≡ drop 2 old) (n_is : n ≡ drop 2 new) where
    pub by_left : (left : Rule) → left_by knows o ≡ Some left
        → first_broken (front_rules trace at old new ++ by (left_by knows (drop 2 old))) ≡ differing left trace (at + 2) n o
    by_left left is = passed (front_rules trace at old new) (by (left_by knows (drop 2 old))) front
        ∙ ap (λ one. first_broken (by one)) (ap (left_by knows) (sym o_is) ∙ is) ∙ only (differing left trace (at + 2) (drop 2 new) (drop 2 old))
        ∙ ap (λ xs. differing left trace (at + 2) xs (drop 2 old)) (sym n_is) ∙ ap (differing left trace (at + 2) n) (sym o_is)

    pub by_none : left_by knows o ≡ None
        → first_broken (front_rules trace at old new ++ by (left_by knows (drop 2 old))) ≡ first_broken (open_rules hops id inward trace (at + 2) o n)
    by_none is = passed (front_rules trace at old new) (by (left_by knows (drop 2 old))) front
        ∙ ap (λ one. first_broken (by one)) (ap (left_by knows) (sym o_is) ∙ is)
        ∙ ap (λ xs. first_broken (open_rules hops id inward trace (at + 2) (drop 2 old) xs)) (sym n_is)
        ∙ ap (λ xs. first_broken (open_rules hops id inward trace (at + 2) xs n)) (sym o_is)
