-- A packet whose header is there as before has as many octets.
use Rattle.std.proofs.Common.{◌≡◌, ℕ, not, eqb, List, length, None}
use Rattle.std.proofs.lemmas.Bool.{eqb-true, not-false}
use Rattle.ioam_base.specs.Octets.{u16_at}
use Rattle.ioam_explain.specs.Headers.{presence_rules}
use Rattle.ioam_explain.specs.Rows.{first_broken}
use Rattle.ioam_explain.specs.declared.reason.Rule.TheVariants as rule
use Rattle.ioam_explain.specs.declared.reason.Value.TheVariants.{Number}
use Rattle.ioam_explain.proofs.FirstLaws.{none-first, none-rest}
use Rattle.ioam_explain.proofs.HoldLaws.{row-holds}

pub same_long : (before after : List ℕ) → first_broken (presence_rules before after) ≡ None → length after ≡ length before
unfolding presence_rules
same_long before after is =
    eqb-true (length after) (length before) (not-false (eqb (length after) (length before))
    (row-holds (not (eqb (length after) (length before))) rule.PayloadLength 0 4 (Number (u16_at after 4)) (Number (u16_at before 4))
    (none-first _ _ (none-rest _ _ (none-rest _ _ (none-rest _ _ is))))))
