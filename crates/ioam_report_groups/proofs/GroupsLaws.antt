-- Laws of the lines of groups.
use Rattle.std.proofs.Common.{◌≡◌, ℕ, ◌<◌, ◌≤◌, List, [], ◌∷◌, ◌++◌, length, ap, ap₂, ◌∙◌, arith, Option, None, Some}
use Rattle.std.specs.List.{flat_map}
use Rattle.std.proofs.lemmas.Bool.Decides.{nat_tests}
use Rattle.ioam_dex.specs.Record.{Record}
use Rattle.ioam_pool.specs.Entry.{Entry}
use Rattle.ioam_collect.specs.Keyed.{keyed, keyed_of}
use Rattle.ioam_collect.specs.Best.{kept_of, groups_of}
use Rattle.ioam_collect.specs.Collected.{Collected, Stands, capped, one_where_none, count_unkeyed}
use Rattle.ioam_collect.specs.declared.key.Key.{Key}
use Rattle.ioam_report_groups.specs.GroupsText.{group_text, counts_line, collected_text, records_text}

capped-is : (n : ℕ) → n < 18446744073709551616 → capped n ≡ n
capped-is n below = grind (arith, nat_tests)

one_few : (o : Option (Key × Entry)) → one_where_none o ≤ 1
one_few None = omega arith
one_few (Some p) = omega arith

count-few : (xs : List Record) → count_unkeyed xs ≤ length xs
count-few [] = omega arith
count-few (x ∷ xs) = let more = count-few xs in let one = one_few (keyed_of x) in omega arith

pub records_text-is : (c : Collected) (xs : List Record) → c.groups ≡ groups_of (keyed xs) → Stands c xs → length xs < 18446744073709551616
    → collected_text c ≡ records_text xs
records_text-is c xs groups s few =
    let less = count-few xs in
    let read : c.read ≡ length xs = s.read ∙ capped-is (length xs) few in
    let unkeyed : c.unkeyed ≡ count_unkeyed xs = s.unkeyed ∙ capped-is (count_unkeyed xs) (omega arith) in
    let counts : counts_line c.read c.held c.unkeyed ≡ counts_line (length xs) (length (kept_of (keyed xs))) (count_unkeyed xs) =
    ap₂ (λ r k. counts_line r k c.unkeyed) read s.groups.held ∙ ap (counts_line (length xs) (length (kept_of (keyed xs)))) unkeyed in
    ap₂ (λ (gs : List (Key × List Entry)) (text : List ℕ). flat_map group_text gs ++ text) groups counts
