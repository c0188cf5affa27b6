-- Of parts that are merged: in whatever tree, they become the part of all that their leaves have.
use Rattle.std.proofs.Common.{◌≡◌, ℕ, List, ◌++◌, ap, sym, ◌∙◌, subst}
use Rattle.ioam_run_collect.specs.Best.{groups_of, kept_of}
use Rattle.ioam_run_collect.specs.Join.{SameMembers, Tree, Leaf, Join, leaves, merged, pairs_in}
use Rattle.ioam_run_collect.specs.Keyed.{keyed}
use Rattle.ioam_run_collect.specs.Key.{Key}
use Rattle.ioam_run_collect.proofs.JoinLaws.{kept_again, merged_same, pairs_groups}
use Rattle.ioam_run_answer.specs.Record.{Record}
use Rattle.ioam_run_answer.specs.Part.{IsPart, PartOf}
use Rattle.ioam_run_answer.proofs.PartLaws.{groups_same, part_unique}
use Rattle.ioam_run_answer.specs.Entry.{Entry}
use Rattle.ioam_run_measured.specs.Parted.{AreMerged}

-- the records of a part are those of the groups that it is the part of
pairs_of : (octets : List ℕ) (records : List Record) (groups : List (Key × List Entry)) → IsPart octets records → PartOf octets groups
    → keyed records ≡ pairs_in groups
pairs_of octets records groups is part = ap keyed (part_unique octets records part.records is part.part) ∙ part.same

merged_part : (tree : Tree) (octets : List ℕ) → AreMerged tree octets → PartOf octets (merged tree)
merged_part (Leaf ps) octets is = is
merged_part (Join one two) octets is =
    let joins = is.4 in
    let firsts = pairs_of is.0 joins.firsts (merged one) joins.first (merged_part one is.0 is.2) in
    let seconds = pairs_of is.1 joins.seconds (merged two) joins.second (merged_part two is.1 is.3) in
    subst (λ (ps : List (Key × Entry)). PartOf octets (groups_of (ps ++ pairs_in (merged two)))) firsts
    (subst (λ (ps : List (Key × Entry)). PartOf octets (groups_of (keyed joins.firsts ++ ps))) seconds joins.joined)

-- where these are all of some records, and each at least once, it is the part of those
pub merged_is : (tree : Tree) (records : List Record) (octets : List ℕ) → SameMembers (leaves tree) (keyed records) → AreMerged tree octets
    → PartOf octets (groups_of (keyed records))
merged_is tree records octets same is = subst (PartOf octets) (merged_same tree (Leaf (keyed records)) same) (merged_part tree octets is)

-- the groups of the records of a part are those that it is the part of
pub printed_same : (part : List ℕ) (records all : List Record) → PartOf part (groups_of (keyed all)) → IsPart part records
    → groups_of (keyed records) ≡ groups_of (keyed all)
printed_same part records all of is =
    let kept : keyed records ≡ kept_of (keyed all) = pairs_of part records (groups_of (keyed all)) is of ∙ pairs_groups (keyed all) in
    let again : kept_of (keyed records) ≡ keyed records = ap kept_of kept ∙ kept_again (keyed all) ∙ sym kept in
    groups_same part (keyed records) (keyed all)
    (record { records = records; part = is; same = sym again ∙ sym (pairs_groups (keyed records)) }) of
