-- What becomes of records that collectors keep apart: each a part of its own, and these merged two by two.
use Rattle.std.specs.Prelude.{ℕ, List}
use Rattle.ioam_run_collect.specs.Best.{groups_of}
use Rattle.ioam_run_collect.specs.Join.{Tree, Leaf, Join}
use Rattle.ioam_run_answer.specs.Part.{JoinsTo, PartOf}

-- The octets are what parts are merged to in this tree: each leaf is the part of some records, as `part` writes it, and each
-- branch what `merge` makes of two.
abbrev pub AreMerged : Tree → List ℕ → Type 0
AreMerged (Leaf ps) octets = PartOf octets (groups_of ps)
AreMerged (Join one two) octets = (first : List ℕ) × (second : List ℕ) × AreMerged one first × AreMerged two second × JoinsTo first second octets
