-- The files that the words of the commands name.
use Rattle.std.specs.Prelude.{◌≡◌, ◌≢◌, ℕ, ◌⊎◌, List}
use Rattle.ioam_collect_stream.specs.Names.{name_at}

-- those of `part EXPORTS PART`
pub record PartNames : Type 0 where
  pub exports : List ℕ
  pub part : List ℕ

-- those of `merge ONE TWO PART`
pub record MergeNames : Type 0 where
  pub one : List ℕ
  pub two : List ℕ
  pub part : List ℕ

-- those of `parts PART REPORT`
pub record PartsNames : Type 0 where
  pub part : List ℕ
  pub report : List ℕ

-- they stand behind the command's own name
abbrev pub part_names : List (List ℕ) → PartNames
part_names words = record { exports = name_at words 1; part = name_at words 2 }

-- likewise the files of `merge`
abbrev pub merge_names : List (List ℕ) → MergeNames
merge_names words = record { one = name_at words 1; two = name_at words 2; part = name_at words 3 }

-- likewise the files of `parts`
abbrev pub parts_names : List (List ℕ) → PartsNames
parts_names words = record { part = name_at words 1; report = name_at words 2 }

-- no two of the three files of `merge` have one name
pub record AreApart (one two part : List ℕ) : Type 0 where
  pub inputs : one ≢ two
  pub first : one ≢ part
  pub second : two ≢ part

-- the first of these names, in their order, that equals an earlier one
abbrev pub IsRepeat : List ℕ → List ℕ → List ℕ → List ℕ → Type 0
IsRepeat one two part name = ((one ≡ two) × (name ≡ two)) ⊎ ((one ≢ two) × ((one ≡ part) ⊎ (two ≡ part)) × (name ≡ part))
