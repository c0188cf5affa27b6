-- Keys of needed numbers, a row each.
use Rattle.std.specs.Prelude.{ℕ, List, [], ◌∷◌, ◌++◌, slice_index_or, Result, Ok}
use Rattle.toml.specs.Data.{Members, get_member}
use Rattle.ioam_topo_values.specs.declared.why.Why.{Why}
use Rattle.ioam_topo_values.specs.Reads.{◌▷◌, needed}
use Rattle.ioam_topo_values.specs.Numbers.{number}
use Rattle.ioam_topo_entries.specs.declared.words.Table.{Table}
use Rattle.ioam_topo_entries.specs.declared.fault.DomainFault.{DomainFault}
use Rattle.ioam_topo_entries.specs.Faults.{at}

-- a key, with the least and the greatest number that may stand there
pub record NumberRow : Type 0 where
  pub key : List ℕ
  pub least : ℕ
  pub most : ℕ

-- the row of these
abbrev pub row : List ℕ → ℕ → ℕ → NumberRow
row key least most = record { key = key; least = least; most = most }

-- the key of a row
abbrev pub row_key : NumberRow → List ℕ
row_key r = r.key

-- the number at the key of a row
abbrev pub row_number : NumberRow → Members → Result ℕ Why
row_number r m = needed (number r.least r.most) (get_member r.key m)

-- the numbers at the keys of rows, in order; else the first reason why there are none
abbrev pub row_numbers : List NumberRow → Members → Result (List ℕ) Why
row_numbers [] m = Ok []
row_numbers (r ∷ rows) m = row_number r m ▷ (λ n. row_numbers rows m ▷ (λ ns. Ok (n ∷ ns)))

-- the faults of these keys
abbrev pub row_faults : Table → ℕ → List NumberRow → Members → List DomainFault
row_faults table place [] m = []
row_faults table place (r ∷ rows) m = at table place r.key (row_number r m) ++ row_faults table place rows m

-- the number of the row at an index
abbrev pub nth : List ℕ → ℕ → ℕ
nth numbers i = slice_index_or numbers i 0
