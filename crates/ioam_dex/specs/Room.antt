-- Room for export records as its callers see it.
use Rattle.std.specs.Prelude.{ℕ, ◌-◌, List, ◌++◌, length}

-- the octets that it holds, how many more it has room for, and how many its memory has places for
pub record Room : Type 0 where
  pub octets : List ℕ
  pub spare : ℕ
  pub capacity : ℕ

-- the room with these octets more, in the same memory
abbrev pub appended : Room → List ℕ → Room
appended room octets = record room { octets = room.octets ++ octets; spare = room.spare - length octets }
