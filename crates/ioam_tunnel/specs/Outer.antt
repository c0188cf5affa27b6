-- An outer packet as it is written.
use Rattle.std.specs.Prelude.{ℕ, ◌-◌, List, [], ◌++◌, length, take, drop}
use Rattle.ioam_ip.specs.Laid.{Part, laid_with}

-- what stands in front of the options header that is laid out now, that header as far as it is, and how many octets it
-- may come to
pub record Writing : Type 0 where
  pub front : List ℕ
  pub laid : List ℕ
  pub most : ℕ

-- of octets that are all there: a header is laid out between these two places, and may come to the octets' end
abbrev pub writing_of : List ℕ → ℕ → ℕ → Writing
writing_of octets start end = record { front = take start octets; laid = drop start (take end octets); most = length octets - start }

-- with these octets behind what is laid out
abbrev pub more : Writing → List ℕ → Writing
more writing part = record { front = writing.front; laid = writing.laid ++ part; most = writing.most }

-- with these options behind what is laid out
abbrev pub with_parts : Writing → List Part → Writing
with_parts writing parts = record { front = writing.front; laid = laid_with writing.laid parts; most = writing.most }

-- with this header behind what stands in front, and nothing laid out of the next one
abbrev pub behind : Writing → List ℕ → Writing
behind writing header = record { front = writing.front ++ header; laid = []; most = writing.most - length header }
