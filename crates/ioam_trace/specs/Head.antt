-- The eight octets of a trace header (RFC 9197 section 4.4.1): Namespace-ID 16 bits, NodeLen 5, Flags 4,
-- RemainingLen 7, IOAM-Trace-Type 24, Reserved 8.
use Rattle.std.specs.Prelude.{ℕ, ◌/◌, ◌%◌, List}
use Rattle.ioam_base.specs.Octets.{u16_at, u24_at}

-- NodeLen: the words that a node adds, the snapshot not counted
abbrev pub node_len_of : List ℕ → ℕ
node_len_of octets = u16_at octets 2 / 2048

-- the four flags, Overflow the most significant
abbrev pub flags_of : List ℕ → ℕ
flags_of octets = u16_at octets 2 / 128 % 16

-- the Overflow flag, 1 where it is set
abbrev pub overflow_of : List ℕ → ℕ
overflow_of octets = u16_at octets 2 / 1024 % 2

-- RemainingLen: the free words
abbrev pub remaining_of : List ℕ → ℕ
remaining_of octets = u16_at octets 2 % 128

-- the IOAM-Trace-Type
abbrev pub kind_of : List ℕ → ℕ
kind_of octets = u24_at octets 4
