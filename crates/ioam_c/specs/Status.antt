-- What a call answers, by the numbers of `enum ioam_status` in include/ioam.h.
use Rattle.std.specs.Prelude.{ℕ}
use Rattle.ioam_trace.specs.declared.addition.Filled.{Filled}
use Rattle.ioam_trace.specs.declared.addition.Filled.TheVariants.{Added, Overflowed, AlreadyOver, Unsuited}
use Rattle.ioam_trace.specs.declared.fault.TraceFault.{TraceFault}
use Rattle.ioam_trace.specs.declared.fault.TraceFault.TheVariants.{Short, Space, NodeLen, Element}

-- what was asked for is there, or was done
abbrev pub ok : ℕ
ok = 0

-- nothing is left to give
abbrev pub at_end : ℕ
at_end = 1

-- a packet isn't IPv6
abbrev pub not_ipv6 : ℕ
not_ipv6 = 2

-- it is shorter than its header states
abbrev pub wrong_length : ℕ
wrong_length = 3

-- a header breaks its chain
abbrev pub broken_chain : ℕ
broken_chain = 4

-- the octets are too few
abbrev pub too_short : ℕ
too_short = 5

-- the octets are not one export record
abbrev pub no_record : ℕ
no_record = 9

-- a number of a view exceeds its limit
abbrev pub bad_view : ℕ
bad_view = 10

-- why octets are no trace
abbrev pub fault_status : TraceFault → ℕ
fault_status (Short have) = 5
fault_status (Space remaining) = 6
fault_status (NodeLen found wanted) = 7
fault_status (Element at) = 8

-- what a node did to a trace
abbrev pub filled_status : Filled → ℕ
filled_status (Added amount) = 0
filled_status Overflowed = 11
filled_status AlreadyOver = 12
filled_status Unsuited = 13
