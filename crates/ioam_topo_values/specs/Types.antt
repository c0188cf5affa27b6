-- Numbers of which only some bits are allowed: the types of traces, of direct exports and of edge-to-edge options.
use Rattle.std.specs.Prelude.{ℕ, Bool, Result, Ok, Err, if◌then◌else◌}
use Rattle.toml.specs.Data.{Data}
use Rattle.ioam_data.specs.Kind.{is_entry_type}
use Rattle.ioam_topo.specs.Types.{is_direct_type, is_edge_type}
use Rattle.ioam_topo_values.specs.declared.why.Why.{Why}
use Rattle.ioam_topo_values.specs.declared.why.Why.TheVariants.{Range}
use Rattle.ioam_topo_values.specs.Reads.{◌▷◌}
use Rattle.ioam_topo_values.specs.Numbers.{number}

-- a number that passes a test
abbrev pub passing : (ℕ → Bool) → ℕ → Result ℕ Why
passing test n = if test n then Ok n else Err Range

-- 24 bits, of which only 0 to 11 and 22 are set, and one of them at least
abbrev pub trace_type : Data → Result ℕ Why
trace_type d = number 0 16777215 d ▷ passing is_entry_type

-- the same of direct exports
abbrev pub direct_type : Data → Result ℕ Why
direct_type d = number 0 16777215 d ▷ passing is_direct_type

-- at least one of the four highest of 16 bits, and not both of the two sequence numbers
abbrev pub edge_type : Data → Result ℕ Why
edge_type d = number 1 65535 d ▷ passing is_edge_type
