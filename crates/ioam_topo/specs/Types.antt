-- The types that direct exports and edge-to-edge options may have.
use Rattle.std.specs.Prelude.{ℕ, ◌/◌, ◌%◌, Bool, not, ◌==◌, ◌&&◌, ◌||◌}
use Rattle.ioam_data.specs.Kind.{has, is_entry_type}

-- a type of traces without bit 7, and with a hop limit (bit 0 or 8), by which exports of one packet are put in order
abbrev pub is_direct_type : ℕ → Bool
is_direct_type kind = is_entry_type kind && (not (has kind 7) && (has kind 0 || has kind 8))

-- only the four highest of 16 bits, and not both of the two sequence numbers
abbrev pub is_edge_type : ℕ → Bool
is_edge_type kind = (kind % 4096 == 0) && not (kind / 16384 == 3)
