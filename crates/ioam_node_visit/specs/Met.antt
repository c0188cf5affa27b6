-- What an option of a Hop-by-Hop Options header is to a node that visits the packet (RFC 9486 section 3): its
-- data begin with a reserved octet and the IOAM-Option-Type.
use Rattle.std.specs.Prelude.{ℕ, ◌==◌, nat_le, if◌then◌else◌, List, length, slice_index}
use Rattle.ioam_ip.specs.Findings.{is_ioam_type}
use Rattle.ioam_node_visit.specs.declared.met.Met.{Met}
use Rattle.ioam_node_visit.specs.declared.met.Met.TheVariants.{Cut, Trace, Direct, Other}

-- by the option's type and the IOAM-Option-Type: a pre-allocated trace, 0, that may change on the way, 0x31; direct
-- export, 4, of either type
abbrev pub met_by : ℕ → ℕ → Met
met_by kind type = if type == 0 then (if kind == 0x31 then Trace else Other) else (if type == 4 then Direct else Other)

-- by the option's type and its data
unfoldable pub met_of : ℕ → List ℕ → Met
met_of kind body = if is_ioam_type kind then (if nat_le 2 (length body) then met_by kind (slice_index body 1) else Cut) else Other
