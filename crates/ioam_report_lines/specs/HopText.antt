-- How the traces are listed that nodes on the way of a packet fill: those in the Hop-by-Hop Options header behind its outer
-- header whose option type says that their data changes en route (RFC 9486 section 3).
use Rattle.std.specs.Prelude.{ℕ, ◌==◌, ◌&&◌, Bool, List, filter}
use Rattle.std.specs.List.{flat_map}
use Rattle.ioam_data.specs.OptionType.{holds_trace}
use Rattle.ioam_ip.specs.Hop.{hop_options}
use Rattle.ioam_ip.specs.Options.{Item}
use Rattle.ioam_report_lines.specs.TracesText.{option_lines}

-- a pre-allocated trace of type 0x31
abbrev pub is_changing_trace : Item → Bool
is_changing_trace item = (item.kind == 0x31) && holds_trace item.body

-- the lines of those among options
abbrev pub changing_lines : List Item → List ℕ
changing_lines items = flat_map option_lines (filter is_changing_trace items)

-- the lines of those of a packet, in order
abbrev pub hop_traces_text : List ℕ → List ℕ
hop_traces_text packet = changing_lines (hop_options packet)
