-- The lines of flows.
use Rattle.std.specs.Prelude.{ℕ, ◌-◌, List, [], ◌++◌, Bool, ◌==◌, if◌then◌else◌, codes, decimal, flat_map, take}
use Rattle.std.specs.List.{sum_by}
use Rattle.std.specs.Int.{w128, to_be_bytes}
use Rattle.std.specs.Net.Addr.{segments_of}
use Rattle.std.specs.Net.Text.{ipv6_text}
use Rattle.ioam_leak_flows.specs.Ranking.{ranked}
use Rattle.ioam_leak_flows.specs.declared.flow.Flow.{Flow}

-- the word for how packets leak
abbrev pub leak_name : Bool → List ℕ
leak_name quotes = if quotes then codes "quotes" else codes "carries"

-- the text of an address of 128 bits (RFC 5952)
abbrev pub address_text : ℕ → List ℕ
address_text address = ipv6_text (segments_of (to_be_bytes w128 address))

-- the line of a flow
abbrev pub flow_line : Flow × ℕ → List ℕ
flow_line row = codes "flow " ++ decimal row.1 ++ codes " " ++ leak_name row.0.quotes ++ codes " " ++ address_text row.0.source
    ++ codes " " ++ address_text row.0.target ++ codes "\n"

-- the line of all others, if there are some
abbrev pub others_line : ℕ → List ℕ
others_line count = if count == 0 then [] else codes "flows others " ++ decimal count ++ codes "\n"

-- how many packets are of none of these flows
abbrev pub rest_of : ℕ → List (Flow × ℕ) → ℕ
rest_of leaks rows = leaks - sum_by (λ row. row.1) rows

-- the lines of the first 64 flows, and of all others: the flows that are counted, with how many packets are of each, and how many
-- packets there are
abbrev pub flows_text : ℕ → List (Flow × ℕ) → List ℕ
flows_text leaks rows = flat_map flow_line (take 64 (ranked rows)) ++ others_line (rest_of leaks (take 64 (ranked rows)))
