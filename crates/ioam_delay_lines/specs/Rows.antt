-- The lines of namespaces, ways, hops and nodes.
use Rattle.std.specs.Prelude.{ℕ, ℤ, pos, List, ◌++◌, codes, decimal, Option, Some, None}
use Rattle.std.specs.Fmt.{signed_decimal}
use Rattle.std.specs.Int.{int_div_euclid}
use Rattle.ioam_delays.specs.Counters.{percentile_of}
use Rattle.ioam_delays.specs.declared.counter.Counter.{Counter}
use Rattle.ioam_delay_counts.specs.declared.filled.Filled.{Filled}
use Rattle.ioam_delay_counts.specs.declared.keys.NodeKey.{NodeKey}
use Rattle.ioam_delay_counts.specs.declared.keys.SpaceKey.{SpaceKey}
use Rattle.ioam_delay_counts.specs.declared.keys.WayKey.{WayKey}
use Rattle.ioam_delay_counts.specs.declared.passed.Passed.{Passed}
use Rattle.ioam_delay_counts.specs.declared.seen.Seen.{Seen}
use Rattle.ioam_delay_lines.specs.Shares.{share_text}
use Rattle.ioam_delay_lines.specs.Words.{node_text, way_text}

-- the mean, rounded down
abbrev pub mean_of : Counter → ℤ
mean_of counter = int_div_euclid counter.sum (pos counter.count)

-- the least delay, the greatest, the mean, and a percentile
abbrev pub least_text : Counter → List ℕ
least_text counter = codes " least " ++ signed_decimal counter.least

abbrev pub most_text : Counter → List ℕ
most_text counter = codes " most " ++ signed_decimal counter.most

abbrev pub mean_text : Counter → List ℕ
mean_text counter = codes " mean " ++ signed_decimal (mean_of counter)

abbrev pub percentile_text : List ℕ → Counter → ℕ → List ℕ
percentile_text label counter per = label ++ signed_decimal (percentile_of counter per)

-- the three percentiles
abbrev pub percentiles_text : Counter → List ℕ
percentiles_text counter = percentile_text (codes " p50 ") counter 50 ++ percentile_text (codes " p90 ") counter 90
    ++ percentile_text (codes " p99 ") counter 99

-- how many are below 0, and the end of the line
abbrev pub negative_text : Counter → List ℕ
negative_text counter = codes " negative " ++ decimal counter.negative ++ codes "\n"

-- what is said of delays
abbrev pub counter_text : Counter → List ℕ
counter_text counter = codes " delays " ++ decimal counter.count ++ least_text counter ++ percentiles_text counter ++ most_text counter
    ++ mean_text counter ++ negative_text counter

abbrev pub delays_text : Option Counter → List ℕ
delays_text None = codes " delays 0\n"
delays_text (Some counter) = counter_text counter

-- what is said of the delays of a way
abbrev pub counter_ends : Counter → List ℕ
counter_ends counter = codes " delays " ++ decimal counter.count ++ least_text counter ++ mean_text counter ++ most_text counter ++ codes "\n"

abbrev pub ends_text : Option Counter → List ℕ
ends_text None = codes " delays 0\n"
ends_text (Some counter) = counter_ends counter

-- the line of a namespace
abbrev pub space_row : SpaceKey → Filled → List ℕ
space_row key filled = codes "namespace " ++ decimal key.0 ++ codes " traces " ++ decimal filled.count
    ++ codes " overflow " ++ decimal filled.overflow ++ codes " empty " ++ decimal filled.empty ++ codes "\n"

-- the line of a node
abbrev pub node_row : NodeKey → Seen → List ℕ
node_row key seen = codes "  node " ++ node_text key.node ++ codes " seen " ++ decimal seen.count ++ codes " stamped " ++ decimal seen.stamped
    ++ codes " bad " ++ decimal seen.bad ++ codes " long " ++ decimal seen.long ++ delays_text seen.delays

-- the line of a way, of so many traces of its namespace
abbrev pub way_row : ℕ → WayKey → Passed → List ℕ
way_row traces key passed = codes "  way" ++ way_text key ++ codes " count " ++ decimal passed.count ++ codes " share " ++ share_text passed.count traces
    ++ ends_text passed.delays
