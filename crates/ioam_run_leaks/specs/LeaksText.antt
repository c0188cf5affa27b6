-- What `leaks` writes: the capture of the packets that leak, and the report.
use Rattle.std.specs.Prelude.{◌≡◌, ℕ, ◌+◌, List, [], ◌∷◌, ◌++◌, Bool, true, false, ◌==◌, if◌then◌else◌, codes, decimal, slice_range}
use Rattle.std.specs.Int.{w128, from_be_bytes}
use Rattle.ioam_leaks.specs.declared.finding.Finding.TheVariants.{Clean, Leaks, Hides}
use Rattle.ioam_leaks.specs.declared.finding.Hidden.{Hidden}
use Rattle.ioam_leaks.specs.declared.finding.Hidden.TheVariants.{Esp, Ah, Fragment, Chain}
use Rattle.ioam_leaks.specs.declared.finding.Leak.{Leak}
use Rattle.ioam_leaks.specs.declared.finding.Leak.TheVariants.{Carries, Quotes}
use Rattle.ioam_leak_flows.specs.Lines.{address_text, flows_text, leak_name}
use Rattle.ioam_leak_flows.specs.Tally.{tally}
use Rattle.ioam_leak_flows.specs.declared.flow.Flow.{Flow}
use Rattle.ioam_pcap.specs.Entries.{Taken}
use Rattle.ioam_pcap.specs.Text.{Sent, capture_text}
use Rattle.ioam_run_leaks.specs.Counting.{all_of, counts_of, unseen_of}
use Rattle.ioam_run_leaks.specs.Observation.{Observation, Sees, Misses, ShowAll}
use Rattle.ioam_run_leaks.specs.declared.counts.Counts.{Counts}

-- whether a packet leaks by what it quotes
abbrev pub is_quoted : Leak → Bool
is_quoted Carries = false
is_quoted Quotes = true

-- the addresses of a packet (RFC 8200 section 3), and how it leaks
abbrev pub flow_of : List ℕ → Leak → Flow
flow_of packet how = record {
  source = from_be_bytes w128 (slice_range packet 8 24);
  target = from_be_bytes w128 (slice_range packet 24 40);
  quotes = is_quoted how;
}

-- the flows of the packets that leak, in their order
abbrev pub flows_of : List Observation → List Flow
flows_of [] = []
flows_of (Sees packet (Leaks how) ∷ seen) = flow_of packet how ∷ flows_of seen
flows_of (o ∷ seen) = flows_of seen

-- the packets that leak, each with its time, in order
abbrev pub leaking_of : List Taken → List Observation → List Sent
leaking_of [] seen = []
leaking_of (t ∷ ts) [] = []
leaking_of (t ∷ ts) (Sees packet (Leaks how) ∷ seen) = record { time = t.entry.time; octets = packet } ∷ leaking_of ts seen
leaking_of (t ∷ ts) (o ∷ seen) = leaking_of ts seen

-- ` S T`, and the end of the line
abbrev pub addresses_text : Flow → List ℕ
addresses_text flow = codes " " ++ address_text flow.source ++ codes " " ++ address_text flow.target ++ codes "\n"

-- the line of a packet that leaks
abbrev pub leak_line : ℕ → Flow → List ℕ
leak_line number flow = decimal number ++ codes " " ++ leak_name flow.quotes ++ addresses_text flow

-- why not all of a packet can be seen
abbrev pub hidden_name : Hidden → List ℕ
hidden_name Esp = codes "esp"
hidden_name Ah = codes "ah"
hidden_name Fragment = codes "fragment"
hidden_name Chain = codes "chain"

-- the line of a packet that hides something
abbrev pub hidden_line : ℕ → Hidden → Flow → List ℕ
hidden_line number why flow = decimal number ++ codes " hidden " ++ hidden_name why ++ addresses_text flow

-- the line of a record; a clean packet has none, and neither has a record that wasn't looked into
abbrev pub found_line : ℕ → Observation → List ℕ
found_line number (Sees packet Clean) = []
found_line number (Sees packet (Leaks how)) = leak_line number (flow_of packet how)
found_line number (Sees packet (Hides why)) = hidden_line number why (flow_of packet Carries)
found_line number (Misses why) = []

-- the lines of records, counted from a number
abbrev pub found_lines : ℕ → List Observation → List ℕ
found_lines number [] = []
found_lines number (o ∷ seen) = found_line number o ++ found_lines (number + 1) seen

-- how many records weren't looked into for a reason, if there are some
abbrev pub unseen_line : ℕ → List ℕ → List ℕ
unseen_line count reason = if count == 0 then [] else codes "unseen " ++ decimal count ++ codes " " ++ reason ++ codes "\n"

abbrev pub unseen_lines : Counts → List ℕ
unseen_lines counts = unseen_line counts.not_ipv6 (codes "not-ipv6") ++ unseen_line counts.cut (codes "cut") ++ unseen_line counts.length (codes "length")

-- the last line
abbrev pub sums_line : Counts → List ℕ
sums_line counts = codes "packets " ++ decimal (all_of counts) ++ codes " clean " ++ decimal counts.clean ++ codes " carries " ++ decimal counts.carries
    ++ codes " quotes " ++ decimal counts.quotes ++ codes " hidden " ++ decimal counts.hidden ++ codes " unseen " ++ decimal (unseen_of counts) ++ codes "\n"

-- what follows the lines of records, by how many there were of each kind and by how many of the leaking ones are of each flow
abbrev pub totals_text : Counts → List (Flow × ℕ) → List ℕ
totals_text counts rows = flows_text (counts.carries + counts.quotes) rows ++ unseen_lines counts ++ sums_line counts

-- these are the capture of the packets that leak and the report, of these records, which show nothing else
pub record Leaked (taken : List Taken) (out report : List ℕ) : Type 0 where
  pub seen : List Observation
  pub are : ShowAll taken seen
  pub only : (others : List Observation) → ShowAll taken others → others ≡ seen
  pub out_is : out ≡ capture_text (leaking_of taken seen)
  pub report_is : report ≡ found_lines 1 seen ++ totals_text (counts_of seen) (tally (flows_of seen))

-- OUT and REPORT
abbrev pub LeaksTexts : List Taken → List (List ℕ) → Type 0
LeaksTexts taken [] = ⊥
LeaksTexts taken (out ∷ []) = ⊥
LeaksTexts taken (out ∷ report ∷ []) = Leaked taken out report
LeaksTexts taken (out ∷ report ∷ more ∷ texts) = ⊥
