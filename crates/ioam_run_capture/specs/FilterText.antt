-- What `filter` writes: the capture of the packets that it keeps, and the report.
use Rattle.std.specs.Prelude.{◌≡◌, ℕ, ◌+◌, List, [], ◌∷◌, ◌++◌, codes, decimal}
use Rattle.ioam_pcap.specs.Entries.{Taken}
use Rattle.ioam_pcap.specs.Text.{Sent, capture_text}
use Rattle.ioam_report.specs.RunText.{reason_name}
use Rattle.ioam_run_capture.specs.Verdict.{Verdict, Keeps, Drops, AreVerdicts}

-- the kept packets, each with its time, in order
abbrev pub kept_of : List Taken → List Verdict → List Sent
kept_of [] vs = []
kept_of (t ∷ ts) [] = []
kept_of (t ∷ ts) (Keeps packet ∷ vs) = record { time = t.entry.time; octets = packet } ∷ kept_of ts vs
kept_of (t ∷ ts) (Drops reason ∷ vs) = kept_of ts vs

-- the line of a packet: that it is kept, or the reason why it is dropped
abbrev pub verdict_line : ℕ → Verdict → List ℕ
verdict_line number (Keeps packet) = decimal number ++ codes " kept\n"
verdict_line number (Drops reason) = decimal number ++ codes " drop " ++ reason_name reason ++ codes "\n"

-- a line for each packet, counted from a number
abbrev pub verdict_lines : ℕ → List Verdict → List ℕ
verdict_lines number [] = []
verdict_lines number (v ∷ vs) = verdict_line number v ++ verdict_lines (number + 1) vs

-- how many of these are kept
abbrev pub count_kept : List Verdict → ℕ
count_kept [] = 0
count_kept (Keeps packet ∷ vs) = 1 + count_kept vs
count_kept (Drops reason ∷ vs) = count_kept vs

-- how many of these are dropped
abbrev pub count_dropped : List Verdict → ℕ
count_dropped [] = 0
count_dropped (Keeps packet ∷ vs) = count_dropped vs
count_dropped (Drops reason ∷ vs) = 1 + count_dropped vs

-- the last line: how many packets there were, how many were kept and how many dropped
abbrev pub sums_line : ℕ → ℕ → List ℕ
sums_line kept dropped = codes "packets " ++ decimal (kept + dropped) ++ codes " kept " ++ decimal kept
    ++ codes " dropped " ++ decimal dropped ++ codes "\n"

-- the report: a line for each packet, numbered from 1, and the sums
abbrev pub report_text : List Verdict → List ℕ
report_text vs = verdict_lines 1 vs ++ sums_line (count_kept vs) (count_dropped vs)

-- these are the capture of the kept packets and the report, of these records, which have no other verdicts
pub record Filtered (taken : List Taken) (out report : List ℕ) : Type 0 where
  pub verdicts : List Verdict
  pub are : AreVerdicts taken verdicts
  pub only : (others : List Verdict) → AreVerdicts taken others → others ≡ verdicts
  pub out_is : out ≡ capture_text (kept_of taken verdicts)
  pub report_is : report ≡ report_text verdicts

-- OUT and REPORT
abbrev pub FilterTexts : List Taken → List (List ℕ) → Type 0
FilterTexts taken [] = ⊥
FilterTexts taken (out ∷ []) = ⊥
FilterTexts taken (out ∷ report ∷ []) = Filtered taken out report
FilterTexts taken (out ∷ report ∷ more ∷ texts) = ⊥
