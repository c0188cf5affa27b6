-- The text of REPORT.
use Rattle.std.specs.Prelude.{ℕ, ◌+◌, List, [], ◌∷◌, ◌++◌, Option, Some, None, codes, decimal}
use Rattle.ioam_pcap.specs.Entries.{Taken}
use Rattle.ioam_report.specs.RunText.{reason_name}
use Rattle.ioam_run_audit.specs.Fates.{AreFates}
use Rattle.ioam_run_audit.specs.Fit.{CameFrom, HasReason, IsFit, Place}
use Rattle.ioam_run_audit.specs.declared.fate.Fate.{Fate}
use Rattle.ioam_run_audit.specs.declared.fate.Fate.TheVariants.{Sent, Gone, Skipped}

-- ---- a line for each packet of BEFORE, by its number

-- the line of a packet of BEFORE that was sent on, as the packet of AFTER with the second number
abbrev pub sent_line : ℕ → ℕ → List ℕ
sent_line number sent = decimal number ++ codes " sent " ++ decimal sent ++ codes "\n"

-- the line of a packet of BEFORE that is gone
abbrev pub gone_line : ℕ → List ℕ
gone_line number = decimal number ++ codes " gone\n"

-- by the name of the reason
abbrev pub skip_line : ℕ → List ℕ → List ℕ
skip_line number name = decimal number ++ codes " skip " ++ name ++ codes "\n"

-- `N sent M`, `N gone` or `N skip REASON`
abbrev pub line_of : ℕ → Fate → List ℕ
line_of number (Sent m) = sent_line number m
line_of number Gone = gone_line number
line_of number (Skipped why) = skip_line number (reason_name why)

-- of packets that are counted from a number
abbrev pub lines_of : ℕ → List Fate → List ℕ
lines_of number [] = []
lines_of number (fate ∷ fates) = line_of number fate ++ lines_of (number + 1) fates

-- ---- how many there are of each

-- how many packets were sent on, are gone and were skipped
pub record Sums : Type 0 where
  pub sent : ℕ
  pub gone : ℕ
  pub skipped : ℕ

-- the line of these sums, the number of all packets first
abbrev pub sums_line : Sums → List ℕ
sums_line sums = codes "packets " ++ decimal (sums.sent + sums.gone + sums.skipped) ++ codes " sent " ++ decimal sums.sent
    ++ codes " gone " ++ decimal sums.gone ++ codes " skipped " ++ decimal sums.skipped ++ codes "\n"

-- the sums with one packet more, of which this became
abbrev pub with_fate : Fate → Sums → Sums
with_fate (Sent m) sums = record { sent = sums.sent + 1; gone = sums.gone; skipped = sums.skipped }
with_fate Gone sums = record { sent = sums.sent; gone = sums.gone + 1; skipped = sums.skipped }
with_fate (Skipped why) sums = record { sent = sums.sent; gone = sums.gone; skipped = sums.skipped + 1 }

-- the sums of what became of packets
abbrev pub sums_of : List Fate → Sums
sums_of [] = record { sent = 0; gone = 0; skipped = 0 }
sums_of (fate ∷ fates) = with_fate fate (sums_of fates)

-- ---- whether each packet of AFTER is one of BEFORE

-- whether each packet of AFTER is one of BEFORE that the node can have sent on
pub data Verdict : Type 0 where
  Yes : Verdict
  -- the first packet of AFTER that is left has this number
  No : ℕ → Verdict

-- the line of the verdict
abbrev pub verdict_line : Verdict → List ℕ
verdict_line Yes = codes "verdict yes\n"
verdict_line (No number) = codes "verdict no " ++ decimal number ++ codes "\n"

-- whether none of AFTER is left, or the number of the first that is, behind so many that were taken
abbrev pub verdict_of : List Taken → ℕ → Verdict
verdict_of [] sent = Yes
verdict_of (t ∷ rest) sent = No (sent + 1)

-- ---- what becomes of the packets of BEFORE, by those of AFTER

-- what becomes of the packets of BEFORE by those of AFTER, numbered from 1, where the node can have sent them on so, and
-- which of AFTER are left
abbrev pub BecomeOf : Place → List Taken → List Taken → List Fate → List Taken → Type 0
BecomeOf place before after fates rest = AreFates HasReason IsFit (CameFrom place) 1 before after fates rest

-- the lines of the packets of BEFORE, their sums, and this behind them
abbrev pub report_of : List Fate → List ℕ → List ℕ
report_of fates behind = lines_of 1 fates ++ (sums_line (sums_of fates) ++ behind)

-- the verdict, by the number of the first packet of AFTER that is left
abbrev pub verdict_as : Option ℕ → Verdict
verdict_as None = Yes
verdict_as (Some number) = No number
