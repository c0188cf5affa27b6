-- What the verdict says of the packets of both captures, and the text of REPORT.
use Rattle.std.specs.Prelude.{◌≡◌, ◌↔◌, ℕ, ◌-◌, ◌≤◌, List, [], length, take}
use Rattle.std.specs.List.{AllByRecursion}
use Rattle.ioam_pcap.specs.Entries.{Taken}
use Rattle.ioam_run_audit.specs.Fates.{IsSentOn}
use Rattle.ioam_run_audit.specs.Fit.{CameFrom, IsFit, Place}
use Rattle.ioam_run_audit.specs.Lines.{BecomeOf, Verdict, No, Yes, report_of, verdict_line}
use Rattle.ioam_run_audit.specs.declared.fate.Fate.{Fate}

module _ (place : Place) (before after : List Taken) where
  -- the packet of AFTER with this number, from 1, is the first that is left: a strictly increasing map takes each packet in front
  -- of it to one of BEFORE that the node can have sent on as it, and none does so with this packet
  pub record IsFirstLeft (number : ℕ) : Type 0 where
    pub some : 1 ≤ number
    pub inside : number ≤ length after
    pub sent : IsSentOn (CameFrom place) before (take (number - 1) after)
    pub left : IsSentOn (CameFrom place) before (take number after) → ⊥

  -- Yes exactly where none of the reasons applies to a packet of AFTER, and a strictly increasing map takes each of them to a
  -- packet of BEFORE that the node can have sent on as it; else the number of the first that is left.
  pub record IsVerdict (verdict : Verdict) : Type 0 where
    pub yes : (verdict ≡ Yes) ↔ (AllByRecursion IsFit after × IsSentOn (CameFrom place) before after)
    pub no : (number : ℕ) → verdict ≡ No number → IsFirstLeft number

  -- no verdict stands behind the sums
  abbrev pub NoVerdict : List ℕ → Type 0
  NoVerdict behind = behind ≡ []

  -- the verdict on these packets does
  abbrev pub HasVerdict : List ℕ → Type 0
  HasVerdict behind = (verdict : Verdict) × IsVerdict verdict × (behind ≡ verdict_line verdict)

  -- the text has the line of each packet of BEFORE, the sums, and this behind them; nothing else becomes of these packets
  pub record IsReport (behind text : List ℕ) : Type 0 where
    pub fates : List Fate
    pub rest : List Taken
    pub become : BecomeOf place before after fates rest
    pub only : (others : List Fate) (left : List Taken) → BecomeOf place before after others left → others ≡ fates
    pub text_is : text ≡ report_of fates behind
