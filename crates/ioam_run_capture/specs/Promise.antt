-- What each of the commands over one capture promises. The promise that they share stands in ioam_run_stream, where `Texts`
-- is what the command's outputs hold: PathsText and ShowText (REPORT), FilterText (OUT and REPORT), SaveText (OUT).
use Rattle.std.specs.Prelude.{◌<◌, IsTrue, IsSomeAnd}
use Rattle.ioam_desk.specs.Desk.{holds}
use Rattle.ioam_desk_outputs.specs.Names.{name_at}
use Rattle.ioam_ip.specs.Clean.{MayLeave}
use Rattle.ioam_pcap.specs.Text.{IsCaptureOf}
use Rattle.ioam_run_answer.specs.Desks.{Desks}
use Rattle.ioam_run_answer.specs.Outcomes.{IsBehindAll, IsDone}
use Rattle.ioam_run_answer.specs.declared.outcome.Outcome.{Outcome}
use Rattle.ioam_run_capture.specs.FilterText.{FilterTexts}
use Rattle.ioam_run_capture.specs.PathsText.{PathsTexts}
use Rattle.ioam_run_capture.specs.SaveText.{SaveTexts, SavesAll}
use Rattle.ioam_run_capture.specs.ShowText.{ShowTexts}
use Rattle.ioam_run_stream.specs.Promise.{CaptureNames, Keeps}

-- REPORT of `paths`, and that of `show`
abbrev pub PathsKeeps : Desks → CaptureNames → Outcome → Type 0
PathsKeeps = Keeps PathsTexts

-- what `show` promises of its answer: REPORT lists the IOAM options of each packet
abbrev pub ShowKeeps : Desks → CaptureNames → Outcome → Type 0
ShowKeeps = Keeps ShowTexts

-- OUT and REPORT of `filter`
pub record FilterKeeps (desks : Desks) (files : CaptureNames) (answer : Outcome) : Type 0 where
  pub keeps : Keeps FilterTexts desks files answer
  -- once the outputs were written OUT is a capture of IPv6 packets, each with a whole header chain without an IOAM option and
  -- of at most 262,144 octets
  pub boundary : IsBehindAll (desks.old_in.side.slots < desks.new_in.side.slots) answer → IsTrue desks.tells
      → IsSomeAnd (holds desks.new (name_at files.outputs 0)) (IsCaptureOf MayLeave)

-- OUT of `save`
pub record SaveKeeps (desks : Desks) (files : CaptureNames) (answer : Outcome) : Type 0 where
  pub keeps : Keeps SaveTexts desks files answer
  -- the records that OUT reads as are exactly those that IN reads as
  pub saved : IsDone answer → IsTrue desks.tells → SavesAll files.input (name_at files.outputs 0) desks.old desks.new
