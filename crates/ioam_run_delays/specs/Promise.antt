-- What `delays` promises.
use Rattle.ioam_run_answer.specs.Desks.{Desks}
use Rattle.ioam_run_answer.specs.declared.outcome.Outcome.{Outcome}
use Rattle.ioam_run_delays.specs.DelaysText.{DelaysTexts}
use Rattle.ioam_run_stream.specs.Promise.{CaptureNames, Keeps}
use Rattle.ioam_topo.specs.declared.format.Format.{Format}

-- REPORT of `delays`, by the format of the time stamps
abbrev pub DelaysKeeps : Format → Desks → CaptureNames → Outcome → Type 0
DelaysKeeps format = Keeps (DelaysTexts format)
