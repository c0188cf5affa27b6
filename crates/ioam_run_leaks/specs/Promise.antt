-- What `leaks` promises.
use Rattle.ioam_run_answer.specs.Desks.{Desks}
use Rattle.ioam_run_answer.specs.declared.outcome.Outcome.{Outcome}
use Rattle.ioam_run_leaks.specs.LeaksText.{LeaksTexts}
use Rattle.ioam_run_stream.specs.Promise.{CaptureNames, Keeps}

-- OUT and REPORT of `leaks`
abbrev pub LeaksKeeps : Desks → CaptureNames → Outcome → Type 0
LeaksKeeps = Keeps LeaksTexts
