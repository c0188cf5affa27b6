use Rattle.std.proofs.Common.{List, ℕ, [], Option, ap}
use Rattle.ioam_desk.specs.Desk.{Held}
use Rattle.ioam_desk.specs.Store.{writing_from}
use Rattle.ioam_desk.specs.SureDesk.{never_missing}
use Rattle.ioam_desk.proofs.sure_desk.SureDesk.new.Goals as goal

pub returns-clause-writing : goal.returns-clause-writing
returns-clause-writing c =
    rw (c.new-2.ensures.asked, c.new-2.ensures.slots)
    (ap (λ (files : List ℕ → Option Held). writing_from 0 [] [] (never_missing files)) c.new-2.ensures.ties)
