-- The desk around a run of a command.
use Rattle.std.specs.Prelude.{Bool}
use Rattle.ioam_desk.specs.Desk.{Reading, Writing}

-- its inputs and outputs before the run and after it, and whether it tells what its files hold
pub record Desks : Type 0 where
  pub tells : Bool
  pub old_in : Reading
  pub new_in : Reading
  pub old : Writing
  pub new : Writing

-- the desk around a run, of these states of its inputs and outputs
abbrev pub around : Bool → Reading → Reading → Writing → Writing → Desks
around tells old_in new_in old new = record { tells = tells; old_in = old_in; new_in = new_in; old = old; new = new }
