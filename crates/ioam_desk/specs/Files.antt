-- Files that are put on a desk from outside.
use Rattle.std.specs.Prelude.{◌≡◌, ◌≢◌, List, ℕ, Some}
use Rattle.ioam_desk.specs.Desk.{Writing}
use Rattle.ioam_desk.specs.Desk.Held.{Stored}

-- a name holds these octets from now on, whatever it was tied to, and nothing else changed
pub record PutsFile (old new : Writing) (name octets : List ℕ) : Type 0 where
  pub side : new.side ≡ old.side
  pub written : new.written ≡ old.written
  pub file : new.files name ≡ Some (Stored octets)
  pub other_files : (other : List ℕ) → other ≢ name → new.files other ≡ old.files other
