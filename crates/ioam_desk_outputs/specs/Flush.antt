-- What a writing of gathered octets changes.
use Rattle.std.specs.Prelude.{◌≡◌, ℕ, ◌<◌, ◌≤◌, Bool, IsTrue, List, ◌++◌, length, get_or, All}
use Rattle.ioam_desk.specs.Desk.{Writing, SameBut}
use Rattle.ioam_desk_outputs.specs.declared.output.Output.{Output}
use Rattle.ioam_desk_outputs.specs.Told.{AreTold}

-- octets moved from what is gathered for an output to what was written to its slot, and nothing else did
pub record Moves (tells : Bool) (old new : Writing) (before after : Output) : Type 0 where
  pub slot : after.slot ≡ before.slot
  pub slots : new.side.slots ≡ old.side.slots
  pub other_written : SameBut before.slot old.written new.written
  pub files : new.files ≡ old.files
  pub said : IsTrue tells → new.written before.slot ++ after.gathered.items ≡ old.written before.slot ++ before.gathered.items

-- what was said to the outputs is what was said before
abbrev pub KeepsTold : Bool → Writing → Writing → List Output → List Output → Type 0
KeepsTold tells old new before after = (slot : ℕ) (names texts : List (List ℕ))
    → AreTold tells old slot names before texts → AreTold tells new slot names after texts

-- an output for which fewer octets than these are gathered is as it was, and nothing was written to its slot
pub record KeepsFew (least : ℕ) (old new : Writing) (before after : List Output) : Type 0 where
  pub gathered : (i : ℕ) (d : Output) → i < length before → length (get_or before i d).gathered.items < least → get_or after i d ≡ get_or before i d
  pub written : (k : ℕ) → All (λ output. output.slot ≡ k → length output.gathered.items < least) before → new.written k ≡ old.written k

-- for the output at some place at least so many octets were gathered, and some are still to be written
pub record LeavesSome (least : ℕ) (before after : List Output) : Type 0 where
  pub place : ℕ
  pub inside : place < length before
  pub full : (d : Output) → least ≤ length (get_or before place d).gathered.items
  pub left : (d : Output) → 0 < length (get_or after place d).gathered.items
