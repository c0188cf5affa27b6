-- What the names of captures hold, and which records can be taken of them, merged by time.
use Rattle.std.specs.Prelude.{◌≡◌, ℕ, ◌+◌, ◌<◌, ⊤, true, IsTrue, List, [], ◌∷◌, ◌++◌, length, map, slice_get, Option, Some}
use Rattle.std.specs.List.{AllZip}
use Rattle.ioam_desk.specs.Desk as desk
use Rattle.ioam_desk.specs.Desk.{Writing, holds}
use Rattle.ioam_desk.specs.Unread.{Unread}
use Rattle.ioam_capture.specs.Arrives.{Handed, IsStream, Arrives}
use Rattle.ioam_capture.specs.Merge.{Stream, Arrival, Takes}
use Rattle.ioam_capture.specs.declared.turns.Turn.{Turn}
use Rattle.ioam_capture.specs.declared.turns.Turn.TheVariants.{Unshown}

-- these records are taken first of the captures
pub record Begins (captures : List Handed) (taken : List Arrival) : Type 0 where
  pub streams : List Stream
  pub now : List Stream
  pub shown : AllZip IsStream captures streams
  pub takes : Takes streams taken now

-- a name holds the whole of a capture
abbrev pub IsFile : Option (List ℕ) → Handed → Type 0
IsFile content file = (content ≡ Some file.octets) × (file.ended ≡ true)

-- of the whole files that the names hold these are all the records that can be taken, and the turn
-- behind them is this
pub record FilesArrive (contents : List (Option (List ℕ))) (taken : List Arrival) (last : Turn) : Type 0 where
  pub files : List Handed
  pub are_files : AllZip IsFile contents files
  pub arrive : Arrives files taken last

-- of the whole files that the names hold these records are taken first
pub record FilesBegin (contents : List (Option (List ℕ))) (taken : List Arrival) : Type 0 where
  pub files : List Handed
  pub are_files : AllZip IsFile contents files
  pub begin : Begins files taken

-- So much of what each name holds was handed out by its slot, of which the rest is left. The slots
-- are numbered from this one on.
abbrev pub AreParts : desk.Reading → ℕ → List (Option (List ℕ)) → List Handed → Type 0
AreParts inputs slot [] [] = ⊤
AreParts inputs slot (content ∷ contents) (part ∷ parts) = (content ≡ Some (part.octets ++ inputs.left slot))
    × (inputs.ended slot ≡ part.ended) × AreParts inputs (slot + 1) contents parts
AreParts inputs slot contents parts = ⊥

-- of what was handed out these are all the records that can be taken, and then some capture doesn't
-- show its next
pub record PartsArrive (contents : List (Option (List ℕ))) (inputs : desk.Reading) (base : ℕ) (taken : List Arrival) : Type 0 where
  pub parts : List Handed
  pub are_parts : AreParts inputs base contents parts
  pub arrive : Arrives parts taken Unshown

-- where a merge began: what the names hold, and the number of the first capture's slot
pub record Start : Type 0 where
  pub contents : List (Option (List ℕ))
  pub base : ℕ

-- what these names hold, and the number of the first slot
abbrev pub start_of : ℕ → Writing → List (List ℕ) → Start
start_of base outputs names = record { contents = map (holds outputs) names; base = base }

-- an input slot as it stands
abbrev pub slot_of : desk.Reading → ℕ → Unread
slot_of inputs k = record { left = inputs.left k; ended = inputs.ended k }

-- the slots below a number are as they were: what is left of them, and whether they have ended
abbrev pub EndsKept : ℕ → desk.Reading → desk.Reading → Type 0
EndsKept base old new = (k : ℕ) → k < base → slot_of new k ≡ slot_of old k

-- every slot has ended
abbrev pub HaveEnded : Start → desk.Reading → Type 0
HaveEnded start new = (k : ℕ) → k < length start.contents → IsTrue (new.ended (start.base + k))

-- of each capture that was opened nothing was read: all that its name holds is left
abbrev pub AreUnread : Start → desk.Reading → Type 0
AreUnread start new = (k : ℕ) → start.base + k < new.side.slots → slice_get start.contents k ≡ Some (Some (new.left (start.base + k)))
