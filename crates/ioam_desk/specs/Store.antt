-- What a desk in memory keeps, as the desk's words see it.
use Rattle.std.specs.Prelude.{◌≡◌, ◌≢◌, ℕ, List, [], ◌++◌, ◌==◌, false, length, take, min, Option, Some, None, String, option_map, slice_index_or, slice_set}
use Rattle.std.specs.HashMap.{HashMap, get_by_text}
use Rattle.ioam_desk.specs.Unread.{Unread}
use Rattle.ioam_desk.specs.Desk.{Reading, Writing, Held}
use Rattle.ioam_desk.specs.Desk.Held.{Stored, Written}
use Rattle.ioam_desk.specs.declared.store.outputs.Tie.{Tie}
use Rattle.ioam_desk.specs.declared.store.outputs.Tie.TheVariants.{Own, Slot}

-- a slot that wasn't opened
abbrev pub unopened : Unread
unopened = record { left = []; ended = false }

-- the inputs of a desk with this count of faults, these names asked for and these slots
abbrev pub reading_from : ℕ → List (List ℕ) → List Unread → Reading
reading_from faults asked slots = record {
  side = record { faults = faults; asked = asked; slots = length slots };
  left = λ k. (slice_index_or slots k unopened).left;
  ended = λ k. (slice_index_or slots k unopened).ended;
}

-- A read of a slot moved as many octets into the front of a buffer as its limit, the buffer's
-- length and what was left allow.
pub record Reads (old new : List Unread) (slot most room : ℕ) (into : List ℕ) (count : ℕ) : Type 0 where
  pub as_many : count ≡ min most (min room (length (slice_index_or old slot unopened).left))
  pub moved : (slice_index_or old slot unopened).left ≡ take count into ++ (slice_index_or new slot unopened).left
  pub only_there : new ≡ slice_set old slot (record { left = (slice_index_or new slot unopened).left; ended = count == 0 })

-- what a name is tied to, in the desk's words
abbrev pub held_of : Tie → Held
held_of (Own octets) = Stored octets
held_of (Slot slot) = Written slot

-- what each name holds
abbrev pub files_of : {Y S : Type 0} → HashMap (String Y) Tie S → List ℕ → Option Held
files_of ties name = option_map held_of (get_by_text ties name)

-- what was written to each output slot
abbrev pub written_at : List (List ℕ) → ℕ → List ℕ
written_at slots k = slice_index_or slots k []

-- the outputs of a desk with this count of faults, these names asked for, these slots and names
abbrev pub writing_from : ℕ → List (List ℕ) → List (List ℕ) → (List ℕ → Option Held) → Writing
writing_from faults asked slots files = record {
  side = record { faults = faults; asked = asked; slots = length slots };
  written = written_at slots;
  files = files;
}

-- a name is tied to this from now on, and every other name to what it was
pub record Ties (old new : List ℕ → Option Held) (name : List ℕ) (to : Held) : Type 0 where
  pub named : new name ≡ Some to
  pub others : (other : List ℕ) → other ≢ name → new other ≡ old other

-- a desk on which nothing was opened and no name holds anything
abbrev pub no_reading : Reading
no_reading = reading_from 0 [] []

-- outputs of which none was opened, where no name holds anything
abbrev pub no_writing : Writing
no_writing = writing_from 0 [] [] (λ _. None)
