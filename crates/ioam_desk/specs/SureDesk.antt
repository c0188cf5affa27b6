-- The desk that never fails, in the desk's words. A name that was never put holds no octets.
use Rattle.std.specs.Prelude.{ℕ, List, [], Option, Some, unwrap_or}
use Rattle.ioam_desk.specs.Desk.{Reading, Writing, Held}
use Rattle.ioam_desk.specs.Desk.Held.{Stored}
use Rattle.ioam_desk.specs.Store.{reading_from, writing_from, files_of}
use Rattle.ioam_desk.specs.declared.sure_desk.SureDesk.{SureDesk}

-- each name holds something: at first, no octets
abbrev pub never_missing : (List ℕ → Option Held) → List ℕ → Option Held
never_missing files name = Some (unwrap_or (files name) (Stored []))

-- the inputs of the desk that never fails: no call of them has failed
abbrev pub reading_of : SureDesk → Reading
reading_of desk = reading_from 0 desk.inputs.asked.items desk.inputs.slots.items

-- and its outputs, where a name that was never put holds no octets
abbrev pub writing_of : SureDesk → Writing
writing_of desk = writing_from 0 desk.outputs.asked.items desk.outputs.slots.items (never_missing (files_of desk.outputs.ties))

-- the most octets that one read or write moves
abbrev pub piece_of : SureDesk → ℕ
piece_of desk = desk.piece.most
