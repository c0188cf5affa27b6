-- The desk in memory, in the desk's words.
use Rattle.ioam_desk.specs.Desk.{Reading, Writing}
use Rattle.ioam_desk.specs.Store.{reading_from, writing_from, files_of}
use Rattle.ioam_desk.specs.Plan.{Plan}
use Rattle.ioam_desk.specs.declared.memory_desk.MemoryDesk.{MemoryDesk}

-- the inputs of the desk in memory
abbrev pub reading_of : MemoryDesk → Reading
reading_of desk = reading_from desk.read_faults desk.inputs.asked.items desk.inputs.slots.items

-- and its outputs, with what each name holds
abbrev pub writing_of : MemoryDesk → Writing
writing_of desk = writing_from desk.write_faults desk.outputs.asked.items desk.outputs.slots.items (files_of desk.outputs.ties)

-- how many calls were made, which calls are to fail, and the most octets that one call moves
abbrev pub plan_of : MemoryDesk → Plan
plan_of desk = record { calls = desk.calls.made; failing = desk.calls.failing.items; piece = desk.piece.most }
