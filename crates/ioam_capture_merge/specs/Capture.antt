-- One of several captures that are merged by time: what was handed out of it, and what was taken.
use Rattle.std.specs.Prelude.{◌≡◌, ℕ, List}
use Rattle.ioam_pcap.specs.Entries.{Taken}
use Rattle.ioam_capture.specs.Arrives.{Handed}
use Rattle.ioam_capture.specs.Merge.{Stream, due_of}
use Rattle.ioam_capture.specs.Reader.{Stands}
use Rattle.ioam_capture.specs.Streams.{Streams}
use Rattle.ioam_capture.specs.declared.turns.Due.{Due}
use Rattle.ioam_capture_merge.specs.declared.capture.Capture.{Capture}

-- So much of it was handed out, and these records were taken of that.
pub record Lane (capture : Capture) (handed : Handed) (given : List Taken) : Type 0 where
  pub stands : Stands capture.reader handed.octets given
  pub same_end : handed.ended ≡ capture.ended

-- the most records that are taken of captures that are merged
abbrev pub most_taken : ℕ
most_taken = 16777216

-- this is due of a capture of which so much was handed out and these records were taken
abbrev pub IsDue : Handed → List Taken → Due → Type 0
IsDue handed given due = (stream : Stream) → Streams handed.octets handed.ended given stream → due ≡ due_of stream
