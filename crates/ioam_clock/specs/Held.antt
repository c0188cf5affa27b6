-- The words of a line as the reader holds them.
use Rattle.std.specs.Prelude.{◌≡◌, Result, Ok, Err}
use Rattle.ioam_clock.specs.declared.fault.ReadWhy.{ReadWhy}
use Rattle.ioam_clock.specs.declared.line.Words.{Words}
use Rattle.ioam_clock.specs.Lines.{Line}

-- the words of a line as they stand in the file
abbrev pub line_of : Words → Line
line_of words = record {
  node = words.node.now;
  time = words.time.now;
  clock = words.clock.now;
  delay = words.delay.now;
  queue = words.queue.now;
  buffer = words.buffer.now;
}

-- what the code read, seen as a line, is this reading
abbrev pub ReadsWords : Result Words ReadWhy → Result Line ReadWhy → Type 0
ReadsWords (Ok words) reading = reading ≡ Ok (line_of words)
ReadsWords (Err why) reading = reading ≡ Err why
