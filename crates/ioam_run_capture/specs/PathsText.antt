-- The text that `paths` writes: the traces of each packet of a capture.
use Rattle.std.specs.Prelude.{◌≡◌, ℕ, List}
use Rattle.ioam_pcap.specs.Entries.{Taken}
use Rattle.ioam_report_lines.specs.TracesText.{TracesText}
use Rattle.ioam_report_lines.proofs.TracesLaws.{TracesText-unique}
use Rattle.ioam_run_capture.specs.ListText.{ListTexts}

-- the report of `paths` over these records: the traces of each packet
abbrev pub PathsTexts : List Taken → List (List ℕ) → Type 0
PathsTexts taken texts = ListTexts TracesText taken texts

-- The law stands among the definitions, since a ghost member of an `impl` cites specs/ alone.

-- the traces of a packet have one text
pub one_of_traces : (packet text other : List ℕ) → TracesText packet text → TracesText packet other → text ≡ other
one_of_traces packet text other is are = TracesText-unique packet text other is are
