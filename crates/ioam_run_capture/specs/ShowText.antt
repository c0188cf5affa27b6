-- The text that `show` writes: the IOAM options of each packet of a capture.
use Rattle.std.specs.Prelude.{◌≡◌, ℕ, List}
use Rattle.ioam_pcap.specs.Entries.{Taken}
use Rattle.ioam_report_options.specs.OptionsText.{CountedText}
use Rattle.ioam_report_options.proofs.UniqueLaws.{CountedText-unique}
use Rattle.ioam_run_capture.specs.ListText.{ListTexts}

-- the report of `show` over these records: the IOAM options of each packet
abbrev pub ShowTexts : List Taken → List (List ℕ) → Type 0
ShowTexts taken texts = ListTexts CountedText taken texts

-- the options of a packet have one text
pub one_of_options : (packet text other : List ℕ) → CountedText packet text → CountedText packet other → text ≡ other
one_of_options packet text other is are = CountedText-unique packet text other is are
