-- What `save` writes: the records of a capture, as a capture of the form pcapng.
use Rattle.std.specs.Prelude.{◌≡◌, ℕ, ◌≤◌, All, IsSomeAnd, List, [], ◌∷◌, length}
use Rattle.ioam_run_stream.specs.Reads.{Reads}
use Rattle.ioam_desk.specs.Desk.{Writing, holds}
use Rattle.ioam_ng.specs.Text.{capture_text, IsSendable}
use Rattle.ioam_pcap.specs.Ending.{Whole}
use Rattle.ioam_pcap.specs.Entries.{Taken}

-- this is the capture of these records, which reads as them to its end where they are no more than a
-- command takes
pub record Saved (taken : List Taken) (out : List ℕ) : Type 0 where
  pub out_is : out ≡ capture_text taken
  pub fits : All IsSendable taken
  pub reads : length taken ≤ 16777216 → Reads out taken Whole

-- OUT
abbrev pub SaveTexts : List Taken → List (List ℕ) → Type 0
SaveTexts taken [] = ⊥
SaveTexts taken (out ∷ []) = Saved taken out
SaveTexts taken (out ∷ more ∷ texts) = ⊥

-- where IN reads as some records to its end, so does OUT
abbrev pub SavesAll : List ℕ → List ℕ → Writing → Writing → Type 0
SavesAll input output old new = (taken : List Taken) → IsSomeAnd (holds old input) (λ octets. Reads octets taken Whole)
    → IsSomeAnd (holds new output) (λ octets. Reads octets taken Whole)
