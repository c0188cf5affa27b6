-- The text of a command that lists something of each packet of a capture. `Tells packet text` says that
-- this text is written of a packet, behind its number.
use Rattle.std.specs.Prelude.{◌≡◌, ℕ, ◌+◌, ◌⊎◌, List, [], ◌∷◌, ◌++◌, length, codes, decimal}
use Rattle.ioam_ip.specs.Framing.{Framing, Holds, NoIpv6, CutShort, TooShort}
use Rattle.ioam_ip.specs.Chain.{IsSound}
use Rattle.ioam_pcap.specs.Entries.{Taken}
use Rattle.ioam_report.specs.RunText.{reason_name}
use Rattle.ioam_run_stream.specs.Frame.{taken_framing}
use Rattle.ioam_node.specs.declared.reason.Reason.{Reason}
use Rattle.ioam_node.specs.declared.reason.Reason.TheVariants as reason

-- the line of a packet that is passed over, and why
abbrev pub skip_line : ℕ → Reason → List ℕ
skip_line number reason = decimal number ++ codes " skip " ++ reason_name reason ++ codes "\n"

-- the last line: how many packets there were
abbrev pub packets_line : ℕ → List ℕ
packets_line count = codes "packets " ++ decimal count ++ codes "\n"

module _ (Tells : List ℕ → List ℕ → Type 0) where
  -- a packet whose chain isn't whole is skipped; of another its number is written and what is told of it
  abbrev pub PacketLines : ℕ → List ℕ → List ℕ → Type 0
  PacketLines number packet text = ((IsSound packet → ⊥) × (text ≡ skip_line number reason.Chain))
      ⊎ (IsSound packet × ((told : List ℕ) × Tells packet told × (text ≡ decimal number ++ told)))

  -- the lines of a frame: those of its packet, or the reason why it has none
  abbrev pub FramingLines : ℕ → Framing → List ℕ → Type 0
  FramingLines number (Holds packet) text = PacketLines number packet text
  FramingLines number NoIpv6 text = text ≡ skip_line number reason.NotIpv6
  FramingLines number CutShort text = text ≡ skip_line number reason.Cut
  FramingLines number TooShort text = text ≡ skip_line number reason.Length

  -- the lines of one record of a capture
  abbrev pub EntryLines : ℕ → Taken → List ℕ → Type 0
  EntryLines number t text = FramingLines number (taken_framing t) text

  -- the lines of records that are counted from a number
  abbrev pub Lines : ℕ → List Taken → List ℕ → Type 0
  Lines number [] text = text ≡ []
  Lines number (t ∷ ts) text = (first : List ℕ) × (others : List ℕ)
      × EntryLines number t first × Lines (number + 1) ts others × (text ≡ first ++ others)

  -- this is the report of these records, and they have no other lines
  pub record Listed (taken : List Taken) (text : List ℕ) : Type 0 where
    pub lines : List ℕ
    pub are_lines : Lines 1 taken lines
    pub only : (others : List ℕ) → Lines 1 taken others → others ≡ lines
    pub text_is : text ≡ lines ++ packets_line (length taken)

  -- REPORT
  abbrev pub ListTexts : List Taken → List (List ℕ) → Type 0
  ListTexts taken [] = ⊥
  ListTexts taken (text ∷ []) = Listed taken text
  ListTexts taken (text ∷ more ∷ texts) = ⊥
