-- What `node` writes: the capture of the packets that it sends, the report, and the export records.
use Rattle.std.specs.Prelude.{◌≡◌, ℕ, ◌+◌, All, List, [], ◌∷◌, ◌++◌, length, codes, decimal, slice_get}
use Rattle.std.specs.List.{AllByRecursion, flat_map}
use Rattle.std.specs.Option.{option_map_or}
use Rattle.ioam_node.specs.declared.reason.Reason.{Reason}
use Rattle.ioam_pcap.specs.Entries.{Taken}
use Rattle.ioam_pcap.specs.Text.{IsSendable, Sent, capture_text, records_text}
use Rattle.ioam_report.specs.RunText.{port_name, reason_name}
use Rattle.ioam_topo.specs.Domain.{links}
use Rattle.ioam_topo.specs.declared.domain.Domain.{Domain}
use Rattle.ioam_topo.specs.declared.ids.Way.{Way}
use Rattle.ioam_topo.specs.declared.ids.Way.TheVariants as way
use Rattle.ioam_node_visit.specs.declared.note.NodeNote.{NodeNote}
use Rattle.ioam_run_node.specs.NotesText.{notes_text}
use Rattle.ioam_run_node.specs.Passage.{Passage, Goes, Drops, ArePassages, LeavesClean, passed_on, noted, exported}
use Rattle.ioam_run_node.specs.Seat.{Seat}

-- the name of the link at a place of the file, from 0
abbrev pub link_name : Domain → ℕ → List ℕ
link_name domain place = option_map_or (λ link. link.name) (slice_get (links domain) place) []

-- the name of a link or a port
abbrev pub way_name : Domain → Way → List ℕ
way_name domain (way.Link link) = link_name domain link.0
way_name domain (way.Port port) = port_name domain port.0

-- the last line: how many packets there were, how many were sent on and how many dropped
abbrev pub sums_line : ℕ → ℕ → List ℕ
sums_line sent dropped = codes "packets " ++ decimal (sent + dropped) ++ codes " out " ++ decimal sent
    ++ codes " dropped " ++ decimal dropped ++ codes "\n"

-- `N out NAME`, and the lines of the notes
abbrev pub out_lines : ℕ → List ℕ → List NodeNote → List ℕ
out_lines number name notes = decimal number ++ codes " out " ++ name ++ codes "\n" ++ notes_text notes

-- `N drop REASON`
abbrev pub drop_line : ℕ → Reason → List ℕ
drop_line number why = decimal number ++ codes " drop " ++ reason_name why ++ codes "\n"

-- why it was dropped, if it was
abbrev pub drop_of : Passage → List Reason
drop_of (Goes time sent packet) = []
drop_of (Drops why) = why ∷ []

module _ (seat : Seat) where
  -- the packet that is sent, with the time at which it came
  abbrev pub sent_of : Passage → List Sent
  sent_of (Goes time sent packet) = record { time = time; octets = passed_on seat time sent packet } ∷ []
  sent_of (Drops why) = []

  -- what is exported of it
  abbrev pub export_of : Passage → List ℕ
  export_of (Goes time sent packet) = exported seat time sent packet
  export_of (Drops why) = []

  -- `N out NAME`, and the notes; or `N drop REASON`
  abbrev pub passage_line : ℕ → Passage → List ℕ
  passage_line number (Goes time sent packet) = out_lines number (way_name seat.domain sent) (noted seat time sent packet)
  passage_line number (Drops why) = drop_line number why

  -- what it adds to OUT, to REPORT and to EXPORTS
  abbrev pub added_of : ℕ → Passage → List (List ℕ)
  added_of number passage = records_text (sent_of passage) ∷ passage_line number passage ∷ export_of passage ∷ []

  -- the lines of packets that are counted from a number
  abbrev pub passage_lines : ℕ → List Passage → List ℕ
  passage_lines number [] = []
  passage_lines number (passage ∷ passages) = passage_line number passage ++ passage_lines (number + 1) passages

  -- these are OUT, REPORT and EXPORTS of these records, of which nothing else becomes; what leaves by a port is clean, and nothing that is sent is longer than a record may be
  pub record Passes (taken : List Taken) (out report exports : List ℕ) : Type 0 where
    pub passages : List Passage
    pub are : ArePassages seat taken passages
    pub only : (others : List Passage) → ArePassages seat taken others → others ≡ passages
    pub clean : AllByRecursion (LeavesClean seat) passages
    pub fits : All IsSendable (flat_map sent_of passages)
    pub out_is : out ≡ capture_text (flat_map sent_of passages)
    pub report_is : report ≡ passage_lines 1 passages ++ sums_line (length (flat_map sent_of passages)) (length (flat_map drop_of passages))
    pub exports_is : exports ≡ flat_map export_of passages

  -- OUT, REPORT and EXPORTS
  abbrev pub NodeTexts : List Taken → List (List ℕ) → Type 0
  NodeTexts taken [] = ⊥
  NodeTexts taken (out ∷ []) = ⊥
  NodeTexts taken (out ∷ report ∷ []) = ⊥
  NodeTexts taken (out ∷ report ∷ exports ∷ []) = Passes taken out report exports
  NodeTexts taken (out ∷ report ∷ exports ∷ more ∷ texts) = ⊥
