-- Lines of flows, piece by piece.
use Rattle.std.proofs.Common.{◌≡◌, ℕ, List, ◌++◌, codes, decimal, append_assoc}
use Rattle.ioam_edge.specs.declared.note.Tally.{Tally}
use Rattle.ioam_report.specs.SumsText.{next_text, tally_text}
use Rattle.ioam_report_lines.specs.TraceText.{line_feed}

pub tally_parts : (tally : Tally) (old : List ℕ) → (codes " next " ++ next_text tally.next) ++ ((codes " gaps " ++ decimal tally.gaps)
    ++ ((codes " missed " ++ decimal tally.missed) ++ ((codes " late " ++ decimal tally.late) ++ ((codes " repeats " ++ decimal tally.repeats) ++ old))))
    ≡ tally_text tally ++ old
tally_parts tally old = simp append_assoc

-- the line of a flow, piece by piece
pub flow_parts : (name : List ℕ) (enclosed exited direct : ℕ) (numbers : List ℕ) → codes "flow " ++ name ++ ((codes " enclosed " ++ decimal enclosed)
    ++ ((codes " exited " ++ decimal exited) ++ ((codes " direct " ++ decimal direct) ++ (numbers ++ line_feed))))
    ≡ codes "flow " ++ name ++ codes " enclosed " ++ decimal enclosed ++ codes " exited " ++ decimal exited ++ codes " direct " ++ decimal direct
    ++ numbers ++ line_feed
flow_parts name enclosed exited direct numbers = simp append_assoc
