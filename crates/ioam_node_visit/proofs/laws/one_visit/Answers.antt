use Rattle.std.proofs.Common.{◌-◌, ℕ, List, slice_index, subst, sym}
use Rattle.ioam_dex.specs.Record.{Record}
use Rattle.ioam_ip.specs.Hop.{hop_options, hop_stepped}
use Rattle.ioam_ip.specs.Lowered.{lowered}
use Rattle.ioam_node_visit.specs.Exported.{AreExports}
use Rattle.ioam_node_visit.specs.Noted.{AreNotes}
use Rattle.ioam_node_visit.specs.Step.{node_step}
use Rattle.ioam_node_visit.specs.Stepped.{Stepped}
use Rattle.ioam_node_visit.specs.declared.note.NodeNote.{NodeNote}
use Rattle.ioam_node_visit.proofs.ExportedLaws.{exports-are, exports-only}
use Rattle.ioam_node_visit.proofs.NotedLaws.{notes-are, notes-only}
use Rattle.ioam_node_visit.proofs.SteppedLaws.{stepped-is, stepped-lowered, stepped-only}
use Rattle.ioam_node_visit.proofs.laws.one_visit.Goals as goal

pub returns-clause-stays : goal.returns-clause-stays
returns-clause-stays c d r p t hops before after is sound =
    let is_so = stepped-is d r p t hops before sound is in (
      λ same. subst (λ (xs : List ℕ). Stepped d r p t hops (slice_index before 7) before xs) (sym same) is_so,
      λ stepped. stepped-only d r p t hops (slice_index before 7) before after (hop_stepped (node_step d r p t hops) before) stepped is_so,
    )

pub returns-clause-lowers : goal.returns-clause-lowers
returns-clause-lowers c d r p t hops before after is sound =
    let is_so = stepped-lowered d r p t hops before (slice_index before 7 - 1) sound is in (
      λ same. subst (λ (xs : List ℕ). Stepped d r p t hops (slice_index before 7 - 1) before xs) (sym same) is_so,
      λ stepped. stepped-only d r p t hops (slice_index before 7 - 1) before after (hop_stepped (node_step d r p t hops) (lowered 1 before)) stepped is_so,
    )

pub returns-clause-notes : goal.returns-clause-notes
returns-clause-notes c d r p t hops packet xs = (
  λ same. subst (λ (ys : List NodeNote). AreNotes d r p t hops (hop_options packet) ys) (sym same) (notes-are d r p t hops (hop_options packet)),
  notes-only d r p t hops (hop_options packet) xs,
)

pub returns-clause-records : goal.returns-clause-records
returns-clause-records c d r p t hops packet xs = (
  λ same. subst (λ (ys : List Record). AreExports d r p t hops (hop_options packet) ys) (sym same) (exports-are d r p t hops (hop_options packet)),
  exports-only d r p t hops (hop_options packet) xs,
)
