use Rattle.std.proofs.Common.{ℕ, List, [], ◌∷◌, subst}
use Rattle.ioam_desk_outputs.specs.Told.{Adds}
use Rattle.ioam_pcap.specs.Text.{record_octets}
use Rattle.ioam_run_node.specs.NodeText.{out_lines}
use Rattle.ioam_node_visit.specs.declared.note.NodeNote.{NodeNote}
use Rattle.ioam_run_node.proofs.PassingLaws.{Adds-three}
use Rattle.ioam_run_node.proofs.sending.put_all.Goals as goal

pub returns : goal.returns
returns c =
    let P : List ℕ → Type 0 = λ p. Adds c.args.outputs.now c.add_packet.new.outputs (record_octets c.args.time p ∷ [] ∷ [] ∷ []) in
    let Q : List NodeNote → Type 0 = λ n. Adds c.add_packet.new.outputs c.add_lines.new.outputs ([] ∷ out_lines c.args.number c.args.name.now n ∷ [] ∷ []) in
    let R : List ℕ → Type 0 = λ e. Adds c.add_lines.new.outputs c.add_exports.new.outputs ([] ∷ [] ∷ e ∷ []) in
    Adds-three c.args.outputs.now c.add_packet.new.outputs c.add_lines.new.outputs c.add_exports.new.outputs _ _ _
    (subst P c.deref.ensures.value c.in_ok-add_packet.ensures)
    (subst Q c.notes.ensures c.in_ok-add_lines.ensures)
    (subst R c.exports.ensures c.in_ok-add_exports.ensures)
