use Rattle.std.proofs.Common.{arith, sym, ap, ◌∙◌}
use Rattle.ioam_data.specs.Fields.{fields_of}
use Rattle.ioam_data.specs.Whole.{held_octets}
use Rattle.ioam_data.proofs.WholeLaws.{fields_of-whole}
use Rattle.ioam_data.proofs.FieldLaws.{fields_of-element_of}
use Rattle.ioam_data.proofs.reading.fields.Goals as goal

pub returns-clause-back : goal.returns-clause-back
returns-clause-back c view seen is = c.read_fields.ensures
    ∙ ap (fields_of c.args.kind c.args.node_len) is ∙ fields_of-element_of c.args.kind c.args.node_len view seen

pub returns-clause-whole : goal.returns-clause-whole
returns-clause-whole c = fields_of-whole c.args.kind c.args.node_len c.args.octets.now (λ i. omega (arith, c.type_inv.octets i)) c.requires
    ∙ ap held_octets (sym c.read_fields.ensures)
