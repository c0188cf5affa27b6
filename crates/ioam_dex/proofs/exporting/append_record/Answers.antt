use Rattle.std.proofs.Common.{rules, subst}
use Rattle.ioam_dex.specs.Record.{Record, IsNumbered}
use Rattle.ioam_dex.proofs.exporting.append_record.Goals as goal

pub returns-clause-numbers : goal.returns-clause-numbers
returns-clause-numbers c =
    let P : Record → Type 0 = λ x. IsNumbered x in
    subst P c.head_of-head.ensures.says (record {
      namespace_below = search rules;
      flags_below = search rules;
      ext_below = search rules;
      kind_below = search rules;
      visit_below = search rules;
      flow_below = search rules;
      seq_below = search rules;
    })
