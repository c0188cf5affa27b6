use Rattle.std.proofs.Common.{arith}
use Rattle.std.proofs.lemmas.Map.Text.{text_keys}
use Rattle.ioam_desk.proofs.store.outputs.Outputs.tie.Goals as goal

pub returns-clause-ok : goal.returns-clause-ok
returns-clause-ok c = record {
  named = grind (arith, text_keys);
  others = λ other h. grind (arith, text_keys);
}
