use Rattle.std.proofs.lemmas.Result.{on_ok_weaker}
use Rattle.ioam_desk_outputs.proofs.HeldLaws.{AreTold-texts}
use Rattle.ioam_desk_outputs.proofs.FlushLaws.{none_gathered}
use Rattle.ioam_desk_outputs.proofs.flush.finish.Goals as goal

pub returns-clause-texts : goal.returns-clause-texts
returns-clause-texts g c = on_ok_weaker c.flush_each.result
    (λ few tells slot names texts told. AreTold-texts _ _ slot names c.flush_each.new.outputs texts (none_gathered _ few) tells (c.flush_each.ensures.told slot names texts told))
    c.flush_each.ensures.few

pub returns-clause-all : goal.returns-clause-all
returns-clause-all g c = on_ok_weaker c.flush_each.result (λ few. none_gathered _ few) c.flush_each.ensures.few
