use Rattle.std.proofs.Common.{refl}
use Rattle.ioam_run_bulk.proofs.SendsLaws.{feeds_none, says_on}
use Rattle.ioam_run_bulk.proofs.stage.GeneratingStage.end.Goals as goal

pub returns : goal.returns
returns g c = feeds_none _ _ _ c.args.self.now _ c.requires.waits refl refl refl (λ so_far. says_on c.args.self.now _ so_far c.args.self.now.said (λ says. says) (λ says. says))
