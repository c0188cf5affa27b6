use Rattle.std.proofs.Common.{refl}
use Rattle.ioam_run_part.proofs.TellingLaws.{telling_feeds}
use Rattle.ioam_run_part.proofs.telling.TellingStage.feed.Goals as goal

pub returns : goal.returns
returns g c = telling_feeds g.T.Source.says g.T.Source.left _ c.args.self.now _ c.requires.waits refl (λ said text leaves. leaves)
