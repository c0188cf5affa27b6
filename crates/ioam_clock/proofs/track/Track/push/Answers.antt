use Rattle.std.proofs.Common.{is_ok}
use Rattle.ioam_clock.proofs.TrackLaws.{AreSamples-pushed}
use Rattle.ioam_clock.proofs.track.Track.push.Goals as goal

pub invariant_of-self : goal.invariant_of-self
invariant_of-self c = AreSamples-pushed c.self.inside.samples.items _ c.args.sample (is_ok c.push.result) c.self.invariant (rw (← c.self.view_is) at c.requires.follows) c.requires.small c.push.ensures.items
