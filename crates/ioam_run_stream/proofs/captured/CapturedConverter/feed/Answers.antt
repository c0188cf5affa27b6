use Rattle.std.proofs.Common.{refl, arith}
use Rattle.ioam_run_stream.proofs.TakingLaws.{on_ok_two, taking_fed, taking_room}
use Rattle.ioam_run_stream.proofs.captured.CapturedConverter.feed.Goals as goal

pub feed-requires : goal.feed-requires
feed-requires g c = omega (
  arith,
  taking_room g.G.Gather.gathers g.G.Gather.count g.G.Gather.width g.G.Gather.fresh g.G.Gather.texts c.requires.stands.begun c.requires.stands.octets c.requires.stands.so_far c.args.self.now c.requires.stands.stands c.requires.waits,
  c.requires.few,
)

pub returns : goal.returns
returns g c = on_ok_two c.feed.result
    (λ fed stands. taking_fed g.G.Gather.gathers g.G.Gather.count g.G.Gather.width g.G.Gather.fresh g.G.Gather.texts c.args.self.now _ c.args.octets.now refl refl fed stands
    (taking_room g.G.Gather.gathers g.G.Gather.count g.G.Gather.width g.G.Gather.fresh g.G.Gather.texts c.requires.stands.begun c.requires.stands.octets c.requires.stands.so_far c.args.self.now c.requires.stands.stands c.requires.waits)
    c.requires.some c.requires.few)
    c.feed.ensures.ok c.feed.ensures.stands
