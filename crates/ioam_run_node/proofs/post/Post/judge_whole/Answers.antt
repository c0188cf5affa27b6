use Rattle.std.proofs.Common.{arith, sym, ◌∙◌}
use Rattle.ioam_run_node.proofs.post.Post.judge_whole.Goals as goal

pub returns-in-Ok-clause-fit : goal.returns-in-Ok-clause-fit
returns-in-Ok-clause-fit c = (
  record {
    is_packet = c.requires.packet;
    sound = c.requires.sound;
    hops = c.in-Ok.ensures.hops;
    inside = c.in-Ok.ensures.inside;
    ioam = c.args.ioam;
    is_ioam = c.requires.ioam;
    way_is = sym c.way_for.ensures.value ∙ c.in-Ok.is;
  },
  omega arith,
)
