use Rattle.ioam_part_merge.proofs.SideLaws.{takes_next}
use Rattle.ioam_part_merge.proofs.side.Side.new.Goals as goal

pub returns : goal.returns
returns c = λ xs all keys is. record { each = all; keys = keys; shows = takes_next c.args.records c.next-next.result c.next-next.new.self c.next-next.ensures xs all is }
