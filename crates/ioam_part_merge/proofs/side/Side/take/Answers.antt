use Rattle.std.proofs.Common.{refl}
use Rattle.ioam_part_merge.proofs.SideLaws.{takes_few, takes_next}
use Rattle.ioam_part_merge.proofs.side.Side.take.Goals as goal

pub returns : goal.returns
returns c = record {
  next = refl;
  is = λ xs all keys is. record { each = all; keys = keys; shows = takes_next c.args.self.now.behind c.next-self.result c.next-self.new.self c.next-self.ensures xs all is };
  fewer = takes_few c.args.self.now.behind c.next-self.result c.next-self.new.self c.next-self.ensures;
}
