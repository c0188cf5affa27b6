use Rattle.std.proofs.Common.{arith, length, ◌≡◌, ◌+◌}
use Rattle.ioam_pool.proofs.FreeLaws.{Grows-more}
use Rattle.ioam_pool.proofs.growing.add_cells.Goals as goal

pub adding-preserved : goal.adding-preserved
adding-preserved c =
    let at : c.len-free_from.result + c.adding.added ≡ length c.adding.cells.items = omega (arith, c.adding.cells.ok) in
    let more = Grows-more _ _ _ _ c.blank.result c.adding.invariant.grows in
    record {
      grows = rw (c.push_reserved.ensures.items, at) more;
      len = omega arith;
      room = omega arith;
      same = omega arith;
    }
