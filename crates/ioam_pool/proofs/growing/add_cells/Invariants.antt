use Rattle.std.proofs.Common.{◌≡◌, ◌+◌, ◌≤◌, vec_len}
use Rattle.std.specs.Prelude.{vec_capacity}
use Rattle.ioam_pool.specs.Kept.{Grows}
use Rattle.ioam_pool.proofs.growing.add_cells.Given as goal

abbrev pub invariant-adding : goal.invariant-adding
invariant-adding l = record {
  grows : Grows l.initial.cells.items l.fn.free l.cells.items l.first;
  len : vec_len l.cells ≡ vec_len l.initial.cells + l.added;
  room : vec_len l.initial.cells + l.more ≤ vec_capacity l.cells;
  same : vec_capacity l.cells ≡ vec_capacity l.initial.cells;
}
