-- What a search on a chain answers.
use Rattle.std.specs.Prelude.{ℕ, List, Option}
use Rattle.ioam_pool.specs.Entry.{Entry}
use Rattle.ioam_pool.specs.Cells.{Gap, Ties}
use Rattle.ioam_pool.specs.declared.cells.Cell.{Cell}
use Rattle.ioam_pool.specs.declared.seating.Seat.{Seat}
use Rattle.ioam_pool.specs.declared.seating.Seat.TheVariants.{Tied, Behind}

-- what a search answers: the item can't stand beside the one in the cell; or it goes behind the cell, or to the front
abbrev pub Seated : List Cell → Option ℕ → Entry → Seat → Type 0
Seated cells head item (Tied at) = Ties cells head at item
Seated cells head item (Behind before) = Gap cells head before item
