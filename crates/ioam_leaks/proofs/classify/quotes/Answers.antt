use Rattle.std.proofs.Common.{arith}
use Rattle.ioam_leaks.proofs.classify.quotes.Goals as goal

pub returns : goal.returns
returns c = (
  λ holds. record { there = omega arith; error = omega arith; shows = c.shows.ensures.0 holds },
  λ quotes. c.shows.ensures.1 quotes.shows,
)
