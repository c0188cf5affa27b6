-- What a receiver tells is what the numbers tell that it stands for.
use Rattle.std.proofs.Common.{◌≡◌, ℕ, nat_lt, List, Some, None, cond, ap, ◌∙◌}
use Rattle.ioam_edge.specs.declared.counts.Counts.{Counts}
use Rattle.ioam_edge.specs.declared.note.Tally.{Tally}
use Rattle.ioam_edge.specs.declared.receiver.Receiver.{Receiver}
use Rattle.ioam_edge.specs.Noted.{tally_of}
use Rattle.ioam_edge.specs.Receiver.{Stands, tally_in}

-- the tally with this number due and these counts
abbrev tally_by : ℕ → Counts → Tally
tally_by due counts = record {
  next = cond (nat_lt due 18446744073709551616) (Some due) None;
  gaps = counts.gaps;
  missed = counts.missed;
  late = counts.late;
  repeats = counts.repeats;
}

pub tally_in-Stands : (receiver : Receiver) (noted : List ℕ) → Stands receiver noted → tally_in receiver ≡ tally_of noted
tally_in-Stands receiver noted stands =
    ap (λ due. tally_by due receiver.counts) stands.greatest ∙ ap (tally_by _) stands.counts
