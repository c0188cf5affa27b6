-- What a receiver stands for: the list of all numbers that it noted, which it does not keep.
use Rattle.std.specs.Prelude.{ℕ, ◌+◌, ◌≡◌, ◌<◌, Bool, true, false, nat_lt, if◌then◌else◌, List, Option, Some, None}
use Rattle.std.specs.Int.{bit_at}
use Rattle.ioam_edge.specs.declared.note.Tally.{Tally}
use Rattle.ioam_edge.specs.declared.receiver.Receiver.{Receiver}
use Rattle.ioam_edge.specs.Noted.{due, is_noted, notes_of, counts_in}

-- the number due, by the greatest
abbrev pub above : Option ℕ → ℕ
above None = 0
above (Some greatest) = greatest + 1

-- a bit of a window that tells whether something holds
abbrev pub mark : Bool → ℕ
mark true = 1
mark false = 0

-- bit k of a window tells whether the number k below the greatest was noted
abbrev pub Marks : ℕ → List ℕ → Type 0
Marks window noted = (k number : ℕ) → k < 64 → number + k + 1 ≡ due noted → bit_at window k ≡ mark (is_noted number noted)

-- a receiver stands for these numbers, in the order in which they were noted
pub record Stands (receiver : Receiver) (noted : List ℕ) : Type 0 where
  pub greatest : above receiver.greatest ≡ due noted
  pub window : Marks receiver.window noted
  pub counts : receiver.counts ≡ counts_in (notes_of noted)

-- what a receiver tells of all that it noted
abbrev pub tally_in : Receiver → Tally
tally_in receiver = record {
  next = if nat_lt (above receiver.greatest) 18446744073709551616 then Some (above receiver.greatest) else None;
  gaps = receiver.counts.gaps;
  missed = receiver.counts.missed;
  late = receiver.counts.late;
  repeats = receiver.counts.repeats;
}
