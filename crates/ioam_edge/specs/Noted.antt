-- What a list of sequence numbers, in the order in which they were noted, tells (RFC 9197 section 4.6:
-- numbers begin at 0 and rise by one for each packet).
use Rattle.std.specs.Prelude.{ℕ, ◌+◌, ◌-◌, ◌==◌, min, max, nat_lt, nat_le, Bool, ◌&&◌, if◌then◌else◌, List, [], ◌∷◌, ◌++◌, Option, Some, None}
use Rattle.std.specs.List.{list_any, sum_by}
use Rattle.ioam_edge.specs.declared.note.Note.{Note}
use Rattle.ioam_edge.specs.declared.note.Note.TheVariants.{Next, Gap, Repeat, Late}
use Rattle.ioam_edge.specs.declared.note.Tally.{Tally}
use Rattle.ioam_edge.specs.declared.counts.Counts.{Counts}

-- the number due: one above the greatest, 0 where there is none
abbrev pub due : List ℕ → ℕ
due [] = 0
due (n ∷ noted) = max (n + 1) (due noted)

-- a number is among those noted
abbrev pub is_noted : ℕ → List ℕ → Bool
is_noted number noted = list_any (λ n. n == number) noted

-- What a number tells of those noted before it. Of those below the number due, the window tells 64 apart
-- that were noted and that were not.
abbrev pub note_of : List ℕ → ℕ → Note
note_of noted number =
    if nat_lt (due noted) number then Gap (number - due noted)
    else if due noted == number then Next
    else if nat_le (due noted) (number + 64) && is_noted number noted then Repeat else Late

-- what each number told as it was noted, behind those noted earlier
abbrev pub notes_behind : List ℕ → List ℕ → List Note
notes_behind earlier [] = []
notes_behind earlier (n ∷ noted) = note_of earlier n ∷ notes_behind (earlier ++ n ∷ []) noted

-- what each number of a list told as it was noted, the first behind none
abbrev pub notes_of : List ℕ → List Note
notes_of noted = notes_behind [] noted

-- what a note adds to each count
abbrev pub gaps_in : Note → ℕ
gaps_in Next = 0
gaps_in (Gap missed) = 1
gaps_in Repeat = 0
gaps_in Late = 0

-- how many numbers a note adds to those that are missed
abbrev pub missed_in : Note → ℕ
missed_in Next = 0
missed_in (Gap missed) = missed
missed_in Repeat = 0
missed_in Late = 0

-- one more late number, where the note says so
abbrev pub late_in : Note → ℕ
late_in Next = 0
late_in (Gap missed) = 0
late_in Repeat = 0
late_in Late = 1

-- one more repeated number, where the note says so
abbrev pub repeats_in : Note → ℕ
repeats_in Next = 0
repeats_in (Gap missed) = 0
repeats_in Repeat = 1
repeats_in Late = 0

-- a count stands still at the greatest number of 64 bits
abbrev pub capped : ℕ → ℕ
capped number = min number 18446744073709551615

-- the counts over these notes
abbrev pub counts_in : List Note → Counts
counts_in notes = record {
  gaps = capped (sum_by gaps_in notes);
  missed = capped (sum_by missed_in notes);
  late = capped (sum_by late_in notes);
  repeats = capped (sum_by repeats_in notes);
}

-- no counts, and those with one note more
abbrev pub no_counts : Counts
no_counts = record { gaps = 0; missed = 0; late = 0; repeats = 0 }

-- the counts with one note more, none of which passes the greatest number of 64 bits
abbrev pub counted : Counts → Note → Counts
counted counts Next = counts
counted counts (Gap missed) = record counts { gaps = capped (counts.gaps + 1); missed = capped (counts.missed + missed) }
counted counts Repeat = record counts { repeats = capped (counts.repeats + 1) }
counted counts Late = record counts { late = capped (counts.late + 1) }

-- the number due, where it has 64 bits
abbrev pub due_in_64_bits : List ℕ → Option ℕ
due_in_64_bits noted = if nat_lt (due noted) 18446744073709551616 then Some (due noted) else None

-- what was noted in all
abbrev pub tally_of : List ℕ → Tally
tally_of noted =
    let counts = counts_in (notes_of noted) in
    record {
      next = due_in_64_bits noted;
      gaps = counts.gaps;
      missed = counts.missed;
      late = counts.late;
      repeats = counts.repeats;
    }
