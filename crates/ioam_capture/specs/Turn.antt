-- Which of several captures comes next, by what is due of each.
use Rattle.std.specs.Prelude.{◌≡◌, ℕ, ◌+◌, ◌<◌, ⊤, List, [], ◌∷◌, length, map, Option, Some, None, slice_get, nat_lt, if◌then◌else◌}
use Rattle.ioam_pcap.specs.Pick.{IsLeast}
use Rattle.ioam_capture.specs.declared.turns.Due.{Due}
use Rattle.ioam_capture.specs.declared.turns.Due.TheVariants.{Record, End, Bad, More}
use Rattle.ioam_capture.specs.declared.turns.Turn.{Turn}
use Rattle.ioam_capture.specs.declared.turns.Turn.TheVariants.{Next, Over, Broken, Unshown}

-- the turn where this is due of a capture, and the turn of those behind it is this
abbrev pub ahead : ℕ → Due → Turn → Turn
ahead place More turn = Unshown
ahead place End turn = turn
ahead place (Bad at fault) Unshown = Unshown
ahead place (Bad at fault) Over = Broken place at fault
ahead place (Bad at fault) (Next k time) = Broken place at fault
ahead place (Bad at fault) (Broken k there other) = Broken place at fault
ahead place (Record time) Unshown = Unshown
ahead place (Record time) Over = Next place time
ahead place (Record time) (Next k least) = if nat_lt least time then Next k least else Next place time
ahead place (Record time) (Broken k there other) = Broken k there other

-- the turn of the captures from a place on
abbrev pub turn_from : ℕ → List Due → Turn
turn_from place [] = Over
turn_from place (due ∷ dues) = ahead place due (turn_from (place + 1) dues)

-- the turn of several captures
abbrev pub turn_of : List Due → Turn
turn_of dues = turn_from 0 dues

-- a capture that has a record or has ended
abbrev pub IsReady : Due → Type 0
IsReady (Record time) = ⊤
IsReady End = ⊤
IsReady (Bad at fault) = ⊥
IsReady More = ⊥

-- it is known what is due of the capture
abbrev pub IsShown : Due → Type 0
IsShown (Record time) = ⊤
IsShown End = ⊤
IsShown (Bad at fault) = ⊤
IsShown More = ⊥

-- the time of the record that is due of a capture, or none
abbrev pub time_of : Due → Option ℕ
time_of (Record time) = Some time
time_of End = None
time_of (Bad at fault) = None
time_of More = None

-- The same in words of their own: of all captures something is known and none is faulty, and this
-- one has the least time, the first of those that have it; all have ended; of all something is
-- known, and this one is the first that is faulty; or of one it isn't known what is due.
abbrev pub IsTurn : List Due → Turn → Type 0
IsTurn dues (Next place time) = ((k : ℕ) (due : Due) → slice_get dues k ≡ Some due → IsReady due)
    × IsLeast (length dues) (map time_of dues) place time
IsTurn dues Over = (k : ℕ) (due : Due) → slice_get dues k ≡ Some due → due ≡ End
IsTurn dues (Broken place at fault) = (slice_get dues place ≡ Some (Bad at fault))
    × ((k : ℕ) (due : Due) → slice_get dues k ≡ Some due → IsShown due)
    × ((k : ℕ) (due : Due) → k < place → slice_get dues k ≡ Some due → IsReady due)
IsTurn dues Unshown = (k : ℕ) × (slice_get dues k ≡ Some More)
