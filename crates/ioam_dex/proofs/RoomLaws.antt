-- Laws of room for export records that is written in place.
use Rattle.std.proofs.Common.{◌≡◌, ℕ, ◌+◌, ◌-◌, ◌≤◌, List, ◌++◌, length, take, ap, ◌∙◌, arith, append_assoc, length-append}
use Rattle.ioam_base.specs.Octets.{written}
use Rattle.ioam_base.proofs.WrittenLaws.{written-ahead}
use Rattle.ioam_dex.specs.Room.{Room, appended}

-- a room of these octets, of which so many are in use and so many may be
abbrev pub room_of : List ℕ → ℕ → ℕ → ℕ → Room
room_of octets used given capacity = record { octets = take used octets; spare = given - used; capacity = capacity }

-- the room once a part is written behind what is in use
pub room-written : (room : Room) (octets now part : List ℕ) (used given capacity n : ℕ) → room_of octets used given capacity ≡ room
    → used ≤ length octets → n ≡ length part → now ≡ written octets used part → room_of now (used + n) given capacity ≡ appended room part
room-written room octets now part used given capacity n is within size put =
    let front : take (used + n) now ≡ take used octets ++ part =
    ap (λ m. take (used + m) now) size ∙ ap (λ (xs : List ℕ). take (used + length part) xs) put ∙ written-ahead octets part used within in
    let left : given - (used + n) ≡ given - used - length part = omega (arith, size) in
    let more : room_of now (used + n) given capacity ≡ appended (room_of octets used given capacity) part =
    λ i. record { octets = front i; spare = left i; capacity = capacity } in
    more ∙ ap (λ (r : Room). appended r part) is

-- two parts, one behind the other
pub appended_twice : (room : Room) (a b : List ℕ) → appended (appended room a) b ≡ appended room (a ++ b)
appended_twice room a b =
    let same = append_assoc room.octets a b in
    let left : room.spare - length a - length b ≡ room.spare - length (a ++ b) = omega (arith, length-append a b) in
    λ i. record { octets = same i; spare = left i; capacity = room.capacity }
