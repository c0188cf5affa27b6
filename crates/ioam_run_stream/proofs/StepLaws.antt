-- A step of a reader of captures.
use Rattle.std.proofs.Common.{◌≡◌, ℕ, List, [], ◌++◌, refl, subst, append-nil, arith}
use Rattle.ioam_capture.specs.Reader.{Stands}
use Rattle.ioam_capture.specs.Reading.{Reading, Front, Classic, Ng, most_held}
use Rattle.ioam_pcap.specs.Entries.{Taken}

-- a step that gives no record
pub stands_still : (reader : Reading) (octets : List ℕ) (taken : List Taken) → Stands reader octets (taken ++ []) → Stands reader octets taken
stands_still reader octets taken stands = let P : List Taken → Type 0 = λ ts. Stands reader octets ts in subst P (append-nil taken) stands

-- the octets say of which form the capture is
pub same_most : (old new : Reading) (octets : List ℕ) (taken others : List Taken) → Stands old octets taken → Stands new octets others
    → most_held new ≡ most_held old
same_most (Front held) (Front other) octets taken others x y = refl
same_most (Front held) (Classic reader) octets taken others x y = absurd (omega (arith, x.1, y.1))
same_most (Front held) (Ng reader) octets taken others x y = absurd (omega (arith, x.1, y.0.0))
same_most (Classic reader) (Front held) octets taken others x y = absurd (omega (arith, x.1, y.1))
same_most (Classic reader) (Classic other) octets taken others x y = refl
same_most (Classic reader) (Ng other) octets taken others x y = absurd (x.0 y.0)
same_most (Ng reader) (Front held) octets taken others x y = absurd (omega (arith, x.0.0, y.1))
same_most (Ng reader) (Classic other) octets taken others x y = absurd (y.0 x.0)
same_most (Ng reader) (Ng other) octets taken others x y = refl
