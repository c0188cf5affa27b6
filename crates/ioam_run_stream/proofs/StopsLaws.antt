-- Records that are the first of a capture, by why no more were taken.
use Rattle.std.proofs.Common.{ℕ, List, sym, subst}
use Rattle.ioam_pcap.specs.Ending.{Ending}
use Rattle.ioam_pcap.specs.Entries.{Taken}
use Rattle.ioam_run_stream.specs.Promise.{EndsSo, AreFirst, ArePassed, AreWhole}
use Rattle.ioam_run_stream.specs.FirstLaws.{shown_first, first_of_all}

-- these are the first records of the octets
abbrev pub Begins : (List Taken → List ℕ → Type 0) → Type 0
Begins Are = (taken : List Taken) (octets : List ℕ) → Are taken octets → AreFirst taken octets

pub begins_ends : (ending : Ending) → Begins (EndsSo ending)
begins_ends ending taken octets reads = first_of_all ending taken octets reads

pub begins_passed : (most : ℕ) → Begins (ArePassed most)
begins_passed most taken octets passed = passed.first

pub begins_whole : (left : List ℕ) → Begins (AreWhole left)
begins_whole left taken octets whole =
    let P : List ℕ → Type 0 = λ o. AreFirst taken o in
    subst P (sym whole.parts) (shown_first whole.handed left taken whole.shows)
