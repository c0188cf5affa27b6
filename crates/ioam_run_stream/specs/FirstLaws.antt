-- The records that a reader has given are the first of the capture, whatever follows what was read. These laws stand among the
-- definitions, since an `impl` names what rests on them.
use Rattle.std.proofs.Common.{◌≡◌, ℕ, zero, suc, ◌≤◌, false, List, [], ◌∷◌, ◌++◌, length, None, refl, sym, ◌∙◌, ap, subst, ⊎_elim, append-nil, append_assoc, arith}
use Rattle.ioam_capture.specs.Reader.{Stands}
use Rattle.ioam_capture.specs.Reading.{Reading}
use Rattle.ioam_capture.specs.Reads.{Reads}
use Rattle.ioam_capture.specs.Streams.{ShowsSo}
use Rattle.ioam_capture.proofs.ClassicLaws.{GoesOn}
use Rattle.ioam_capture.proofs.ReadsLaws.{Reads-total, Reads-later}
use Rattle.ioam_desk_outputs.specs.Told.{said_more}
use Rattle.ioam_capture.proofs.StandsLaws.{Stands-begins, Shows-front}
use Rattle.ioam_pcap.specs.Ending.{Ending}
use Rattle.ioam_pcap.specs.Entries.{Taken}
use Rattle.ioam_run_stream.specs.Promise.{AreFirst}

first_of : (octets : List ℕ) (taken : List Taken)
    → ((all : List Taken) (ending : Ending) → Reads octets all ending → (rest : List Taken) × (all ≡ taken ++ rest)) → AreFirst taken octets
first_of octets taken begins =
    let (all, ending, reads) = Reads-total octets in
    let (rest, is) = begins all ending reads in
    let P : List Taken → Type 0 = λ ts. Reads octets ts ending in
    record { rest = rest; ending = ending; reads = subst P is reads }

-- by the reader
pub given_first : (reader : Reading) (octets left : List ℕ) (taken : List Taken) → Stands reader octets taken → AreFirst taken (octets ++ left)
given_first reader octets left taken stands = first_of (octets ++ left) taken (Stands-begins reader octets taken stands left)

-- by what was handed out
pub shown_first : (octets left : List ℕ) (taken : List Taken) → ShowsSo octets false taken None → AreFirst taken (octets ++ left)
shown_first octets left taken shows = first_of (octets ++ left) taken (λ all ending reads. Shows-front octets left taken all None ending shows reads)

pub shown_all : (octets : List ℕ) (taken : List Taken) → ShowsSo octets false taken None → AreFirst taken octets
shown_all octets taken shows = subst (λ (xs : List ℕ). AreFirst taken xs) (append-nil octets) (shown_first octets [] taken shows)

-- all records are the first
pub first_of_all : (ending : Ending) (taken : List Taken) (octets : List ℕ) → Reads octets taken ending → AreFirst taken octets
first_of_all ending taken octets reads = record {
  rest = [];
  ending = ending;
  reads = subst (λ (ts : List Taken). Reads octets ts ending) (sym (append-nil taken)) reads;
}

-- the first records are so whatever follows
goes_on : (xs ys : List Taken) (d e : Ending) → GoesOn xs d ys e → (others : List Taken) × (ys ≡ xs ++ others)
goes_on xs ys d e on = ⊎_elim (λ more. more.1) (λ same. ([], same.0 ∙ sym (append-nil xs))) on

pub first_more : (octets more : List ℕ) (taken : List Taken) → AreFirst taken octets → AreFirst taken (octets ++ more)
first_more octets more taken first =
    let (all, ending, reads) = Reads-total (octets ++ more) in
    let (others, is) = goes_on (taken ++ first.rest) all first.ending ending (Reads-later octets more (taken ++ first.rest) all first.ending ending first.reads reads) in
    record {
      rest = first.rest ++ others;
      ending = ending;
      reads = subst (λ (ts : List Taken). Reads (octets ++ more) ts ending) (is ∙ append_assoc taken first.rest others) reads;
    }

pub first_none : (octets : List ℕ) → AreFirst [] octets
first_none octets = let (all, ending, reads) = Reads-total octets in record { rest = all; ending = ending; reads = reads }

-- nothing said to each of some outputs
abbrev pub said_nothing : ℕ → List (List ℕ)
said_nothing zero = []
said_nothing (suc width) = [] ∷ said_nothing width

pub unsaid_sized : (width : ℕ) → length (said_nothing width) ≡ width
unsaid_sized zero = refl
unsaid_sized (suc width) = ap suc (unsaid_sized width)

pub nothing_more : (width : ℕ) (so : List (List ℕ)) → length so ≡ width → so ≡ said_more so (said_nothing width)
nothing_more zero [] size = refl
nothing_more zero (text ∷ so) size = absurd (omega (arith, size))
nothing_more (suc width) [] size = absurd (omega (arith, size))
nothing_more (suc width) (text ∷ so) size =
    ap (λ (first : List ℕ). first ∷ so) (sym (append-nil text)) ∙ ap (λ (rest : List (List ℕ)). (text ++ []) ∷ rest) (nothing_more width so (omega (arith, size)))

pub more_sized : (width : ℕ) (so added : List (List ℕ)) → length so ≡ width → length added ≡ width → length (said_more so added) ≡ width
more_sized width [] [] size sizes = size
more_sized width [] (x ∷ added) size sizes = absurd (omega (arith, size, sizes))
more_sized width (text ∷ so) [] size sizes = absurd (omega (arith, size, sizes))
more_sized zero (text ∷ so) (x ∷ added) size sizes = absurd (omega (arith, size))
more_sized (suc width) (text ∷ so) (x ∷ added) size sizes = ap suc (more_sized width so added (omega (arith, size)) (omega (arith, sizes)))

pub none_few : (limit : ℕ) → length {A = Taken} [] ≤ limit
none_few limit = omega arith
