-- How captures in the form pcapng read while more of them may come.
use Rattle.std.proofs.Common.{◌≡◌, ℕ, Bool, true, false, List, ◌++◌, Some, None, refl, ap, inl, inr}
use Rattle.std.specs.Prelude.{if◌then◌else◌}
use Rattle.ioam_pcap.specs.declared.capture.CapFault.{CapFault}
use Rattle.ioam_pcap.specs.Ending.{Ending, Whole, Faulty, stays}
use Rattle.ioam_pcap.specs.Entries.{Taken}
use Rattle.ioam_ng.specs.Reading.{Reading}
use Rattle.ioam_ng.specs.Reads.{Reads}
use Rattle.ioam_ng.specs.Reader.{Stands, Waits, IsFaulty}
use Rattle.ioam_ng.specs.Reading.{place_of}
use Rattle.ioam_ng.proofs.ReadsLaws.{Reads-unique}
use Rattle.ioam_ng.proofs.LaterLaws.{IsOpen, Reads-later, Reads-stays, Waits-reads, Faulty-reads}
use Rattle.ioam_ng.proofs.ShortLaws.{HasFault-stays}
use Rattle.ioam_capture.specs.Streams.{known_ending}
use Rattle.ioam_capture.proofs.ClassicLaws.{GoesOn, stays_known}

open_unknown : (ending : Ending) → IsOpen ending → known_ending false ending ≡ None
open_unknown Whole unended = refl
open_unknown (Faulty at f) unended = ap (λ b. if b then Some (Faulty at f) else None) unended

pub Ng-later : (octets more : List ℕ) (xs ys : List Taken) (d e : Ending) → Reads octets xs d → Reads (octets ++ more) ys e → GoesOn xs d ys e
Ng-later octets more xs ys Whole e x y = inl (refl, Reads-later octets more xs ys Whole e x y)
Ng-later octets more xs ys (Faulty at f) e x y = by (stays f) refl
  where
    by : (b : Bool) → stays f ≡ b → GoesOn xs (Faulty at f) ys e
    by false short = inl (open_unknown (Faulty at f) short, Reads-later octets more xs ys (Faulty at f) e x y)
    by true still =
        let same = Reads-unique (octets ++ more) ys xs e (Faulty at f) y (Reads-stays octets more xs at f still x) in
        inr (same.0, same.1, stays_known false at f still)

module _ (reader : Reading) (octets : List ℕ) (taken : List Taken) (stands : Stands reader octets taken) where
  -- what is due is cut, or has a fault
  pub Ng-waits : Waits reader → (ending : Ending) × Reads octets taken ending × (known_ending false ending ≡ None)
  Ng-waits waits =
      let (ending, reads, unended) = Waits-reads reader octets taken stands waits in
      (ending, reads, open_unknown ending unended)

  pub Ng-fault : (f : CapFault) → IsFaulty reader f → Reads octets taken (Faulty reader.start f) × (stays f ≡ true)
  Ng-fault f bad = (Faulty-reads reader octets taken stands f bad, HasFault-stays (place_of reader) f bad)
