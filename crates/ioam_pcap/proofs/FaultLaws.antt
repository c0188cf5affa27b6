-- Where what is due has a fault, each step says it.
use Rattle.std.proofs.Common.{◌≡◌, ℕ, List, Option, Some, None, true, ap, subst, inl, inr}
use Rattle.ioam_pcap.specs.declared.form.Form.{Form}
use Rattle.ioam_pcap.specs.declared.capture.CapFault.{CapFault}
use Rattle.ioam_pcap.specs.declared.capture.CapStep.{CapStep}
use Rattle.ioam_pcap.specs.declared.capture.CapStep.TheVariants.{Bad}
use Rattle.ioam_pcap.specs.Form.{HasHead}
use Rattle.ioam_pcap.specs.Ending.{stays}
use Rattle.ioam_pcap.specs.Entries.{IsWhole}
use Rattle.ioam_pcap.specs.Reads.{FaultAt}
use Rattle.ioam_pcap.specs.Reading.{Reading}
use Rattle.ioam_pcap.specs.Reader.{Waits, HasFault, SaysFault}
use Rattle.ioam_pcap.proofs.ReadsLaws.{head_sound, entry_sound, cut_not_faulty, fault_unique}

-- a fault of what is due stays
pub FaultAt-stays : (octets : List ℕ) (form : Option Form) (at : ℕ) (f : CapFault) → FaultAt octets form at f → stays f ≡ true
FaultAt-stays octets None at f (inl magic) = ap stays magic.1
FaultAt-stays octets None at f (inr link) = ap stays link.1
FaultAt-stays octets (Some form) at f bad = ap stays bad.1

module _ (old : Reading) where
  -- a whole head has none, nor has a whole record, nor what is cut
  pub says_head : (form : Form) → old.form ≡ None → HasHead old.pending form → (step : CapStep) → SaysFault old step
  says_head form none head step f bad = let Q : Option Form → Type 0 = λ o. FaultAt old.pending o 0 f in
      absurd (head_sound old.pending form f head (subst Q none bad))

  pub says_entry : (form : Form) → old.form ≡ Some form → IsWhole form old.pending 0 → (step : CapStep) → SaysFault old step
  says_entry form some whole step f bad = let Q : Option Form → Type 0 = λ o. FaultAt old.pending o 0 f in
      absurd (entry_sound old.pending form 0 f whole (subst Q some bad))

  pub says_cut : Waits old → (step : CapStep) → SaysFault old step
  says_cut waits step f bad = absurd (cut_not_faulty old.pending old.form 0 f waits bad)

  -- there is one
  pub says_bad : (at : ℕ) (g : CapFault) → at ≡ old.start → HasFault old g → SaysFault old (Bad at g)
  says_bad at g here has f bad = let same = fault_unique old.pending old.form 0 g f has bad in λ i. Bad (here i) (same i)
