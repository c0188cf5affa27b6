-- What a step of a form's reader says where what is due has a fault.
use Rattle.std.proofs.Common.{◌≡◌, ℕ, sym, subst}
use Rattle.ioam_pcap.specs.declared.capture.CapFault.{CapFault}
use Rattle.ioam_pcap.specs.declared.capture.CapStep.{CapStep}
use Rattle.ioam_pcap.specs.declared.capture.CapStep.TheVariants as cap
use Rattle.ioam_ip.specs.declared.layer.Layer.{Layer}
use Rattle.ioam_pcap.specs.Reading as classic_reading
use Rattle.ioam_pcap.specs.Reader as classic
use Rattle.ioam_ng.specs.declared.reader.NgStep.{NgStep}
use Rattle.ioam_ng.specs.declared.reader.NgStep.TheVariants as ng_step
use Rattle.ioam_ng.specs.Reading as ng_reading
use Rattle.ioam_ng.specs.Reader as ng
use Rattle.ioam_capture.specs.declared.reader.Step.TheVariants.{Packet, More, Bad, NoMemory}
use Rattle.ioam_capture.specs.Reading.{Reading, Classic, Ng}
use Rattle.ioam_capture.specs.Reader.{HasFault, SaysFault, KeepsFault}

-- a reader that changes nothing
pub keeps_fault : (old new : Reading) → new ≡ old → KeepsFault old new
keeps_fault old new same at f has = subst (λ r. HasFault r at f) (sym same) has

-- ---- of the classic form

module _ (old : classic_reading.Reading) where
  abbrev pub ClassicSays : CapStep → Type 0
  ClassicSays (cap.Packet p) = (link : Layer) → SaysFault (Classic old) (Packet link p)
  ClassicSays cap.More = SaysFault (Classic old) More
  ClassicSays (cap.Bad at f) = SaysFault (Classic old) (Bad at f)
  ClassicSays (cap.Head other) = (at : ℕ) (f : CapFault) → HasFault (Classic old) at f → ⊥

  pub classic_says : (step : CapStep) → classic.SaysFault old step → ClassicSays step
  classic_says (cap.Packet p) says = λ link at f has.
      let wrong : cap.Packet p ≡ cap.Bad old.start f = says f has.1 in
      cc
  classic_says cap.More says = λ at f has.
      let wrong : cap.More ≡ cap.Bad old.start f = says f has.1 in
      cc
  classic_says (cap.Bad place g) says = λ at f has.
      let same : cap.Bad place g ≡ cap.Bad old.start f = says f has.1 in
      let here : at ≡ old.start = has.0 in
      cc
  classic_says (cap.Head other) says = λ at f has.
      let wrong : cap.Head other ≡ cap.Bad old.start f = says f has.1 in
      cc

-- ---- of the form pcapng

module _ (old new : ng_reading.Reading) where
  abbrev pub NgSays : NgStep → Type 0
  NgSays (ng_step.Packet link p) = SaysFault (Ng old) (Packet link p)
  NgSays ng_step.More = SaysFault (Ng old) More
  NgSays (ng_step.Bad at f) = SaysFault (Ng old) (Bad at f)
  NgSays ng_step.NoMemory = SaysFault (Ng old) NoMemory

  pub ng_says : (step : NgStep) → ng.SaysFault old new step → NgSays step
  ng_says (ng_step.Packet link p) says = λ at f has.
      let wrong : ng_step.Packet link p ≡ ng_step.Bad old.start f = (says f has.1).0 in
      cc
  ng_says ng_step.More says = λ at f has.
      let wrong : ng_step.More ≡ ng_step.Bad old.start f = (says f has.1).0 in
      cc
  ng_says (ng_step.Bad place g) says = λ at f has.
      let same : ng_step.Bad place g ≡ ng_step.Bad old.start f = (says f has.1).0 in
      let here : at ≡ old.start = has.0 in
      cc
  ng_says ng_step.NoMemory says = λ at f has.
      let wrong : ng_step.NoMemory ≡ ng_step.Bad old.start f = (says f has.1).0 in
      cc
