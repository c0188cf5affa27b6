use Rattle.std.proofs.Common.{◌≡◌, length, sym, ap, ◌∙◌, subst}
use Rattle.ioam_pcap.specs.declared.capture.CapFault.{CapFault}
use Rattle.ioam_pcap.specs.declared.capture.CapFault.TheVariants.{Short}
use Rattle.ioam_pcap.specs.Ending.{Faulty}
use Rattle.ioam_capture.specs.Inside.{seen}
use Rattle.ioam_capture.specs.Reading.{Reading, Front}
use Rattle.ioam_capture.specs.Reads.{Reads}
use Rattle.ioam_capture.specs.Reader.{Stands}
use Rattle.ioam_capture.proofs.DueLaws.{front-ends}
use Rattle.ioam_capture.proofs.reader.Reader.left_over.Goals as goal

pub returns-in-Front : goal.returns-in-Front
returns-in-Front c octets taken stands =
    let now : c.args.self.now ≡ Front c.in-Front.held.items = sym c.self.view_is ∙ ap seen c.in-Front.is in
    let P : Reading → Type 0 = λ r. Stands r octets taken in
    let Q : CapFault → Type 0 = λ f. Reads octets taken (Faulty 0 f) in
    let fault : c.short.result ≡ Short (length c.in-Front.held.items) = c.short.ensures ∙ ap (λ xs. Short (length xs)) c.deref.ensures.value in
    subst Q (sym fault) (front-ends c.in-Front.held.items octets taken (subst P now stands))
