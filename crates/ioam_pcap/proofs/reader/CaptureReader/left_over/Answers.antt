use Rattle.std.proofs.Common.{◌≡◌, ◌<◌, ℕ, length, sym, ap, ◌∙◌, subst, rules}
use Rattle.std.specs.Option.{IsSome}
use Rattle.ioam_pcap.specs.declared.capture.CapFault.TheVariants.{Short}
use Rattle.ioam_pcap.specs.Ending.{Faulty}
use Rattle.ioam_pcap.specs.Reads.{Reads}
use Rattle.ioam_pcap.specs.Reader.{link_of}
use Rattle.ioam_pcap.proofs.StandsLaws.{Reads-cut}
use Rattle.ioam_pcap.proofs.reader.CaptureReader.left_over.Goals as goal

pub returns-clause-reads : goal.returns-clause-reads
returns-clause-reads c = λ octets entries stands.
    let old = c.args.self.now in
    let have : length c.pending-have.result.now ≡ length old.pending = ap length c.pending-have.ensures ∙ ap (λ r. length r.pending) c.self.view_is in
    let some : IsSome old.form → 0 < length old.pending = search rules in
    let Q : ℕ → Type 0 = λ n. Reads octets (link_of old) entries (Faulty n (Short (length c.pending-have.result.now))) in
    subst Q (sym (c.start.ensures ∙ ap (λ r. r.start) c.self.view_is)) (Reads-cut old octets entries _ stands c.requires have some)
