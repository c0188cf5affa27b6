use Rattle.std.proofs.Common.{ℕ, List, replicate, refl, ap, ◌∙◌}
use Rattle.ioam_base.specs.Octets.{written}
use Rattle.ioam_pcap.proofs.OrderLaws.{four_written}
use Rattle.ioam_pcap.proofs.numbers.EntryNumbers.in_octets.Goals as goal

pub returns : goal.returns
returns g c =
    let octets : ℕ → List ℕ = g.B.ByteOrder.bytes_of 4 in
    let long = g.met.B.ByteOrder.length_bytes 4 in
    let numbers = c.args.self in
    c.put_at-4.ensures
    ∙ ap (λ xs. written xs 12 (octets numbers.original)) c.put_at-3.ensures
    ∙ ap (λ xs. written (written xs 8 (octets numbers.captured)) 12 (octets numbers.original)) c.put_at-2.ensures
    ∙ ap (λ xs. written (written (written xs 4 (octets numbers.fraction)) 8 (octets numbers.captured)) 12 (octets numbers.original)) c.put_at.ensures
    ∙ four_written (replicate 16 0) (octets numbers.seconds) (octets numbers.fraction) (octets numbers.captured) (octets numbers.original) refl
    (long numbers.seconds) (long numbers.fraction) (long numbers.captured) (long numbers.original)
