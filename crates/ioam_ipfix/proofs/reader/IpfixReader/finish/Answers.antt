use Rattle.std.proofs.Common.{◌≡◌, ◌-◌, ◌<◌, ℕ, length, length-drop, sym, ap, subst, arith}
use Rattle.std.proofs.lemmas.List.{nil_from_length}
use Rattle.ioam_ipfix.specs.declared.fault.IpfixFault.TheVariants.{Short}
use Rattle.ioam_ipfix.specs.Reads.{Faulty}
use Rattle.ioam_ipfix.specs.Reading.{Reading}
use Rattle.ioam_ipfix.specs.Reader.{ReadsSo}
use Rattle.ioam_ipfix.proofs.ReaderLaws.{reads-whole, reads-cut, some-from}
use Rattle.ioam_ipfix.proofs.reader.IpfixReader.finish.Goals as goal

pub returns-then-have-eq0-clause-reads : goal.returns-then-have-eq0-clause-reads
returns-then-have-eq0-clause-reads c =
    let inside = c.self.inside in
    let pending = ap (λ (r : Reading). length r.pending) c.self.view_is in
    let left = length-drop inside.size inside.octets.pending in
    let here = ap length c.pending.ensures in
    let fits = c.self.invariant.0 in
    let none : length c.args.self.now.pending ≡ 0 = omega (arith, pending, left, here, fits, c.if-have-eq0.true) in
    reads-whole c.args.self.now c.requires (nil_from_length c.args.self.now.pending none)

pub overflow_cast-result : goal.overflow_cast-result
overflow_cast-result c =
    let inside = c.self.inside in
    let pending = ap (λ (r : Reading). length r.pending) c.self.view_is in
    let left = length-drop inside.size inside.octets.pending in
    let here = ap length c.pending.ensures in
    let fits = c.self.invariant.0 in
    let few = c.requires.2 in
    omega (arith, pending, left, here, fits, few)

pub returns-clause-reads : goal.returns-clause-reads
returns-clause-reads c = λ octets given stands.
    let self = c.args.self.now in
    let inside = c.self.inside in
    let have = length c.pending.result.now - inside.size in
    let pending = ap (λ (r : Reading). length r.pending) c.self.view_is in
    let left = length-drop inside.size inside.octets.pending in
    let here = ap length c.pending.ensures in
    let fits = c.self.invariant.0 in
    let many : have ≡ length self.pending = omega (arith, pending, left, here, fits) in
    let some : 0 < length self.pending = subst (λ n. 0 < n) many (some-from have c.if-have-eq0.false) in
    let start : c.start.result ≡ self.start = c.start.ensures in
    let P : ℕ → Type 0 = λ h. ReadsSo octets given (Faulty self.start (Short h)) in
    let Q : ℕ → Type 0 = λ n. ReadsSo octets given (Faulty n (Short have)) in
    subst Q (sym start) (subst P (sym many) (reads-cut self c.requires some octets given stands))
