use Rattle.std.proofs.Common.{◌≡◌, ◌+◌, ◌-◌, ℕ, List, length, sym, ap, ◌∙◌, subst, arith, None}
use Rattle.ioam_base.specs.Octets.{u32_at}
use Rattle.ioam_dex.specs.Reader as dex
use Rattle.ioam_part.specs.Faults.{HasFault}
use Rattle.ioam_part.specs.Reading.{PartReading, IsBehind}
use Rattle.ioam_part.proofs.ReaderLaws.{behind_end, count_is, faulty_end, full_end, kept_small, opened_end, part_end, read_end, short_end}
use Rattle.ioam_part.proofs.reader.PartReader.refusal.Goals as goal

pub returns-in-Some : goal.returns-in-Some
returns-in-Some c =
    let r = c.args.self.now in
    λ limit octets stands. faulty_end limit octets r c.in-Some.at c.in-Some.fault (ap (λ (q : PartReading). q.progress.fault) (sym c.self.view_is) ∙ c.in-Some.is) stands

pub returns-then-len-lt-HEAD_SIZE : goal.returns-then-len-lt-HEAD_SIZE
returns-then-len-lt-HEAD_SIZE c =
    let r = c.args.self.now in
    let none : r.progress.fault ≡ None = ap (λ (q : PartReading). q.progress.fault) (sym c.self.view_is) ∙ c.in_default.is in
    let head : c.octets-head.result.now ≡ r.head = c.octets-head.ensures ∙ ap (λ (q : PartReading). q.head) c.self.view_is in
    let size = ap length head in
    λ limit octets stands.
    subst (λ (o : List ℕ). HasFault o c.cut_of-at.result.0 c.cut_of-at.result.1)
    (head ∙ sym (opened_end limit octets r none (omega (arith, size, c.if-len-lt-HEAD_SIZE.true)) stands)) c.cut_of-at.ensures

pub returns-then-given-count : goal.returns-then-given-count
returns-then-given-count c =
    let r = c.args.self.now in
    let none : r.progress.fault ≡ None = ap (λ (q : PartReading). q.progress.fault) (sym c.self.view_is) ∙ c.in_default.is in
    let head : c.octets-head.result.now ≡ r.head = c.octets-head.ensures ∙ ap (λ (q : PartReading). q.head) c.self.view_is in
    let size = ap length head in
    let given : c.self.inside.progress.given ≡ r.progress.given = ap (λ (q : PartReading). q.progress.given) c.self.view_is in
    λ limit octets stands.
    let b : IsBehind limit octets r = behind_end limit octets r none (λ less. omega (arith, less, size, c.if-len-lt-HEAD_SIZE.false)) stands in
    let count : c.u32_at-count.result ≡ b.count = c.u32_at-count.ensures ∙ ap (λ (o : List ℕ). u32_at o 8) head ∙ count_is limit octets r b in
    let ends : c.self.inside.progress.end ≡ r.progress.end = ap (λ (q : PartReading). q.progress.end) c.self.view_is in
    let left : c.saturating_sub-left.result ≡ dex.fed r.reading - r.progress.end =
    c.saturating_sub-left.ensures ∙ ap (λ (n : ℕ). n - c.self.inside.progress.end) c.fed.ensures
    ∙ ap (λ (q : PartReading). dex.fed q.reading - q.progress.end) c.self.view_is in
    short_end limit octets r b c.place_of-at.result c.min-have.result (omega (arith, given, count, c.if-given-count.true))
    (λ small. kept_small c.saturating_sub-left.result c.from.result c.min-have.result c.min-have.ensures c.from.ensures (omega (arith, small, left)) ∙ left)
    (λ low. c.place_of-at.ensures (omega (arith, low, ends)) ∙ ap (λ (n : ℕ). 12 + n) ends)

pub returns-then-full : goal.returns-then-full
returns-then-full c =
    let r = c.args.self.now in
    let none : r.progress.fault ≡ None = ap (λ (q : PartReading). q.progress.fault) (sym c.self.view_is) ∙ c.in_default.is in
    let head : c.octets-head.result.now ≡ r.head = c.octets-head.ensures ∙ ap (λ (q : PartReading). q.head) c.self.view_is in
    let size = ap length head in
    let given : c.self.inside.progress.given ≡ r.progress.given = ap (λ (q : PartReading). q.progress.given) c.self.view_is in
    λ limit octets stands.
    let b : IsBehind limit octets r = behind_end limit octets r none (λ less. omega (arith, less, size, c.if-len-lt-HEAD_SIZE.false)) stands in
    let count : c.u32_at-count.result ≡ b.count = c.u32_at-count.ensures ∙ ap (λ (o : List ℕ). u32_at o 8) head ∙ count_is limit octets r b in
    let part = part_end limit octets r b (λ less. omega (arith, less, given, count, c.if-given-count.false)) in
    (b.records, part, full_end limit octets r b (ap (λ (q : PartReading). q.progress.full) (sym c.self.view_is) ∙ c.if-full.true))

pub returns : goal.returns
returns c =
    let r = c.args.self.now in
    let none : r.progress.fault ≡ None = ap (λ (q : PartReading). q.progress.fault) (sym c.self.view_is) ∙ c.in_default.is in
    let head : c.octets-head.result.now ≡ r.head = c.octets-head.ensures ∙ ap (λ (q : PartReading). q.head) c.self.view_is in
    let size = ap length head in
    let given : c.self.inside.progress.given ≡ r.progress.given = ap (λ (q : PartReading). q.progress.given) c.self.view_is in
    λ limit octets stands.
    let b : IsBehind limit octets r = behind_end limit octets r none (λ less. omega (arith, less, size, c.if-len-lt-HEAD_SIZE.false)) stands in
    let count : c.u32_at-count.result ≡ b.count = c.u32_at-count.ensures ∙ ap (λ (o : List ℕ). u32_at o 8) head ∙ count_is limit octets r b in
    let part = part_end limit octets r b (λ less. omega (arith, less, given, count, c.if-given-count.false)) in
    read_end limit octets r b (ap (λ (q : PartReading). q.progress.full) (sym c.self.view_is) ∙ c.if-full.false) part
