use Rattle.std.proofs.Common.{◌≡◌, ◌<◌, ◌≤◌, false, Some, drop, take, length, slice_get, sym, ap, ◌∙◌, arith}
use Rattle.std.proofs.lemmas.List.{get_or_default}
use Rattle.ioam_batch.specs.Crossings.{Crossed, crossings, filled, joined}
use Rattle.ioam_batch.proofs.CrossingLaws.{at-ahead, at-done, at-none, at-past, filled-front, fits-done}
use Rattle.ioam_batch.proofs.crossings.Crossings.at.Goals as goal

pub returns-then-visit-len-clause-sent : goal.returns-then-visit-len-clause-sent
returns-then-visit-len-clause-sent c =
    let i = c.self.inside in
    sym (ap (λ (v : Crossed). joined (slice_get (crossings v) c.args.visit)) c.self.view_is)
    ∙ at-past i.size i.taps.items i.done i.octets.items c.args.visit (omega arith)

pub returns-then-not-index-clause-sent : goal.returns-then-not-index-clause-sent
returns-then-not-index-clause-sent c =
    let i = c.self.inside in
    let inside : c.args.visit < length i.taps.items = omega arith in
    sym (ap (λ (v : Crossed). joined (slice_get (crossings v) c.args.visit)) c.self.view_is)
    ∙ at-none i.size i.taps.items i.done i.octets.items c.args.visit
    (get_or_default i.taps.items c.args.visit false c.index.result.now inside ∙ sym c.index.ensures ∙ c.if-not-index.true)

pub returns-then-visit-self-clause-sent : goal.returns-then-visit-self-clause-sent
returns-then-visit-self-clause-sent c =
    let i = c.self.inside in
    let inside : c.args.visit < length i.taps.items = omega arith in
    let tap = get_or_default i.taps.items c.args.visit false c.index.result.now inside ∙ sym c.index.ensures ∙ c.if-not-index.false in
    sym (ap (λ (v : Crossed). joined (slice_get (crossings v) c.args.visit)) c.self.view_is)
    ∙ at-ahead i.size i.taps.items i.done i.octets.items c.args.visit (omega arith) tap

pub part-requires-clause-within : goal.part-requires-clause-within
part-requires-clause-within c =
    let i = c.self.inside in
    let inside : c.args.visit < length i.taps.items = omega arith in
    let tap = get_or_default i.taps.items c.args.visit false c.index.result.now inside ∙ sym c.index.ensures ∙ c.if-not-index.false in
    let said : filled i.size i.taps.items ≤ length i.octets.items = c.self.invariant.3 in
    let start : c.filled-start.result ≡ filled i.size (take c.args.visit i.taps.items) =
    c.filled-start.ensures.value ∙ ap (λ ts. filled i.size (take c.args.visit ts)) c.deref-2.ensures.value in
    omega (
      arith,
      said,
      start,
      ap length c.deref-3.ensures.value,
      fits-done i.size i.taps.items i.done c.args.visit (omega arith) tap,
      filled-front i.size i.taps.items i.done,
    )

pub returns-clause-sent : goal.returns-clause-sent
returns-clause-sent c =
    let i = c.self.inside in
    let inside : c.args.visit < length i.taps.items = omega arith in
    let tap = get_or_default i.taps.items c.args.visit false c.index.result.now inside ∙ sym c.index.ensures ∙ c.if-not-index.false in
    let start : c.filled-start.result ≡ filled i.size (take c.args.visit i.taps.items) =
    c.filled-start.ensures.value ∙ ap (λ ts. filled i.size (take c.args.visit ts)) c.deref-2.ensures.value in
    sym (ap (λ (v : Crossed). joined (slice_get (crossings v) c.args.visit)) c.self.view_is)
    ∙ at-done i.size i.taps.items i.done i.octets.items c.args.visit (omega arith) tap
    ∙ ap (λ k. Some (take i.size (drop k i.octets.items))) (sym start)
    ∙ ap (λ xs. Some (take i.size (drop c.filled-start.result xs))) (sym c.deref-3.ensures.value)
    ∙ ap Some (sym c.part.ensures.octets)
