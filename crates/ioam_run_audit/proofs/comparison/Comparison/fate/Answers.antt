use Rattle.std.proofs.Common.{◌≡◌, ℕ, List, None, slice_get, IsTrue, rules, refl, sym, subst}
use Rattle.ioam_audit.specs.Sent.{IsSentAs, end_of}
use Rattle.ioam_topo.specs.Domain.{links}
use Rattle.ioam_run_audit.proofs.comparison.Comparison.fate.Goals as goal

pub returns-then-can_send : goal.returns-then-can_send
returns-then-can_send c =
    let seat = c.args.self.now.seat in
    let P : List ℕ → List ℕ → Type 0 = λ p q. IsSentAs seat.domain.now seat.node.0 (end_of (slice_get (links seat.domain.now) seat.link.0)) p q in
    let none : c.args.why ≡ None = search rules in
    let sent : P c.deref.result.now c.deref-2.result.now = c.can_send.ensures.0 c.if-can_send.true in
    let first : P c.args.self.now.before.packet.items c.deref-2.result.now = subst (λ p. P p c.deref-2.result.now) c.deref.ensures.value sent in
    (none, c.in-Held.is, subst (λ q. P c.args.self.now.before.packet.items q) c.deref-2.ensures.value first, refl)

pub returns-else-can_send : goal.returns-else-can_send
returns-else-can_send c =
    let seat = c.args.self.now.seat in
    let P : List ℕ → List ℕ → Type 0 = λ p q. IsSentAs seat.domain.now seat.node.0 (end_of (slice_get (links seat.domain.now) seat.link.0)) p q in
    let none : c.args.why ≡ None = search rules in
    let never : P c.deref.result.now c.deref-2.result.now → IsTrue c.can_send.result = c.can_send.ensures.1 in
    let wrong : IsTrue c.can_send.result → ⊥ = λ is. absurd (cc (is, c.if-can_send.false)) in (
      none,
      λ held legal.
          let first : P c.deref.result.now c.args.self.now.after.packet.items = subst (λ p. P p c.args.self.now.after.packet.items) (sym c.deref.ensures.value) legal in
          wrong (never (subst (λ q. P c.deref.result.now q) (sym c.deref-2.ensures.value) first)),
    )
