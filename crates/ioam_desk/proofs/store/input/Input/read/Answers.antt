use Rattle.std.proofs.Common.{◌≡◌, List, ℕ, ◌+◌, ◌-◌, ◌++◌, take, drop, arith, ap, sym, subst, ◌∙◌}
use Rattle.ioam_desk.specs.Unread.{Unread}
use Rattle.ioam_desk.proofs.MovesLaws.{drop-moved, drop-kept}
use Rattle.ioam_desk.proofs.store.input.Input.read.Goals as goal

-- the fields are a view of the slot, and the copy is of what is left in them
pub returns-clause-moved : goal.returns-clause-moved
returns-clause-moved c =
    let octets = c.self.inside.octets.items in
    let at = c.self.inside.at in
    let count = c.min-count.result in
    let P : List ℕ → Type 0 = λ into. drop at octets ≡ take count into ++ drop (at + count) octets in
    ap (λ (slot : Unread). slot.left) (sym c.self.view_is)
    ∙ subst P (sym c.put_at.ensures)
    (drop-moved octets _ c.args.into.now at count (ap (λ (xs : List ℕ). take (at + count - at) (drop at xs)) c.deref.ensures.value)
    (omega (arith, c.self.inside.octets.ok.0)))

pub returns-clause-kept : goal.returns-clause-kept
returns-clause-kept c =
    let octets = c.self.inside.octets.items in
    let at = c.self.inside.at in
    let count = c.min-count.result in
    let P : List ℕ → Type 0 = λ into. drop count into ≡ drop count c.args.into.now in
    subst P (sym c.put_at.ensures)
    (drop-kept octets _ c.args.into.now at count (ap (λ (xs : List ℕ). take (at + count - at) (drop at xs)) c.deref.ensures.value)
    (omega (arith, c.self.inside.octets.ok.0)))
