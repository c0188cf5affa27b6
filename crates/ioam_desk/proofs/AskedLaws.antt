-- Laws of names that were given to opening calls, and of their slots.
use Rattle.std.proofs.Common.{◌≡◌, ℕ, List, [], ◌∷◌, length, ◌∙◌, ap, length-append, arith}
use Rattle.ioam_desk.specs.Asked.{HaveSlots}
use Rattle.ioam_desk.specs.Desk.{Side, opened_each, opened_side}

-- no name was given to one, and no slot made
pub HaveSlots-same : (old new : Side) → new.asked ≡ old.asked → new.slots ≡ old.slots → HaveSlots old new
HaveSlots-same old new asked slots = omega (arith, slots, ap (λ (names : List (List ℕ)). length names) asked)

-- nothing changed
pub HaveSlots-still : (old new : Side) → new ≡ old → HaveSlots old new
HaveSlots-still old new same = HaveSlots-same old new (ap (λ (s : Side). s.asked) same) (ap (λ (s : Side). s.slots) same)

-- all of these names were given to them, and a slot made for each
pub HaveSlots-each : (old new : Side) (names : List (List ℕ)) → new ≡ opened_each old names → HaveSlots old new
HaveSlots-each old new names opened = omega (
  arith,
  ap (λ (s : Side). s.slots) opened,
  ap (λ (s : Side). length s.asked) opened ∙ length-append old.asked names,
)

-- one was
pub HaveSlots-one : (old new : Side) (name : List ℕ) → new ≡ opened_side old name → HaveSlots old new
HaveSlots-one old new name opened = HaveSlots-each old new (name ∷ []) opened

-- and then
pub HaveSlots-then : (old mid new : Side) → HaveSlots old mid → HaveSlots mid new → HaveSlots old new
HaveSlots-then old mid new first then = omega (arith, first, then)
