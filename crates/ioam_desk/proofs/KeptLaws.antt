-- Laws of what calls leave as it was, one call after another.
use Rattle.std.proofs.Common.{◌≡◌, ℕ, ◌≤◌, [], refl, sym, ◌∙◌, ap, subst, append-nil, arith}
use Rattle.ioam_desk.specs.Desk.{Reading, Writing, SameBut}
use Rattle.ioam_desk.specs.Kept.{KeepsInputs, KeepsOutputs}

-- nothing changed
pub KeepsInputs-same : (old new : Reading) → new ≡ old → KeepsInputs old new
KeepsInputs-same old new same =
    let P : Reading → Type 0 = λ now. KeepsInputs old now in
    subst P (sym same) (record { left = λ k below. refl; ended = λ k below. refl })

-- and then
pub KeepsInputs-then : (a b c : Reading) → a.side.slots ≤ b.side.slots → KeepsInputs a b → KeepsInputs b c → KeepsInputs a c
KeepsInputs-then a b c grew first then = record {
  left = λ k below. then.left k (omega (arith, below, grew)) ∙ first.left k below;
  ended = λ k below. then.ended k (omega (arith, below, grew)) ∙ first.ended k below;
}

-- only one slot changed, which is new
pub KeepsInputs-but : (old new : Reading) (slot : ℕ) → old.side.slots ≤ slot
    → SameBut slot old.left new.left → SameBut slot old.ended new.ended → KeepsInputs old new
KeepsInputs-but old new slot above left ended = record {
  left = λ k below. left k (λ same. absurd (omega (arith, same, below, above)));
  ended = λ k below. ended k (λ same. absurd (omega (arith, same, below, above)));
}

pub KeepsOutputs-same : (old new : Writing) → new ≡ old → KeepsOutputs old new
KeepsOutputs-same old new same =
    let P : Writing → Type 0 = λ now. KeepsOutputs old now in
    subst P (sym same) (record {
      slots = omega arith;
      asked = [];
      asks = sym (append-nil old.side.asked);
      written = λ k below. refl;
      files = λ name outside. refl;
    })
