-- Octets that are gathered for one output or for two.
use Rattle.std.proofs.Common.{◌≡◌, ℕ, List, [], ◌∷◌, ◌++◌, length, get_or, set, refl, sym, append-nil, arith}
use Rattle.ioam_desk_outputs.specs.declared.output.Output.{Output}
use Rattle.ioam_desk_outputs.specs.Told.{Adds}

pub Adds-one : (outputs : List Output) (d after : Output) (added : List ℕ) → length outputs ≡ 1
    → after.slot ≡ (get_or outputs 0 d).slot → after.gathered.items ≡ (get_or outputs 0 d).gathered.items ++ added
    → Adds outputs (set outputs 0 after) (added ∷ [])
Adds-one [] d after added one slot is = absurd (omega (arith, one))
Adds-one (x ∷ []) d after added one slot is = (slot, is, tt)
Adds-one (x ∷ y ∷ outputs) d after added one slot is = absurd (omega (arith, one))

pub Adds-none : (outputs : List Output) → length outputs ≡ 1 → Adds outputs outputs ([] ∷ [])
Adds-none [] one = absurd (omega (arith, one))
Adds-none (x ∷ []) one = (refl, sym (append-nil x.gathered.items), tt)
Adds-none (x ∷ y ∷ outputs) one = absurd (omega (arith, one))

pub Adds-first : (outputs : List Output) (d after : Output) (added : List ℕ) → length outputs ≡ 2
    → after.slot ≡ (get_or outputs 0 d).slot → after.gathered.items ≡ (get_or outputs 0 d).gathered.items ++ added
    → Adds outputs (set outputs 0 after) (added ∷ [] ∷ [])
Adds-first [] d after added two slot is = absurd (omega (arith, two))
Adds-first (x ∷ []) d after added two slot is = absurd (omega (arith, two))
Adds-first (x ∷ y ∷ []) d after added two slot is = (slot, is, (refl, sym (append-nil y.gathered.items), tt))
Adds-first (x ∷ y ∷ z ∷ outputs) d after added two slot is = absurd (omega (arith, two))

pub Adds-second : (outputs : List Output) (d after : Output) (added : List ℕ) → length outputs ≡ 2
    → after.slot ≡ (get_or outputs 1 d).slot → after.gathered.items ≡ (get_or outputs 1 d).gathered.items ++ added
    → Adds outputs (set outputs 1 after) ([] ∷ added ∷ [])
Adds-second [] d after added two slot is = absurd (omega (arith, two))
Adds-second (x ∷ []) d after added two slot is = absurd (omega (arith, two))
Adds-second (x ∷ y ∷ []) d after added two slot is = (refl, sym (append-nil x.gathered.items), (slot, is, tt))
Adds-second (x ∷ y ∷ z ∷ outputs) d after added two slot is = absurd (omega (arith, two))

pub Adds-both : (outputs : List Output) (d e first second : Output) (added more : List ℕ) → length outputs ≡ 2
    → first.slot ≡ (get_or outputs 0 d).slot → first.gathered.items ≡ (get_or outputs 0 d).gathered.items ++ added
    → second.slot ≡ (get_or (set outputs 0 first) 1 e).slot → second.gathered.items ≡ (get_or (set outputs 0 first) 1 e).gathered.items ++ more
    → Adds outputs (set (set outputs 0 first) 1 second) (added ∷ more ∷ [])
Adds-both [] d e first second added more two slot is slots are = absurd (omega (arith, two))
Adds-both (x ∷ []) d e first second added more two slot is slots are = absurd (omega (arith, two))
Adds-both (x ∷ y ∷ []) d e first second added more two slot is slots are = (slot, is, (slots, are, tt))
Adds-both (x ∷ y ∷ z ∷ outputs) d e first second added more two slot is slots are = absurd (omega (arith, two))
