-- What calls tell that may fail, and what is gathered for one output.
use Rattle.std.proofs.Common.{◌≡◌, List, ℕ, [], ◌∷◌, ◌++◌, length, get_or, set, arith}
use Rattle.std.specs.Prelude.{IfOk, OnOk, Result, Ok, Err}
use Rattle.ioam_desk_outputs.specs.Told.{Adds}
use Rattle.ioam_desk_outputs.specs.declared.output.Output.{Output}

-- two clauses of a call that succeeds
pub OnOk_both : {T E : Type 0} (r : Result T E) (P Q R : Type 0) → OnOk r P → OnOk r Q → (P → Q → R) → OnOk r R
OnOk_both (Ok x) P Q R p q f = f p q
OnOk_both (Err e) P Q R p q f = tt

-- what an Ok tells of its value, passed on
pub IfOk-map : {T E : Type 0} (r : Result T E) (P Q : T → Type 0) → ((x : T) → P x → Q x) → IfOk r P → IfOk r Q
IfOk-map (Ok x) P Q f p = f x p
IfOk-map (Err e) P Q f p = tt

-- octets that are gathered for the one output
pub adds_one : (outputs : List Output) (d after : Output) (added : List ℕ) → length outputs ≡ 1
    → after.slot ≡ (get_or outputs 0 d).slot → after.gathered.items ≡ (get_or outputs 0 d).gathered.items ++ added
    → Adds outputs (set outputs 0 after) (added ∷ [])
adds_one [] d after added one slot is = absurd (omega (arith, one))
adds_one (x ∷ []) d after added one slot is = (slot, is, tt)
adds_one (x ∷ y ∷ outputs) d after added one slot is = absurd (omega (arith, one))
