-- Laws of results.
use Rattle.std.specs.Prelude.{OnOk, Result, Ok, Err}

-- what an Ok tells, passed on
pub OnOk-map : {T E : Type 0} (r : Result T E) (P Q : Type 0) → OnOk r P → (P → Q) → OnOk r Q
OnOk-map (Ok x) P Q holds f = f holds
OnOk-map (Err e) P Q holds f = tt
