-- Keys that go together.
use Rattle.std.specs.Prelude.{Bool, Option, Some, None, Result, Ok, Err, if◌then◌else◌}
use Rattle.ioam_topo_values.specs.declared.why.Why.{Why}
use Rattle.ioam_topo_values.specs.declared.why.Why.TheVariants.{Missing}

-- a value that may be absent, save where a key stands that goes with it
abbrev pub beside : {A : Type 0} → Bool → Option A → Result (Option A) Why
beside other None = if other then Err Missing else Ok None
beside other (Some x) = Ok (Some x)
