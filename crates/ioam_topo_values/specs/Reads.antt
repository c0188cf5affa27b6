-- What a value and a key read as: a value of its kind, or why it is refused.
use Rattle.std.specs.Prelude.{◌≡◌, Option, Some, None, Result, Ok, Err, ⊤}
use Rattle.toml.specs.Data.{Data}
use Rattle.ioam_topo_values.specs.declared.why.Why.{Why}
use Rattle.ioam_topo_values.specs.declared.refused.Refused.{Refused}
use Rattle.ioam_topo_values.specs.declared.refused.Refused.TheVariants.{Because, NoMemory}
use Rattle.ioam_topo_values.specs.declared.why.Why.TheVariants.{Missing}

infixl 20 ◌▷◌
-- what was read, read further; why it was refused stays
abbrev pub ◌▷◌ : {A B : Type 0} → Result A Why → (A → Result B Why) → Result B Why
Ok x ▷ f = f x
Err why ▷ f = Err why

-- what the code read, seen by `seen`, is this reading
abbrev pub Reads : {X A : Type 0} → (X → A) → Result X Why → Result A Why → Type 0
Reads seen (Ok x) reading = reading ≡ Ok (seen x)
Reads seen (Err why) reading = reading ≡ Err why

-- a key that is needed
abbrev pub needed : {A : Type 0} → (Data → Result A Why) → Option Data → Result A Why
needed kind None = Err Missing
needed kind (Some d) = kind d

-- a key that may be absent
abbrev pub maybe : {A : Type 0} → (Data → Result A Why) → Option Data → Result (Option A) Why
maybe kind None = Ok None
maybe kind (Some d) = kind d ▷ (λ x. Ok (Some x))

-- a key that has a default
abbrev pub optional : {A : Type 0} → A → (Data → Result A Why) → Option Data → Result A Why
optional default kind None = Ok default
optional default kind (Some d) = kind d

-- the same, of a read that may find no memory
abbrev pub ReadsOr : {X A : Type 0} → (X → A) → Result X Refused → Result A Why → Type 0
ReadsOr seen (Ok x) reading = reading ≡ Ok (seen x)
ReadsOr seen (Err (Because why)) reading = reading ≡ Err why
ReadsOr seen (Err NoMemory) reading = ⊤
