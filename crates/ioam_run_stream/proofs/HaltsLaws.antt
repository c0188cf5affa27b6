-- What is known of the octets that a name holds.
use Rattle.std.proofs.Common.{◌≡◌, ℕ, IsSomeAnd, List, Option, Some, None, sym, subst}

-- what is known of the octets that are held
pub held_so : (held : Option (List ℕ)) (octets : List ℕ) (P : List ℕ → Type 0) → held ≡ Some octets → P octets → IsSomeAnd held P
held_so held octets P is fact = let Q : Option (List ℕ) → Type 0 = λ o. IsSomeAnd o P in subst Q (sym is) fact

-- and what follows of it
pub held_map : (held : Option (List ℕ)) (P Q : List ℕ → Type 0) → ((octets : List ℕ) → P octets → Q octets) → IsSomeAnd held P → IsSomeAnd held Q
held_map None P Q f holds = absurd holds
held_map (Some octets) P Q f holds = f octets holds
