-- Laws of the numbers of a line.
use Rattle.std.proofs.Common.{◌≡◌, ℕ, ◌^◌, ◌<◌, ◌≤◌, List, decimal, Option, Some, None, Result, Ok, ap, sym, ◌∙◌}
use Rattle.std.specs.Prelude.{◌↔◌}
use Rattle.ioam_base.specs.Decimal.{decimal_below}
use Rattle.ioam_base.proofs.DecimalLaws.{decimal_iff}
use Rattle.ioam_clock.specs.declared.fault.ReadWhy.{ReadWhy}
use Rattle.ioam_clock.specs.Numbers.{numbered, number}

numbered_some : (o : Option ℕ) (n : ℕ) → numbered o ≡ Ok n → o ≡ Some n
numbered_some None n is = absurd (cc)
numbered_some (Some k) n is = let same : k ≡ n = cc in ap Some same

-- a word is read as a number below a limit exactly where it is the digits of that number
pub number_read : (limit : ℕ) (word : List ℕ) (r : Result ℕ ReadWhy) → limit ≤ 2 ^ 64 → r ≡ number limit word
    → (n : ℕ) → (r ≡ Ok n) ↔ ((n < limit) × (word ≡ decimal n))
number_read limit word r wide is n = let iff = decimal_iff limit word n wide in
    (λ so. iff.0 (numbered_some (decimal_below limit word) n (sym is ∙ so)), λ h. is ∙ ap numbered (iff.1 h))
