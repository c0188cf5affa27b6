-- Laws of prefixes.
use Rattle.std.proofs.Common.{◌≡◌, ◌<◌, ◌≤◌, ℕ, ◌+◌, ◌-◌, ◌*◌, ◌/◌, ◌%◌, ◌^◌, ap, sym, ◌∙◌, arith}
use Rattle.std.proofs.lemmas.Nat.{shr_split, mod_low, pow_pos}
use Rattle.std.proofs.lemmas.Nat.Bits.{and_high_mask, and_high_masks}
use Rattle.std.specs.Int.RustNames.{bit_and}
use Rattle.ioam_topo.specs.Prefixes.{mask_of, masked, IsPrefix}

less_rest : (n a b : ℕ) → a + b ≡ n → n - b ≡ a + 0
less_rest n a b is = omega (arith, is)

-- the bits past so many are 0 in an address of which only so many count
masked_rest : (n bits : ℕ) → masked n bits % 2 ^ (128 - n) ≡ 0
masked_rest n bits =
    ap (λ x. x % 2 ^ (128 - n)) (less_rest bits (bits / 2 ^ (128 - n) * 2 ^ (128 - n)) (bits % 2 ^ (128 - n)) (shr_split bits (128 - n)))
    ∙ mod_low (bits / 2 ^ (128 - n)) (128 - n) 0 (pow_pos (128 - n))

pub masked_is : (n bits : ℕ) → n ≤ 128 → IsPrefix (record { bits = masked n bits; length = n })
masked_is n bits short = record { short = short; rest = masked_rest n bits }

-- the bits that a mask lets through are those that count
pub and_mask_of : (n target : ℕ) → target < 2 ^ 128 → bit_and target (mask_of n) ≡ masked n target
and_mask_of n target small = and_high_mask 128 (128 - n) (omega arith) target small
    ∙ rest_of target (target / 2 ^ (128 - n) * 2 ^ (128 - n)) (target % 2 ^ (128 - n)) (shr_split target (128 - n)) where
      rest_of : (n a b : ℕ) → a + b ≡ n → a ≡ n - b
      rest_of n a b is = omega (arith, is)

-- of the address whose bits are all 1 those that count are the mask
pub masked_ones : (n : ℕ) → masked n (2 ^ 128 - 1) ≡ mask_of n
masked_ones n = sym (and_mask_of n (2 ^ 128 - 1) (omega arith)) ∙ and_high_masks 128 (128 - n) (omega arith) 0 (omega arith)
