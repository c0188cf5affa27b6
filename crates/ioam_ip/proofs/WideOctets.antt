-- Sixteen octets and their number, from the two halves of eight.
use Rattle.std.proofs.Common.{◌≡◌, ℕ, ◌+◌, ◌*◌, ◌/◌, ◌%◌, ◌^◌, ◌<◌, List, [], ◌∷◌, ◌++◌, length, get_or, take, drop, refl, sym, ap, ◌∙◌, inl, inr, arith}
use Rattle.std.specs.Int.{w64, w128, to_be_bytes, from_be_bytes}
use Rattle.std.proofs.Math.Nat.{div-div-eq-div-mul, mul-add-div_right, add-mul-mod_self_right, add_comm}
use Rattle.std.proofs.lemmas.List.{append-nil, length-take, length-drop, get_or-take, get_or-drop, get_or_past, take-append-drop}
use Rattle.std.proofs.lemmas.Bool.{cases_lt}
use Rattle.std.proofs.lemmas.Nat.{div-mul-add, be_bytes_8}
use Rattle.byteorder.specs.Endian.{big_number}
use Rattle.byteorder.specs.Numbers.{big_number-reads_back}

-- the number of sixteen octets is the one that the crate byteorder reads
wide_number : (bs : List ℕ) → from_be_bytes w128 bs ≡ big_number 16 bs
wide_number bs = omega arith

-- a number of sixteen octets is read as it was written
pub from_be_bytes-to_be_bytes_16 : (n : ℕ) → n < 2 ^ 128 → from_be_bytes w128 (to_be_bytes w128 n) ≡ n
from_be_bytes-to_be_bytes_16 n fits =
    wide_number (to_be_bytes w128 n)
    ∙ ap (big_number 16) (sym (append-nil (to_be_bytes w128 n)))
    ∙ big_number-reads_back 16 n [] fits

-- the low octets of a number of two halves are those of the low half
low_cell : (n high low p k : ℕ) → 0 < p → n ≡ (high * k) * 256 * p + low → n / p % 256 ≡ low / p % 256
low_cell n high low p k some is = ap (λ m. m / p % 256) is
    ∙ ap (λ m. m % 256) (mul-add-div_right some ((high * k) * 256) low ∙ add_comm ((high * k) * 256) (low / p))
    ∙ add-mul-mod_self_right (low / p) (high * k) 256

-- and the high octets those of the high half
high_cell : (n high p : ℕ) → n / 18446744073709551616 ≡ high → n / (18446744073709551616 * p) % 256 ≡ high / p % 256
high_cell n high p top = ap (λ m. m % 256) (sym (div-div-eq-div-mul n 18446744073709551616 p) ∙ ap (λ m. m / p) top)

halves : (n high low : ℕ) → low < 18446744073709551616 → n ≡ high * 18446744073709551616 + low → to_be_bytes w128 n ≡ to_be_bytes w64 high ++ to_be_bytes w64 low
halves n high low below is =
    let top : n / 18446744073709551616 ≡ high = ap (λ m. m / 18446744073709551616) is ∙ div-mul-add high 18446744073709551616 low below in
    let low_0 : n % 256 ≡ low % 256 = omega arith in
    let low_1 = low_cell n high low 256 281474976710656 (omega arith) (omega arith) in
    let low_2 = low_cell n high low 65536 1099511627776 (omega arith) (omega arith) in
    let low_3 = low_cell n high low 16777216 4294967296 (omega arith) (omega arith) in
    let low_4 = low_cell n high low 4294967296 16777216 (omega arith) (omega arith) in
    let low_5 = low_cell n high low 1099511627776 65536 (omega arith) (omega arith) in
    let low_6 = low_cell n high low 281474976710656 256 (omega arith) (omega arith) in
    let low_7 = low_cell n high low 72057594037927936 1 (omega arith) (omega arith) in
    let high_0 : n / 18446744073709551616 % 256 ≡ high % 256 = ap (λ m. m % 256) top in
    let high_1 = high_cell n high 256 top in
    let high_2 = high_cell n high 65536 top in
    let high_3 = high_cell n high 16777216 top in
    let high_4 = high_cell n high 4294967296 top in
    let high_5 = high_cell n high 1099511627776 top in
    let high_6 = high_cell n high 281474976710656 top in
    let high_7 = high_cell n high 72057594037927936 top in
    λ i. high_7 i ∷ high_6 i ∷ high_5 i ∷ high_4 i ∷ high_3 i ∷ high_2 i ∷ high_1 i ∷ high_0 i ∷ low_7 i ∷ low_6 i ∷ low_5 i ∷ low_4 i ∷ low_3 i ∷ low_2 i ∷ low_1 i ∷ low_0 i ∷ []

-- octets of a front are octets
pub small_front : (k : ℕ) (bs : List ℕ) → ((i : ℕ) → get_or bs i 0 < 256) → (i : ℕ) → get_or (take k bs) i 0 < 256
small_front k bs small i = elim (cases_lt i k) [
  | inl below ↦ omega (arith, small i, get_or-take k bs i 0 below)
  | inr past ↦ omega (arith, get_or_past (take k bs) i 0 (omega (arith, length-take k bs)))
]

-- sixteen octets are written as they were read
pub be_bytes_16 : (bs : List ℕ) (n : ℕ) → length bs ≡ 16 → ((i : ℕ) → get_or bs i 0 < 256) → n ≡ from_be_bytes w128 bs → to_be_bytes w128 n ≡ bs
be_bytes_16 bs n long small is =
    let front : List ℕ = take 8 bs in
    let back : List ℕ = drop 8 bs in
    let front_small : (i : ℕ) → get_or front i 0 < 256 = small_front 8 bs small in
    let back_small : (i : ℕ) → get_or back i 0 < 256 = λ i. omega (arith, small (8 + i), get_or-drop 8 bs i 0) in
    let high : ℕ = from_be_bytes w64 front in
    let low : ℕ = from_be_bytes w64 back in
    let below : low < 18446744073709551616 = omega (arith, back_small 0, back_small 1, back_small 2, back_small 3, back_small 4, back_small 5, back_small 6, back_small 7) in
    let split : n ≡ high * 18446744073709551616 + low = omega (arith, is, get_or-take 8 bs 0 0 (omega arith), get_or-take 8 bs 1 0 (omega arith), get_or-take 8 bs 2 0 (omega arith), get_or-take 8 bs 3 0 (omega arith), get_or-take 8 bs 4 0 (omega arith), get_or-take 8 bs 5 0 (omega arith), get_or-take 8 bs 6 0 (omega arith), get_or-take 8 bs 7 0 (omega arith), get_or-drop 8 bs 0 0, get_or-drop 8 bs 1 0, get_or-drop 8 bs 2 0, get_or-drop 8 bs 3 0, get_or-drop 8 bs 4 0, get_or-drop 8 bs 5 0, get_or-drop 8 bs 6 0, get_or-drop 8 bs 7 0) in
    halves n high low below split
    ∙ ap (λ xs. xs ++ to_be_bytes w64 low) (be_bytes_8 front high (omega (arith, length-take 8 bs)) front_small refl)
    ∙ ap (λ ys. front ++ ys) (be_bytes_8 back low (omega (arith, length-drop 8 bs)) back_small refl)
    ∙ take-append-drop 8 bs
