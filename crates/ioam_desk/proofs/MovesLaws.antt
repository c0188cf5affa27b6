-- Octets that move from what is left of a list to the front of a buffer.
use Rattle.std.proofs.Common.{◌≡◌, ℕ, ◌+◌, ◌-◌, ◌≤◌, List, [], ◌∷◌, ◌++◌, length, take, drop, refl, sym, ap, ◌∙◌, arith, length-drop}
use Rattle.ioam_base.specs.Octets.{written}
use Rattle.std.proofs.lemmas.List.{take_at, drop_at, take-append-drop, drop-drop, length-take-le}

take_none : (xs : List ℕ) → take 0 xs ≡ []
take_none [] = refl
take_none (x ∷ xs) = refl

-- as many octets as were moved stand at the buffer's front, and the others are still left
pub drop-moved : (octets moved into : List ℕ) (at count : ℕ) → moved ≡ take (at + count - at) (drop at octets) → at + count ≤ length octets
    → drop at octets ≡ take count (written into 0 moved) ++ drop (at + count) octets
drop-moved octets moved into at count is fits =
    let same : moved ≡ take count (drop at octets) = is ∙ ap (λ (n : ℕ). take n (drop at octets)) (omega arith) in
    let size : length moved ≡ count = ap length same ∙ length-take-le count (drop at octets) (omega (arith, length-drop at octets)) in
    let front : written into 0 moved ≡ moved ++ drop (0 + length moved) into = ap (λ xs. xs ++ (moved ++ drop (0 + length moved) into)) (take_none into) in
    rw (front, take_at moved (drop (0 + length moved) into) count size, same, ← drop-drop count at octets) (sym (take-append-drop count (drop at octets)))

-- and what stands behind them is as it was
pub drop-kept : (octets moved into : List ℕ) (at count : ℕ) → moved ≡ take (at + count - at) (drop at octets) → at + count ≤ length octets
    → drop count (written into 0 moved) ≡ drop count into
drop-kept octets moved into at count is fits =
    let same : moved ≡ take count (drop at octets) = is ∙ ap (λ (n : ℕ). take n (drop at octets)) (omega arith) in
    let size : length moved ≡ count = ap length same ∙ length-take-le count (drop at octets) (omega (arith, length-drop at octets)) in
    let front : written into 0 moved ≡ moved ++ drop (0 + length moved) into = ap (λ xs. xs ++ (moved ++ drop (0 + length moved) into)) (take_none into) in
    let as_many : 0 + length moved ≡ count = omega (arith, size) in
    rw front (drop_at moved (drop (0 + length moved) into) count size) ∙ ap (λ (n : ℕ). drop n into) as_many
