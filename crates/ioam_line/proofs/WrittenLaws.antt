-- Octets that are written one by one.
use Rattle.std.proofs.Common.{◌≡◌, ℕ, zero, suc, ◌+◌, ◌<◌, ◌≤◌, List, [], ◌∷◌, ◌++◌, length, take, drop, set, get_or, add-one, ap, sym, ◌∙◌, refl, arith}
use Rattle.std.proofs.lemmas.List.{length-take-le}
use Rattle.std.proofs.Math.Seq.{take-suc}
use Rattle.ioam_base.specs.Octets.{written}
use Rattle.ioam_base.proofs.WrittenLaws.{length-written, written-next}

set-parts : (xs : List ℕ) (k v : ℕ) → k < length xs → set xs k v ≡ take k xs ++ (v ∷ drop (suc k) xs)
set-parts [] k v inside = absurd (omega arith)
set-parts (x ∷ xs) zero v inside = refl
set-parts (x ∷ xs) (suc k) v inside = ap (λ ys. x ∷ ys) (set-parts xs k v (omega arith))

set-is-written : (xs : List ℕ) (k v : ℕ) → k < length xs → set xs k v ≡ written xs k (v ∷ [])
set-is-written xs k v inside = set-parts xs k v inside ∙ ap (λ n. take k xs ++ (v ∷ drop n xs)) (sym (add-one k))

-- one more octet was written
pub written-more : (octets part now : List ℕ) (at i : ℕ) → at + length part ≤ length octets → i < length part
    → now ≡ written octets at (take i part) → set now (at + i) (get_or part i 0) ≡ written octets at (take (i + 1) part)
written-more octets part now at i fits inside is =
    let octet = get_or part i 0 in
    let held : length (take i part) ≡ i = length-take-le i part (omega arith) in
    let long : length now ≡ length octets = ap length is ∙ length-written octets (take i part) at (omega (arith, held)) in
    set-is-written now (at + i) octet (omega (arith, long))
    ∙ ap (λ xs. written xs (at + i) (octet ∷ [])) is
    ∙ ap (λ n. written (written octets at (take i part)) (at + n) (octet ∷ [])) (sym held)
    ∙ written-next octets (take i part) (octet ∷ []) at (omega (arith, held))
    ∙ ap (written octets at) (sym (take-suc part i 0 inside))
    ∙ ap (λ n. written octets at (take n part)) (sym (add-one i))
