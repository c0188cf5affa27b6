-- The head of a part.
use Rattle.std.proofs.Common.{◌≡◌, ℕ, ◌≤◌, List, [], ◌++◌, length, drop, refl, ap, ◌∙◌, arith}
use Rattle.std.proofs.lemmas.List.{append-nil, drop_all}
use Rattle.ioam_base.specs.Octets.{IsOctets, u32_at, u64_at}
use Rattle.ioam_base.specs.Words.{four_octets, eight_octets}
use Rattle.ioam_base.proofs.WordsLaws.{four-at, eight-at, four_octets-same}
use Rattle.ioam_part.specs.Part.{mark, head_octets}

-- the number of the mark
abbrev pub number : ℕ
number = 5282512688243626580

pub mark_is : eight_octets number ≡ mark
mark_is = refl

-- octets with the number begin with the mark
pub marked : (octets : List ℕ) → IsOctets octets → 8 ≤ length octets → u64_at octets 0 ≡ number → octets ≡ mark ++ drop 8 octets
marked octets small fits is =
    eight-at octets 0 small fits ∙ ap (λ n. eight_octets n ++ drop 8 octets) is ∙ ap (λ o. o ++ drop 8 octets) mark_is

pub head_is : (head : List ℕ) → IsOctets head → length head ≡ 12 → u64_at head 0 ≡ number → head ≡ head_octets (u32_at head 8)
head_is head small size is =
    let none : drop 12 head ≡ [] = drop_all 12 head (omega arith) in
    marked head small (omega arith) is
    ∙ ap (λ o. mark ++ o) (four-at head 8 small (omega arith) ∙ ap (λ o. four_octets (u32_at head 8) ++ o) none ∙ append-nil (four_octets (u32_at head 8)))

-- octets that begin with the mark have its number
number_is : (rest : List ℕ) → u64_at (mark ++ rest) 0 ≡ number
number_is rest = refl

-- a head says one count
pub count_same : (m n : ℕ) → m ≤ 1048576 → n ≤ 1048576 → head_octets m ≡ head_octets n → m ≡ n
count_same m n few_m few_n same =
    (four_octets-same m n [] [] (omega (arith, few_m)) (omega (arith, few_n)) (ap (λ o. o ++ []) (ap (drop 8) same))).0
