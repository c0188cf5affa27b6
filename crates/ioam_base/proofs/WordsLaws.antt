-- Laws of numbers as octets.
use Rattle.std.proofs.Common.{◌≡◌, ℕ, ◌+◌, ◌*◌, ◌/◌, ◌%◌, ◌<◌, ◌≤◌, List, [], ◌∷◌, ◌++◌, length, take, drop, get_or, Option, Some, None, arith, refl, sym, ap, ◌∙◌}
use Rattle.std.specs.Option.{IfSome, is_some}
use Rattle.std.specs.Int.{w64, to_be_bytes, from_be_bytes}
use Rattle.std.proofs.lemmas.List.{drop_more}
use Rattle.std.proofs.lemmas.Nat.{from_be_bytes-to_be_bytes_8}
use Rattle.ioam_base.specs.Octets.{IsOctets, u16_at, u24_at, u32_at, u64_at}
use Rattle.ioam_base.specs.Words.{two_octets, three_octets, four_octets, eight_octets, four_octets_if, eight_octets_if}
use Rattle.ioam_base.proofs.OctetsLaws.{u32_at-fits}

-- ---- octets begin with those of the number that is read there

pub two_octets-front : (a b : ℕ) (rest : List ℕ) → a < 256 → b < 256 → a ∷ b ∷ rest ≡ two_octets (a * 256 + b) ++ rest
two_octets-front a b rest first second =
    let high : a ≡ (a * 256 + b) / 256 % 256 = omega arith in
    let low : b ≡ (a * 256 + b) % 256 = omega arith in
    cc

pub three_octets-front : (a b c : ℕ) (rest : List ℕ) → a < 256 → b < 256 → c < 256
    → a ∷ b ∷ c ∷ rest ≡ three_octets (a * 65536 + b * 256 + c) ++ rest
three_octets-front a b c rest first second third =
    let high : a ≡ (a * 65536 + b * 256 + c) / 65536 % 256 = omega arith in
    let middle : b ≡ (a * 65536 + b * 256 + c) / 256 % 256 = omega arith in
    let low : c ≡ (a * 65536 + b * 256 + c) % 256 = omega arith in
    cc

pub four_octets-front : (a b c d : ℕ) (rest : List ℕ) → a < 256 → b < 256 → c < 256 → d < 256
    → a ∷ b ∷ c ∷ d ∷ rest ≡ four_octets (a * 16777216 + b * 65536 + c * 256 + d) ++ rest
four_octets-front a b c d rest first second third fourth =
    let highest : a ≡ (a * 16777216 + b * 65536 + c * 256 + d) / 16777216 % 256 = omega arith in
    let high : b ≡ (a * 16777216 + b * 65536 + c * 256 + d) / 65536 % 256 = omega arith in
    let low : c ≡ (a * 16777216 + b * 65536 + c * 256 + d) / 256 % 256 = omega arith in
    let lowest : d ≡ (a * 16777216 + b * 65536 + c * 256 + d) % 256 = omega arith in
    cc

-- ---- octets by their places

module _ (octets : List ℕ) (at : ℕ) where
  pub octet-at : at < length octets → drop at octets ≡ get_or octets at 0 ∷ drop (at + 1) octets
  octet-at fits = drop_more octets at 0 fits

  pub two-at : IsOctets octets → at + 2 ≤ length octets → drop at octets ≡ two_octets (u16_at octets at) ++ drop (at + 2) octets
  two-at small fits =
      drop_more octets at 0 (omega arith)
      ∙ ap (λ r. get_or octets at 0 ∷ r) (drop_more octets (at + 1) 0 (omega arith) ∙ ap (λ n. get_or octets (at + 1) 0 ∷ drop n octets) (omega arith))
      ∙ two_octets-front (get_or octets at 0) (get_or octets (at + 1) 0) (drop (at + 2) octets) (small at) (small (at + 1))

  pub three-at : IsOctets octets → at + 3 ≤ length octets → drop at octets ≡ three_octets (u24_at octets at) ++ drop (at + 3) octets
  three-at small fits =
      drop_more octets at 0 (omega arith)
      ∙ ap (λ r. get_or octets at 0 ∷ r) (drop_more octets (at + 1) 0 (omega arith)
      ∙ ap (λ n. get_or octets (at + 1) 0 ∷ drop n octets) (let there : at + 1 + 1 ≡ at + 2 = omega arith in there)
      ∙ ap (λ r. get_or octets (at + 1) 0 ∷ r) (drop_more octets (at + 2) 0 (omega arith) ∙ ap (λ n. get_or octets (at + 2) 0 ∷ drop n octets) (omega arith)))
      ∙ three_octets-front (get_or octets at 0) (get_or octets (at + 1) 0) (get_or octets (at + 2) 0) (drop (at + 3) octets) (small at) (small (at + 1)) (small (at + 2))

  pub four-at : IsOctets octets → at + 4 ≤ length octets → drop at octets ≡ four_octets (u32_at octets at) ++ drop (at + 4) octets
  four-at small fits =
      drop_more octets at 0 (omega arith)
      ∙ ap (λ r. get_or octets at 0 ∷ r) (drop_more octets (at + 1) 0 (omega arith)
      ∙ ap (λ n. get_or octets (at + 1) 0 ∷ drop n octets) (let there : at + 1 + 1 ≡ at + 2 = omega arith in there)
      ∙ ap (λ r. get_or octets (at + 1) 0 ∷ r) (drop_more octets (at + 2) 0 (omega arith)
      ∙ ap (λ n. get_or octets (at + 2) 0 ∷ drop n octets) (let there : at + 2 + 1 ≡ at + 3 = omega arith in there)
      ∙ ap (λ r. get_or octets (at + 2) 0 ∷ r) (drop_more octets (at + 3) 0 (omega arith) ∙ ap (λ n. get_or octets (at + 3) 0 ∷ drop n octets) (omega arith))))
      ∙ four_octets-front (get_or octets at 0) (get_or octets (at + 1) 0) (get_or octets (at + 2) 0) (get_or octets (at + 3) 0) (drop (at + 4) octets) (small at) (small (at + 1)) (small (at + 2)) (small (at + 3))

-- the octets of a number of two halves are those of the halves
pub eight_octets-halves : (high low : ℕ) → high < 4294967296 → low < 4294967296 → eight_octets (high * 4294967296 + low) ≡ four_octets high ++ four_octets low
eight_octets-halves high low above below =
    let cell_7 : (high * 4294967296 + low) / 72057594037927936 % 256 ≡ high / 16777216 % 256 = omega arith in
    let cell_6 : (high * 4294967296 + low) / 281474976710656 % 256 ≡ high / 65536 % 256 = omega arith in
    let cell_5 : (high * 4294967296 + low) / 1099511627776 % 256 ≡ high / 256 % 256 = omega arith in
    let cell_4 : (high * 4294967296 + low) / 4294967296 % 256 ≡ high % 256 = omega arith in
    let cell_3 : (high * 4294967296 + low) / 16777216 % 256 ≡ low / 16777216 % 256 = omega arith in
    let cell_2 : (high * 4294967296 + low) / 65536 % 256 ≡ low / 65536 % 256 = omega arith in
    let cell_1 : (high * 4294967296 + low) / 256 % 256 ≡ low / 256 % 256 = omega arith in
    let cell_0 : (high * 4294967296 + low) % 256 ≡ low % 256 = omega arith in
    λ i. cell_7 i ∷ cell_6 i ∷ cell_5 i ∷ cell_4 i ∷ cell_3 i ∷ cell_2 i ∷ cell_1 i ∷ cell_0 i ∷ []

pub eight-at : (octets : List ℕ) (at : ℕ) → IsOctets octets → at + 8 ≤ length octets → drop at octets ≡ eight_octets (u64_at octets at) ++ drop (at + 8) octets
eight-at octets at small fits =
    let behind : at + 4 + 4 ≡ at + 8 = omega arith in
    let halves = eight_octets-halves (u32_at octets at) (u32_at octets (at + 4)) (u32_at-fits octets at small) (u32_at-fits octets (at + 4) small) in
    four-at octets at small (omega arith)
    ∙ ap (λ rest. four_octets (u32_at octets at) ++ rest) (four-at octets (at + 4) small (omega arith) ∙ ap (λ n. four_octets (u32_at octets (at + 4)) ++ drop n octets) behind)
    ∙ ap (λ front. front ++ drop (at + 8) octets) (sym halves)

-- ---- two numbers with the same octets are equal, and so is what follows

module _ (m n : ℕ) (r s : List ℕ) where
  pub two_octets-same : m < 65536 → n < 65536 → two_octets m ++ r ≡ two_octets n ++ s → (m ≡ n) × (r ≡ s)
  two_octets-same p q same =
      let high : m / 256 % 256 ≡ n / 256 % 256 = cc in
      let low : m % 256 ≡ n % 256 = cc in
      (omega arith, cc)

  pub three_octets-same : m < 16777216 → n < 16777216 → three_octets m ++ r ≡ three_octets n ++ s → (m ≡ n) × (r ≡ s)
  three_octets-same p q same =
      let high : m / 65536 % 256 ≡ n / 65536 % 256 = cc in
      let middle : m / 256 % 256 ≡ n / 256 % 256 = cc in
      let low : m % 256 ≡ n % 256 = cc in
      (omega arith, cc)

  pub four_octets-same : m < 4294967296 → n < 4294967296 → four_octets m ++ r ≡ four_octets n ++ s → (m ≡ n) × (r ≡ s)
  four_octets-same p q same =
      let highest : m / 16777216 % 256 ≡ n / 16777216 % 256 = cc in
      let high : m / 65536 % 256 ≡ n / 65536 % 256 = cc in
      let low : m / 256 % 256 ≡ n / 256 % 256 = cc in
      let lowest : m % 256 ≡ n % 256 = cc in
      (omega arith, cc)

  pub eight_octets-same : m < 18446744073709551616 → n < 18446744073709551616 → eight_octets m ++ r ≡ eight_octets n ++ s → (m ≡ n) × (r ≡ s)
  eight_octets-same p q same =
      let whole : to_be_bytes w64 m ≡ to_be_bytes w64 n = ap (take 8) same in
      (sym (from_be_bytes-to_be_bytes_8 m p) ∙ ap (from_be_bytes w64) whole ∙ from_be_bytes-to_be_bytes_8 n q, ap (drop 8) same)

pub four_octets_if-same : (a b : Option ℕ) (r s : List ℕ) → is_some a ≡ is_some b
    → IfSome a (λ number. number < 4294967296) → IfSome b (λ number. number < 4294967296)
    → four_octets_if a ++ r ≡ four_octets_if b ++ s → (a ≡ b) × (r ≡ s)
four_octets_if-same None None r s alike p q same = (refl, same)
four_octets_if-same None (Some n) r s alike p q same = absurd (cc)
four_octets_if-same (Some m) None r s alike p q same = absurd (cc)
four_octets_if-same (Some m) (Some n) r s alike p q same = let both = four_octets-same m n r s p q same in (ap Some both.0, both.1)

pub eight_octets_if-same : (a b : Option ℕ) (r s : List ℕ) → is_some a ≡ is_some b
    → IfSome a (λ number. number < 18446744073709551616) → IfSome b (λ number. number < 18446744073709551616)
    → eight_octets_if a ++ r ≡ eight_octets_if b ++ s → (a ≡ b) × (r ≡ s)
eight_octets_if-same None None r s alike p q same = (refl, same)
eight_octets_if-same None (Some n) r s alike p q same = absurd (cc)
eight_octets_if-same (Some m) None r s alike p q same = absurd (cc)
eight_octets_if-same (Some m) (Some n) r s alike p q same = let both = eight_octets-same m n r s p q same in (ap Some both.0, both.1)
