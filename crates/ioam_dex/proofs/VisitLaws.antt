-- A visit that is there or not, among octets.
use Rattle.std.proofs.Common.{◌≡◌, ℕ, ◌+◌, ◌≤◌, Bool, true, false, List, ◌++◌, length, drop, Option, Some, None, arith, refl, sym, ap, ◌∙◌, inl, inr, append_assoc}
use Rattle.ioam_base.specs.Octets.{IsOctets, u32_at, u64_at}
use Rattle.ioam_base.specs.Words.{four_octets, eight_octets}
use Rattle.ioam_base.proofs.OctetsLaws.{u32_at-fits}
use Rattle.ioam_base.proofs.WordsLaws.{four-at, eight-at, four_octets-same, eight_octets-same}
use Rattle.ioam_dex.specs.Visit.{IsVersion, has_visit, version_of, visit_octets, twelve_where, IsVisitBelow, visit_where}

module _ (octets : List ℕ) (at : ℕ) (small : IsOctets octets) where
  pub visit_where-at : (there : Bool) → at + twelve_where there ≤ length octets
      → drop at octets ≡ visit_octets (visit_where there octets at) ++ drop (at + twelve_where there) octets
  visit_where-at true fits =
      eight-at octets at small (omega arith)
      ∙ ap (λ r. eight_octets (u64_at octets at) ++ r) (four-at octets (at + 8) small (omega arith)
      ∙ ap (λ n. four_octets (u32_at octets (at + 8)) ++ drop n octets) (let there : at + 8 + 4 ≡ at + 12 = omega arith in there))
      ∙ sym (append_assoc (eight_octets (u64_at octets at)) (four_octets (u32_at octets (at + 8))) (drop (at + 12) octets))
  visit_where-at false fits = ap (λ n. drop n octets) (omega arith)

  pub visit_where-below : (there : Bool) → IsVisitBelow (visit_where there octets at)
  visit_where-below true =
      (omega (arith, u32_at-fits octets at small, u32_at-fits octets (at + 4) small), u32_at-fits octets (at + 8) small)
  visit_where-below false = tt

-- what is told where a version tells it has this version
pub version-where : (version : ℕ) (octets : List ℕ) (at : ℕ) → IsVersion version → version_of (visit_where (has_visit version) octets at) ≡ version
version-where version octets at (inl one) = rw one refl
version-where version octets at (inr two) = rw two refl

pub version_of-is : (visit : Option (ℕ × ℕ)) → IsVersion (version_of visit)
version_of-is None = inl refl
version_of-is (Some visit) = inr refl

-- two visits with the same octets are equal, and so is what follows
pub visit_octets-same : (a b : Option (ℕ × ℕ)) (r s : List ℕ) → version_of a ≡ version_of b → IsVisitBelow a → IsVisitBelow b
    → visit_octets a ++ r ≡ visit_octets b ++ s → (a ≡ b) × (r ≡ s)
visit_octets-same None None r s alike p q same = (refl, same)
visit_octets-same None (Some v) r s alike p q same = absurd (omega (arith, alike))
visit_octets-same (Some u) None r s alike p q same = absurd (omega (arith, alike))
visit_octets-same (Some (m, i)) (Some (n, j)) r s alike p q same =
    let whole = sym (append_assoc (eight_octets m) (four_octets i) r) ∙ same ∙ append_assoc (eight_octets n) (four_octets j) s in
    let time = eight_octets-same m n (four_octets i ++ r) (four_octets j ++ s) p.0 q.0 whole in
    let inward = four_octets-same i j r s p.1 q.1 time.1 in
    let one : m ≡ n = time.0 in
    let other : i ≡ j = inward.0 in
    (cc, inward.1)

pub visit_octets-length : (visit : Option (ℕ × ℕ)) → length (visit_octets visit) ≡ twelve_where (has_visit (version_of visit))
visit_octets-length None = refl
visit_octets-length (Some (time, inward)) = refl
