-- Where a record is due stands one of: a whole record, the front of one, a fault. Octets behind it change
-- no fault.
use Rattle.std.proofs.Common.{◌≡◌, ℕ, ◌-◌, ◌<◌, ◌≤◌, List, ◌++◌, length, take, drop, get_or, arith, sym, ap, ◌∙◌, subst, inl, inr, length-append, length-drop}
use Rattle.std.proofs.lemmas.List.{get_or_append_left, drop-append-le, take-append-le}
use Rattle.ioam_base.proofs.OctetsLaws.{u16_at-append}
use Rattle.ioam_dex.specs.declared.export.ExportFault.{ExportFault}
use Rattle.ioam_dex.specs.declared.export.ExportFault.TheVariants as fault
use Rattle.ioam_data.specs.Elements.{IsFilled}
use Rattle.ioam_dex.specs.Visit.{IsVersion}
use Rattle.ioam_dex.specs.Record.{front_size, length_of, front_of, element_of, kind_of, IsSized}
use Rattle.ioam_dex.specs.Faults.{Fault, IsCut}

-- a version is no other number
no_version : (version found : ℕ) → IsVersion version → found ≡ version → (found ≡ 1 → ⊥) → (found ≡ 2 → ⊥) → ⊥
no_version version found (inl one) same not_one not_two = not_one (same ∙ one)
no_version version found (inr two) same not_one not_two = not_two (same ∙ two)

-- a record is there whole, and has an element of its type
pub record IsWhole (octets : List ℕ) : Type 0 where
  pub sized : IsSized octets
  pub there : length_of octets ≤ length octets
  pub filled : IsFilled (kind_of octets) (element_of octets)

module _ (octets : List ℕ) where
  pub whole-not-cut : IsWhole octets → IsCut octets → ⊥
  whole-not-cut whole (inl few) = omega (arith, whole.sized.begins)
  whole-not-cut whole (inr (inl few)) = omega (arith, whole.sized.begins, few.1)
  whole-not-cut whole (inr (inr few)) = omega (arith, whole.there, few.1)

  pub whole-not-faulty : (f : ExportFault) → IsWhole octets → Fault octets f → ⊥
  whole-not-faulty (fault.Version found) whole bad = no_version (get_or octets 0 0) found whole.sized.version bad.1 bad.2 bad.3
  whole-not-faulty (fault.Length found) whole bad = elim bad.3 [
    | inl low ↦ omega (arith, whole.sized.least, bad.2)
    | inr high ↦ omega (arith, whole.sized.most, bad.2)
  ]
  whole-not-faulty (fault.Element at) whole bad = bad.3 whole.filled
  whole-not-faulty (fault.Short have) whole bad = bad

  pub cut-not-faulty : (f : ExportFault) → IsCut octets → Fault octets f → ⊥
  cut-not-faulty (fault.Version found) (inl few) bad = omega (arith, bad.0)
  cut-not-faulty (fault.Version found) (inr (inl few)) bad = no_version (get_or octets 0 0) found few.0 bad.1 bad.2 bad.3
  cut-not-faulty (fault.Version found) (inr (inr few)) bad = no_version (get_or octets 0 0) found few.0.version bad.1 bad.2 bad.3
  cut-not-faulty (fault.Length found) (inl few) bad = omega (arith, bad.0)
  cut-not-faulty (fault.Length found) (inr (inl few)) bad = omega (arith, bad.0, few.1)
  cut-not-faulty (fault.Length found) (inr (inr few)) bad = elim bad.3 [
    | inl low ↦ omega (arith, few.0.least, bad.2)
    | inr high ↦ omega (arith, few.0.most, bad.2)
  ]
  cut-not-faulty (fault.Element at) (inl few) bad = omega (arith, bad.0.begins)
  cut-not-faulty (fault.Element at) (inr (inl few)) bad = omega (arith, bad.0.begins, few.1)
  cut-not-faulty (fault.Element at) (inr (inr few)) bad = omega (arith, bad.1, few.1)
  cut-not-faulty (fault.Short have) cut bad = bad

  -- a record has one fault
  pub fault-unique : (f g : ExportFault) → Fault octets f → Fault octets g → f ≡ g
  fault-unique (fault.Version m) (fault.Version n) x y = ap fault.Version (x.1 ∙ sym y.1)
  fault-unique (fault.Version m) (fault.Length n) x y = absurd (no_version (get_or octets 0 0) m y.1 x.1 x.2 x.3)
  fault-unique (fault.Version m) (fault.Element n) x y = absurd (no_version (get_or octets 0 0) m y.0.version x.1 x.2 x.3)
  fault-unique (fault.Version m) (fault.Short n) x y = absurd y
  fault-unique (fault.Length m) (fault.Version n) x y = absurd (no_version (get_or octets 0 0) n x.1 y.1 y.2 y.3)
  fault-unique (fault.Length m) (fault.Length n) x y = ap fault.Length (x.2 ∙ sym y.2)
  fault-unique (fault.Length m) (fault.Element n) x y = absurd (elim x.3 [
    | inl low ↦ omega (arith, y.0.least, x.2)
    | inr high ↦ omega (arith, y.0.most, x.2)
  ])
  fault-unique (fault.Length m) (fault.Short n) x y = absurd y
  fault-unique (fault.Element m) (fault.Version n) x y = absurd (no_version (get_or octets 0 0) n x.0.version y.1 y.2 y.3)
  fault-unique (fault.Element m) (fault.Length n) x y = absurd (elim y.3 [
    | inl low ↦ omega (arith, x.0.least, y.2)
    | inr high ↦ omega (arith, x.0.most, y.2)
  ])
  fault-unique (fault.Element m) (fault.Element n) x y = ap fault.Element (x.2 ∙ sym y.2)
  fault-unique (fault.Element m) (fault.Short n) x y = absurd y
  fault-unique (fault.Short m) g x y = absurd x

  -- a fault stands in some octets
  pub fault-inside : (f : ExportFault) → Fault octets f → 0 < length octets
  fault-inside (fault.Version found) bad = omega (arith, bad.0)
  fault-inside (fault.Length found) bad = omega (arith, bad.0)
  fault-inside (fault.Element at) bad = omega (arith, bad.0.begins)
  fault-inside (fault.Short have) bad = absurd bad

-- ---- octets behind

module _ (octets more : List ℕ) where
  longer : (n : ℕ) → n ≤ length octets → n ≤ length (octets ++ more)
  longer n fits = omega (arith, length-append octets more)

  index-behind : (i : ℕ) → i < length octets → get_or (octets ++ more) i 0 ≡ get_or octets i 0
  index-behind i inside = get_or_append_left octets more 0 i inside

  length_of-behind : 4 ≤ length octets → length_of (octets ++ more) ≡ length_of octets
  length_of-behind fits = u16_at-append octets more 2 fits

  front_of-behind : 4 ≤ length octets → front_of (octets ++ more) ≡ front_of octets
  front_of-behind fits =
      ap (λ n. front_size n (get_or (octets ++ more) 1 0)) (index-behind 0 (omega arith))
      ∙ ap (front_size (get_or octets 0 0)) (index-behind 1 (omega arith))

  version-behind : 1 ≤ length octets → IsVersion (get_or octets 0 0) → IsVersion (get_or (octets ++ more) 0 0)
  version-behind fits is = let P : ℕ → Type 0 = λ n. IsVersion n in subst P (sym (index-behind 0 fits)) is

  kind_of-behind : 10 ≤ length octets → kind_of (octets ++ more) ≡ kind_of octets
  kind_of-behind fits = omega (arith, index-behind 7 (omega arith), index-behind 8 (omega arith), index-behind 9 (omega arith))

  IsSized-behind : IsSized octets → IsSized (octets ++ more)
  IsSized-behind sized =
      let size = length_of-behind sized.begins in
      let front = front_of-behind sized.begins in
      record {
        begins = longer 4 sized.begins;
        version = version-behind (omega (arith, sized.begins)) sized.version;
        least = omega (arith, sized.least);
        most = omega (arith, sized.most);
      }

  element_of-behind : IsSized octets → length_of octets ≤ length octets → element_of (octets ++ more) ≡ element_of octets
  element_of-behind sized there =
      let count : length_of octets - front_of octets ≤ length (drop (front_of octets) octets) = omega (arith, sized.least, length-drop (front_of octets) octets) in
      ap (λ n. take (n - front_of (octets ++ more)) (drop (front_of (octets ++ more)) (octets ++ more))) (length_of-behind sized.begins)
      ∙ ap (λ n. take (length_of octets - n) (drop n (octets ++ more))) (front_of-behind sized.begins)
      ∙ ap (take (length_of octets - front_of octets)) (drop-append-le (front_of octets) octets more (omega (arith, sized.least)))
      ∙ take-append-le (length_of octets - front_of octets) (drop (front_of octets) octets) more count

  -- a fault stays
  pub Fault-behind : (f : ExportFault) → Fault octets f → Fault (octets ++ more) f
  Fault-behind (fault.Version found) bad = (longer 1 bad.0, bad.1 ∙ sym (index-behind 0 bad.0), bad.2, bad.3)
  Fault-behind (fault.Length found) bad =
      let front = front_of-behind bad.0 in (
        longer 4 bad.0,
        version-behind (omega (arith, bad.0)) bad.1,
        bad.2 ∙ sym (length_of-behind bad.0),
        elim bad.3 [
          | inl low ↦ inl (omega arith)
          | inr high ↦ inr (omega arith)
        ],
      )
  Fault-behind (fault.Element at) bad =
      let size = length_of-behind bad.0.begins in
      let P : ℕ → Type 0 = λ k. IsFilled k (element_of (octets ++ more)) → ⊥ in
      let Q : List ℕ → Type 0 = λ e. IsFilled (kind_of octets) e → ⊥ in (
        IsSized-behind bad.0,
        omega (arith, length-append octets more, bad.1),
        bad.2 ∙ sym (front_of-behind bad.0.begins),
        subst P (sym (kind_of-behind (omega (arith, bad.0.least, bad.1)))) (subst Q (sym (element_of-behind bad.0 bad.1)) bad.3),
      )
  Fault-behind (fault.Short have) bad = absurd bad
