-- Octets read in some way.
use Rattle.std.proofs.Common.{◌≡◌, ℕ, zero, suc, ◌+◌, ◌≤◌, ◌⊎◌, List, [], ◌∷◌, ◌++◌, length, drop, get_or, arith, refl, sym, ap, ◌∙◌, inl, inr, length-append}
use Rattle.std.proofs.lemmas.Bool.{cases_lt, cases_eq, cases_Bool, false≢true}
use Rattle.std.proofs.lemmas.List.{get_or-drop, nil_from_length}
use Rattle.std.proofs.lemmas.List.Elements.{All-nil}
use Rattle.ioam_base.specs.Octets.{IsOctets}
use Rattle.ioam_data.specs.Kind.{has, words}
use Rattle.ioam_data.specs.Elements.{size_at, IsElement, IsVoid, IsFilled}
use Rattle.ioam_data.specs.Written.{most_exported}
use Rattle.ioam_dex.specs.declared.export.ExportFault.{ExportFault}
use Rattle.ioam_dex.specs.declared.export.ExportFault.TheVariants as fault
use Rattle.ioam_dex.specs.Visit.{IsVersion}
use Rattle.ioam_dex.specs.Record.{Record, IsRecord, record_octets, length_of, front_of, element_of, kind_of, record_at, IsSized}
use Rattle.ioam_dex.specs.Faults.{Fault, IsCut}
use Rattle.ioam_dex.specs.Reads.{records_octets, Splits, Ending, Whole, Faulty, Reads}
use Rattle.ioam_dex.proofs.RecordLaws.{octets-record_at, IsRecord-record_at, record_octets-length}
use Rattle.ioam_dex.proofs.ReadsLaws.{Splits-push, ends_by_fault}

-- an element is right for a type, or not
element_or_not : (kind : ℕ) (e : List ℕ) → IsElement kind (words kind) e ⊎ (IsElement kind (words kind) e → ⊥)
element_or_not kind e = elim (cases_eq (size_at kind (words kind) e 0) (length e)) [
  | inl whole ↦ elim (cases_lt 0 (length e)) [
    | inl some ↦ inl (record { stands = record { room = omega arith; filled = omega arith; inside = omega arith }; whole = whole })
    | inr none ↦ inr (λ element. omega (arith, element.stands.filled, element.whole))
  ]
  | inr other ↦ inr (λ element. other element.whole)
]

void_or_not : (kind : ℕ) (e : List ℕ) → IsVoid kind e ⊎ (IsVoid kind e → ⊥)
void_or_not kind (x ∷ e) = inr (λ void. let none = void.nothing in cc)
void_or_not kind [] = elim (cases_eq (words kind) 0) [
  | inl wordless ↦ elim (cases_Bool (has kind 22)) [
    | inl snapshot ↦ inr (λ void. false≢true (sym void.plain ∙ snapshot))
    | inr plain ↦ inl (record { wordless = wordless; plain = plain; nothing = refl })
  ]
  | inr some ↦ inr (λ void. some void.wordless)
]

filled_or_not : (kind : ℕ) (e : List ℕ) → IsFilled kind e ⊎ (IsFilled kind e → ⊥)
filled_or_not kind e = elim (element_or_not kind e) [
  | inl element ↦ inl (inl element)
  | inr never ↦ elim (void_or_not kind e) [
    | inl void ↦ inl (inr void)
    | inr none ↦ inr (neither never none)
  ]
]
  where
    neither : (IsElement kind (words kind) e → ⊥) → (IsVoid kind e → ⊥) → IsFilled kind e → ⊥
    neither never none (inl element) = never element
    neither never none (inr void) = none void

version_or_not : (n : ℕ) → IsVersion n ⊎ ((n ≡ 1 → ⊥) × (n ≡ 2 → ⊥))
version_or_not n = elim (cases_eq n 1) [
  | inl one ↦ inl (inl one)
  | inr not_one ↦ elim (cases_eq n 2) [
    | inl two ↦ inl (inr two)
    | inr not_two ↦ inr (not_one, not_two)
  ]
]

-- where a record is due stands a whole one, the front of one, or a fault
abbrev At : List ℕ → Type 0
At octets = ((x : Record) × (behind : List ℕ) × IsRecord x × (octets ≡ record_octets x ++ behind) × IsOctets behind)
    ⊎ (IsCut octets ⊎ ((f : ExportFault) × Fault octets f))

module _ (octets : List ℕ) (small : IsOctets octets) where
  drop-small : (n : ℕ) → IsOctets (drop n octets)
  drop-small n i = omega (arith, get_or-drop n octets i 0, small (n + i))

  sized_at : IsSized octets → At octets
  sized_at sized = elim (cases_lt (length octets) (length_of octets)) [
    | inl few ↦ inr (inl (inr (inr (sized, few))))
    | inr there ↦ elim (filled_or_not (kind_of octets) (element_of octets)) [
      | inl filled ↦ inl (record_at octets, drop (length_of octets) octets, IsRecord-record_at octets small sized there filled, octets-record_at octets small sized there, drop-small (length_of octets))
      | inr empty ↦ inr (inr (fault.Element (front_of octets), (sized, there, refl, empty)))
    ]
  ]

  some_at : At octets
  some_at = elim (cases_lt (length octets) 1) [
    | inl none ↦ inr (inl (inl none))
    | inr some ↦ elim (version_or_not (get_or octets 0 0)) [
      | inr other ↦ inr (inr (fault.Version (get_or octets 0 0), (some, refl, other.0, other.1)))
      | inl version ↦ elim (cases_lt (length octets) 4) [
        | inl few ↦ inr (inl (inr (inl (version, few))))
        | inr begins ↦ elim (cases_lt (length_of octets) (front_of octets)) [
          | inl low ↦ inr (inr (fault.Length (length_of octets), (begins, version, refl, inl low)))
          | inr least ↦ elim (cases_lt (front_of octets + most_exported) (length_of octets)) [
            | inl high ↦ inr (inr (fault.Length (length_of octets), (begins, version, refl, inr high)))
            | inr most ↦ sized_at (record { begins = begins; version = version; least = least; most = most })
          ]
        ]
      ]
    ]
  ]

-- what octets are found to be
abbrev pub Found : List ℕ → Type 0
Found octets = (records : List Record) × (ending : Ending) × Reads octets records ending

module _ (octets : List ℕ) where
  cut_found : (records : List Record) (rest : List ℕ) → Splits octets records rest → IsCut rest → Found octets
  cut_found records rest splits cut = elim (cases_eq (length rest) 0) [
    | inl none ↦ (records, Whole, record { rest = rest; splits = splits; ends = nil_from_length rest none })
    | inr some ↦ (
      records,
      Faulty (length (records_octets records)) (fault.Short (length rest)),
      record { rest = rest; splits = splits; ends = (refl, cut, refl, omega arith) },
    )
  ]

  -- what is found behind these records, where so many octets are left at most
  rest_found : (n : ℕ) (records : List Record) (rest : List ℕ) → Splits octets records rest → IsOctets rest → length rest ≤ n → Found octets
  rest_found zero records rest splits small few = cut_found records rest splits (inl (omega arith))
  rest_found (suc n) records rest splits small few = elim (some_at rest small) [
    | inl whole ↦ (
        let (x, behind, is_x, front, less) = whole in
        let left : length rest ≡ length (record_octets x) + length behind = ap length front ∙ length-append (record_octets x) behind in
        rest_found n (records ++ x ∷ []) behind (Splits-push octets records rest x behind splits is_x front) less (omega (arith, record_octets-length x is_x.parts)))
    | inr other ↦ elim other [
      | inl cut ↦ cut_found records rest splits cut
      | inr bad ↦ (
        records,
        Faulty (length (records_octets records)) bad.0,
        record { rest = rest; splits = splits; ends = ends_by_fault (length (records_octets records)) rest bad.0 bad.1 },
      )
    ]
  ]

  pub Reads-total : IsOctets octets → Found octets
  Reads-total small = rest_found (length octets) [] octets (record { each = All-nil IsRecord; is = refl }) small (omega arith)
