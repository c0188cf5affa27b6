-- Names of files that are apart: where those of a run are, so are those that its words name, and those that it writes.
use Rattle.std.proofs.Common.{◌≡◌, ℕ, zero, suc, ◌<◌, ◌⊎◌, List, [], ◌∷◌, ◌++◌, map, length, take, get_or, sym, ◌∙◌, refl, subst, inl, inr, ⊎_elim, append_assoc, arith}
use Rattle.std.specs.List.{Contains, flat_map}
use Rattle.std.proofs.lemmas.List.{get_or_default}
use Rattle.std.proofs.lemmas.List.Elements.{Contains-append_left, Contains-append_right, Contains-append_cases}
use Rattle.ioam_desk_outputs.specs.Names.{name_at, Repeats, AreApart}
use Rattle.ioam_topo.specs.declared.parts.Link.{Link}
use Rattle.ioam_topo.specs.declared.parts.Port.{Port}
use Rattle.ioam_run_files.specs.Names.{input_of, tap_names, output_names, file_names}

-- no name is one of those behind it
abbrev Differ : List (List ℕ) → Type 0
Differ [] = Unit {0}
Differ (name ∷ names) = (Contains names name → ⊥) × Differ names

-- names without the first one
apart_tail : (name : List ℕ) (names : List (List ℕ)) → AreApart (name ∷ names) → AreApart names
apart_tail name names apart = λ at inside repeats.
    let within : suc at < length (name ∷ names) = omega (arith, inside) in
    apart (suc at) within (Contains-append_right (name ∷ []) (take at names) (name_at names at) repeats)

differ_from_apart : (names : List (List ℕ)) → AreApart names → Differ names
differ_from_apart [] apart = tt
differ_from_apart (name ∷ names) apart = (stands_once, differ_from_apart names (apart_tail name names apart))
  where
    stands_once : Contains names name → ⊥
    stands_once found =
        let within : suc found.0 < length (name ∷ names) = omega (arith, found.1) in
        let is : name_at names found.0 ≡ name = get_or_default names found.0 [] name found.1 ∙ found.2 in
        apart (suc found.0) within (0, omega arith, sym is)

-- the first of these, or one behind it
first_or_behind : (x : List ℕ) (xs : List (List ℕ)) (y : List ℕ) → Contains (x ∷ xs) y → (x ≡ y) ⊎ Contains xs y
first_or_behind x xs y found =
    ⊎_elim (λ (one : Contains (x ∷ []) y). inl (only one.0 one.1 one.2)) (λ (behind : Contains xs y). inr behind)
    (Contains-append_cases (x ∷ []) xs y found)
  where
    only : (k : ℕ) → k < length (x ∷ []) → get_or (x ∷ []) k y ≡ y → x ≡ y
    only zero inside is = is
    only (suc k) inside is = absurd (omega (arith, inside))

apart_more : (name : List ℕ) (names : List (List ℕ)) → (Contains names name → ⊥) → AreApart names
    → (at : ℕ) → at < length (name ∷ names) → Repeats (name ∷ names) at → ⊥
apart_more name names once apart zero inside repeats = absurd (omega (arith, repeats.1))
apart_more name names once apart (suc at) inside repeats =
    let within : at < length names = omega (arith, inside) in
    ⊎_elim (λ (first : name ≡ name_at names at). once (at, within, get_or_default names at name [] within ∙ sym first))
    (λ (behind : Repeats names at). apart at within behind)
    (first_or_behind name (take at names) (name_at names at) repeats)

apart_from_differ : (names : List (List ℕ)) → Differ names → AreApart names
apart_from_differ [] differ = λ at inside repeats. absurd (omega (arith, inside))
apart_from_differ (name ∷ names) differ = apart_more name names differ.0 (apart_from_differ names differ.1)

-- the names behind some
differ_behind : (front back : List (List ℕ)) → Differ (front ++ back) → Differ back
differ_behind [] back differ = differ
differ_behind (name ∷ front) back differ = differ_behind front back differ.1

-- two lists of which none has a name of the other
differ_join : (front back : List (List ℕ)) → Differ front → Differ back
    → ((name : List ℕ) → Contains front name → Contains back name → ⊥) → Differ (front ++ back)
differ_join [] back differ rest none = rest
differ_join (name ∷ front) back differ rest none = (
  λ found. ⊎_elim (λ (near : Contains front name). differ.0 near)
      (λ (far : Contains back name). none name (0, omega arith, refl) far)
      (Contains-append_cases front back name found),
  differ_join front back differ.1 rest (λ other near far. none other (Contains-append_right (name ∷ []) front other near) far),
)

-- no name is in both of two lists that differ together
differ_apart : (front back : List (List ℕ)) → Differ (front ++ back) → (name : List ℕ) → Contains front name → Contains back name → ⊥
differ_apart [] back differ name near far = absurd (omega (arith, near.1))
differ_apart (first ∷ front) back differ name near far =
    ⊎_elim (λ (is : first ≡ name). differ.0 (subst (λ (n : List ℕ). Contains (front ++ back) n) (sym is) (Contains-append_right front back name far)))
    (λ (behind : Contains front name). differ_apart front back differ.1 name behind far)
    (first_or_behind first front name near)

-- the captures of a port
abbrev names_of : Port → List (List ℕ)
names_of port = input_of port.input ++ port.output ∷ []

abbrev outputs_of : List Port → List (List ℕ)
outputs_of ports = map (λ (port : Port). port.output) ports

-- the captures of the packets that leave are among those of the ports
among_ports : (ports : List Port) (name : List ℕ) → Contains (outputs_of ports) name → Contains (flat_map names_of ports) name
among_ports [] name found = found
among_ports (port ∷ ports) name found =
    subst (λ (l : List (List ℕ)). Contains l name) (sym (append_assoc (input_of port.input) (port.output ∷ []) (flat_map names_of ports)))
    (Contains-append_right (input_of port.input) (port.output ∷ flat_map names_of ports) name
    (⊎_elim (λ (first : port.output ≡ name). (0, omega arith, first))
    (λ (behind : Contains (outputs_of ports) name). Contains-append_right (port.output ∷ []) (flat_map names_of ports) name (among_ports ports name behind))
    (first_or_behind port.output (outputs_of ports) name found)))

-- so they differ where those of the ports do
outputs_differ : (ports : List Port) → Differ (flat_map names_of ports) → Differ (outputs_of ports)
outputs_differ [] differ = tt
outputs_differ (port ∷ ports) differ =
    let regrouped : Differ (input_of port.input ++ (port.output ∷ flat_map names_of ports))
    = subst Differ (append_assoc (input_of port.input) (port.output ∷ []) (flat_map names_of ports)) differ in
    let rest : Differ (port.output ∷ flat_map names_of ports)
    = differ_behind (input_of port.input) (port.output ∷ flat_map names_of ports) regrouped in
    (λ found. rest.0 (among_ports ports port.output found), outputs_differ ports rest.1)

-- the names before some
differ_before : (front back : List (List ℕ)) → Differ (front ++ back) → Differ front
differ_before [] back differ = tt
differ_before (name ∷ front) back differ = (λ found. differ.0 (Contains-append_left front back name found), differ_before front back differ.1)

-- the captures of the ports and of the taps, of which no two are equal
module _ (ports : List Port) (links : List Link) (differ : Differ (flat_map names_of ports ++ tap_names links)) where
  of_ports : Differ (flat_map names_of ports)
  of_ports = differ_before (flat_map names_of ports) (tap_names links) differ

  of_taps : Differ (tap_names links)
  of_taps = differ_behind (flat_map names_of ports) (tap_names links) differ

  -- no capture of what leaves is one of a tap
  leaves_or_crosses : (name : List ℕ) → Contains (outputs_of ports) name → Contains (tap_names links) name → ⊥
  leaves_or_crosses name near far = differ_apart (flat_map names_of ports) (tap_names links) differ name (among_ports ports name near) far

module _ (ports : List Port) (links : List Link) (report exports : List ℕ)
    (differ : Differ (report ∷ exports ∷ (flat_map names_of ports ++ tap_names links))) where
  -- the report and the exports are none of the captures
  none_of_captures : (name : List ℕ) → Contains (report ∷ exports ∷ []) name → Contains (flat_map names_of ports ++ tap_names links) name → ⊥
  none_of_captures = differ_apart (report ∷ exports ∷ []) (flat_map names_of ports ++ tap_names links) differ

  two_differ : Differ (report ∷ exports ∷ [])
  two_differ = differ_before (report ∷ exports ∷ []) (flat_map names_of ports ++ tap_names links) differ

  behind_differ : Differ (tap_names links ++ report ∷ exports ∷ [])
  behind_differ = differ_join (tap_names links) (report ∷ exports ∷ []) (of_taps ports links differ.1.1) two_differ
      (λ name near far. none_of_captures name far (Contains-append_right (flat_map names_of ports) (tap_names links) name near))

  written_differ : Differ (output_names ports links report exports)
  written_differ = differ_join (outputs_of ports) (tap_names links ++ report ∷ exports ∷ [])
      (outputs_differ ports (of_ports ports links differ.1.1)) behind_differ
      (λ name near far. ⊎_elim (λ (tap : Contains (tap_names links) name). leaves_or_crosses ports links differ.1.1 name near tap)
      (λ (last : Contains (report ∷ exports ∷ []) name). none_of_captures name last
      (Contains-append_left (flat_map names_of ports) (tap_names links) name (among_ports ports name near)))
      (Contains-append_cases (tap_names links) (report ∷ exports ∷ []) name far))

-- names that are apart as all files are apart as outputs
pub apart-outputs : (ports : List Port) (links : List Link) (domain readings report exports : List ℕ)
    → AreApart (file_names ports links (domain ∷ readings ∷ report ∷ exports ∷ [])) → AreApart (output_names ports links report exports)
apart-outputs ports links domain readings report exports apart =
    let differ = differ_from_apart (file_names ports links (domain ∷ readings ∷ report ∷ exports ∷ [])) apart in
    apart_from_differ (output_names ports links report exports) (written_differ ports links report exports differ.1.1)

-- names that are apart as all files are so by themselves where the words name them
pub apart-words : (ports : List Port) (links : List Link) (words : List (List ℕ)) → AreApart (file_names ports links words) → AreApart words
apart-words ports links words apart = apart_from_differ words
    (differ_before words (flat_map names_of ports ++ tap_names links) (differ_from_apart (file_names ports links words) apart))
