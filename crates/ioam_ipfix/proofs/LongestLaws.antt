-- Records are cut into longest runs in one way.
use Rattle.std.proofs.Common.{◌≡◌, ℕ, ◌<◌, ◌≤◌, List, [], ◌∷◌, ◌++◌, length, refl, sym, ap, ap₂, ◌∙◌, subst, arith, inl, inr}
use Rattle.std.specs.List.{AllByRecursion}
use Rattle.std.proofs.lemmas.Bool.{cases_order}
use Rattle.ioam_dex.specs.Record.{Record, IsRecord}
use Rattle.ioam_ipfix.specs.Data.{template_of}
use Rattle.ioam_ipfix.specs.Messages.{joined}
use Rattle.ioam_ipfix.specs.Written.{IsRun, AreRuns, runs_of, AreLongest}
use Rattle.ioam_ipfix.proofs.DataLaws.{append-same}

abbrev Alike : ℕ → List Record → Type 0
Alike id run = AllByRecursion (λ x. IsRecord x × (template_of x ≡ id)) run

-- the longer of two fronts goes on where the shorter ends
goes-on : (a b r s : List Record) → a ++ r ≡ b ++ s → length a < length b → (y : Record) × (more : List Record) × (b ≡ a ++ y ∷ more) × (r ≡ y ∷ (more ++ s))
goes-on [] [] r s same less = absurd (omega (arith, less))
goes-on [] (y ∷ b) r s same less = (y, b, refl, same)
goes-on (x ∷ a) [] r s same less = absurd (omega (arith, less))
goes-on (x ∷ a) (z ∷ b) r s same less =
    let first : x ≡ z = cc in
    let rest : a ++ r ≡ b ++ s = cc in
    let (y, more, is, on) = goes-on a b r s rest (omega (arith, less)) in
    (y, more, ap₂ (λ w ws. w ∷ ws) (sym first) is, on)

alike-behind : (id : ℕ) (a : List Record) (y : Record) (more : List Record) → Alike id (a ++ y ∷ more) → template_of y ≡ id
alike-behind id [] y more alike = alike.0.1
alike-behind id (x ∷ a) y more alike = alike-behind id a y more alike.1

first-alike : (id other : ℕ) (run next r s : List Record) → 1 ≤ length run → 1 ≤ length next → Alike id run → Alike other next → run ++ r ≡ next ++ s → id ≡ other
first-alike id other [] next r s some more alike also same = absurd (omega (arith, some))
first-alike id other (x ∷ run) [] r s some more alike also same = absurd (omega (arith, more))
first-alike id other (x ∷ run) (y ∷ next) r s some more alike also same =
    let first : x ≡ y = cc in
    sym alike.0.1 ∙ ap template_of first ∙ also.0.1

not-longer : (id other : ℕ) (run next : List Record) (runs others : List (ℕ × List Record)) → IsRun id run → AreRuns runs → AreLongest ((id, run) ∷ runs) → IsRun other next
    → id ≡ other → run ++ joined (runs_of runs) ≡ next ++ joined (runs_of others) → length run < length next → ⊥
not-longer id other run next [] others is are longest also alike same less =
    let (y, more, parts, on) = goes-on run next [] (joined (runs_of others)) same less in
    let size = ap length on in
    omega (arith, size)
not-longer id other run next ((third, []) ∷ runs) others is are longest also alike same less =
    let some = are.0.some in
    omega (arith, some)
not-longer id other run next ((third, z ∷ zs) ∷ runs) others is are longest also alike same less =
    let (y, more, parts, on) = goes-on run next ((z ∷ zs) ++ joined (runs_of runs)) (joined (runs_of others)) same less in
    let first : z ≡ y = cc in
    let of_y : template_of y ≡ other = alike-behind other run y more (subst (λ ws. Alike other ws) parts also.alike) in
    let turns : id ≡ third = alike ∙ sym of_y ∙ ap template_of (sym first) ∙ are.0.alike.0.1 in
    let few = also.few in
    elim longest.0 [
      | inl full ↦ omega (arith, full, few, less)
      | inr apart ↦ apart turns
    ]

pub longest-one : (runs others : List (ℕ × List Record)) → AreRuns runs → AreLongest runs → AreRuns others → AreLongest others
    → joined (runs_of runs) ≡ joined (runs_of others) → runs ≡ others
longest-one [] [] are longest also greatest same = refl
longest-one [] ((other, next) ∷ others) are longest also greatest same = absurd (none-some other next others also.0 same)
  where
    none-some : (id : ℕ) (run : List Record) (rest : List (ℕ × List Record)) → IsRun id run → [] ≡ run ++ joined (runs_of rest) → ⊥
    none-some id [] rest is same = let some = is.some in omega (arith, some)
    none-some id (x ∷ run) rest is same = let size = ap length same in omega (arith, size)
longest-one ((id, run) ∷ runs) [] are longest also greatest same = absurd (none-some id run runs are.0 (sym same))
  where
    none-some : (id : ℕ) (run : List Record) (rest : List (ℕ × List Record)) → IsRun id run → [] ≡ run ++ joined (runs_of rest) → ⊥
    none-some id [] rest is same = let some = is.some in omega (arith, some)
    none-some id (x ∷ run) rest is same = let size = ap length same in omega (arith, size)
longest-one ((id, run) ∷ runs) ((other, next) ∷ others) are longest also greatest same =
    let alike : id ≡ other = first-alike id other run next (joined (runs_of runs)) (joined (runs_of others)) are.0.some also.0.some are.0.alike also.0.alike same in
    let size : length run ≡ length next = same-size (length run) (length next)
    (not-longer id other run next runs others are.0 are.1 longest also.0 alike same)
    (not-longer other id next run others runs also.0 also.1 greatest are.0 (sym alike) (sym same)) in
    let parts = append-same run next (joined (runs_of runs)) (joined (runs_of others)) size same in
    let rest = longest-one runs others are.1 (tail (id, run) runs longest) also.1 (tail (other, next) others greatest) parts.1 in
    (λ i. (alike i, parts.0 i) ∷ rest i)
  where
    same-size : (m n : ℕ) → (m < n → ⊥) → (n < m → ⊥) → m ≡ n
    same-size m n less more = elim (cases_order m n) [
      | inl same ↦ same
      | inr (inl below) ↦ absurd (less below)
      | inr (inr above) ↦ absurd (more above)
    ]

    tail : (run : ℕ × List Record) (runs : List (ℕ × List Record)) → AreLongest (run ∷ runs) → AreLongest runs
    tail run [] longest = tt
    tail run (next ∷ runs) longest = longest.1
