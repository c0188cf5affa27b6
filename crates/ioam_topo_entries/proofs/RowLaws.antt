-- Laws of a table's heading.
use Rattle.std.proofs.Common.{◌≡◌, ℕ, ◌≤◌, List, [], ◌++◌, length, refl, ap, sym, ◌∙◌, subst, Result, Ok, Err, Option, Some, Bool, true, false, cond, nat_le}
use Rattle.std.specs.Prelude.{MatchResult}
use Rattle.std.proofs.lemmas.Bool.{leb-true}
use Rattle.toml.specs.Data.{Data, Members}
use Rattle.ioam_topo_values.specs.declared.why.Why.{Why}
use Rattle.ioam_topo_values.specs.declared.why.Why.TheVariants.{TooMany}
use Rattle.ioam_topo_values.specs.declared.refused.Refused.{Refused}
use Rattle.ioam_topo_values.specs.declared.refused.Refused.TheVariants.{Because, NoMemory as NoRoom}
use Rattle.ioam_topo_values.specs.Reads.{◌▷◌, ReadsOr}
use Rattle.ioam_topo_values.specs.Entries.{rows, entries, array_at, at_most, or_none}
use Rattle.ioam_topo_entries.specs.declared.words.Table.{Table}
use Rattle.ioam_topo_entries.specs.declared.fault.DomainFault.{DomainFault}
use Rattle.ioam_topo_entries.specs.declared.fault.DomainRefused.{DomainRefused}
use Rattle.ioam_topo_entries.specs.declared.fault.DomainRefused.TheVariants.{Fault, NoMemory}
use Rattle.ioam_topo_entries.specs.Faults.{Gives, at, each, fault, first, refused_at, table_faults, no_key}

few_of : (b : Bool) (most : ℕ) (ys xs : List Members) → b ≡ nat_le (length ys) most → cond b (Ok ys) (Err TooMany) ≡ Ok xs
    → (ys ≡ xs) × (length xs ≤ most)
few_of true most ys xs is read =
    let same : ys ≡ xs = cc in (same, subst (λ (l : List Members). length l ≤ most) same (leb-true _ _ (sym is)))
few_of false most ys xs is read = cc

read_few : (most : ℕ) (r : Result (List Members) Why) (xs : List Members) → r ▷ at_most most ≡ Ok xs → (or_none r ≡ xs) × (length xs ≤ most)
read_few most (Ok ys) xs read = few_of (nat_le (length ys) most) most ys xs refl read
read_few most (Err why) xs read = cc

-- the rows that were read
pub rows_read : {X : Type 0} (seen : X → List Members) (table : Table) (place : ℕ) (read : Result X Refused) (out : Result X DomainRefused)
    (reading : Result (List Members) Why) (found : X) → ReadsOr seen read reading
    → MatchResult read (λ x. out ≡ Ok x) (λ r. out ≡ Err (refused_at table place no_key r)) → out ≡ Ok found → reading ≡ Ok (seen found)
rows_read seen table place (Ok x) out reading found reads then is =
    let same : x ≡ found = cc in reads ∙ ap (λ y. Ok (seen y)) same
rows_read seen table place (Err r) out reading found reads then is = cc

module _ (table : Table) (most : ℕ) (d : Option Data) (faults : List Members → Members → List DomainFault) where
  -- rows that weren't read
  pub rows_refused : {X T : Type 0} (seen : X → List Members) (place : ℕ) (P : T → Type 0) (read : Result X Refused) (out : Result X DomainRefused)
      (refused : DomainRefused) → place ≡ 0 → ReadsOr seen read (rows most d)
      → MatchResult read (λ x. out ≡ Ok x) (λ r. out ≡ Err (refused_at table place no_key r)) → out ≡ Err refused
      → Gives {A = T} (Err refused) (table_faults table most d faults) P
  rows_refused seen place P (Ok x) out refused top reads then is = cc
  rows_refused {X} {T} seen place P (Err (Because why)) out refused top reads then is =
      let same : Fault (fault table place no_key why) ≡ refused = cc in
      let one : first (at table 0 no_key (rows most d) ++ each faults [] (entries d)) ≡ Some (fault table place no_key why) =
      ap (λ (r : Result (List Members) Why). first (at table 0 no_key r ++ each faults [] (entries d))) reads
      ∙ ap (λ n. Some (fault table n no_key why)) (sym top) in
      subst (λ (r : DomainRefused). Gives {A = T} (Err r) (table_faults table most d faults) P) same one
  rows_refused {X} {T} seen place P (Err NoRoom) out refused top reads then is =
      let same : NoMemory ≡ refused = cc in
      subst (λ (r : DomainRefused). Gives {A = T} (Err r) (table_faults table most d faults) P) same tt

  -- the entries of rows that were read, collected
  pub rows_taken : {T : Type 0} (P : List Members → T → Type 0) (xs : List Members) (result : Result T DomainRefused) → rows most d ≡ Ok xs
      → Gives result (each faults [] xs) (P xs) → Gives result (table_faults table most d faults) (P (entries d))
  rows_taken P xs result read gives =
      let same : xs ≡ entries d = sym (read_few most (array_at d) xs read).0 in
      let clear : [] ≡ at table 0 no_key (rows most d) = ap (at table 0 no_key) (sym read) in
      subst (λ (l : List DomainFault). Gives result (l ++ each faults [] (entries d)) (P (entries d))) clear
      (subst (λ (l : List Members). Gives result (each faults [] l) (P l)) same gives)
