-- Laws of a table without faults.
use Rattle.std.proofs.Common.{◌≡◌, ◌≤◌, ℕ, Bool, true, false, nat_le, cond, List, [], ◌∷◌, ◌++◌, length, Option, Result, Ok, Err, refl, arith}
use Rattle.std.proofs.lemmas.Bool.Decides.{nat_tests}
use Rattle.toml.specs.Data.{Data, Members}
use Rattle.ioam_topo_values.specs.declared.why.Why.{Why}
use Rattle.ioam_topo_values.specs.Reads.{◌▷◌}
use Rattle.ioam_topo_values.specs.Entries.{rows, entries, array_at, at_most, or_none}
use Rattle.ioam_topo_entries.specs.declared.words.Table.{Table}
use Rattle.ioam_topo_entries.specs.declared.fault.DomainFault.{DomainFault}
use Rattle.ioam_topo_entries.specs.Faults.{at, each, table_faults, no_key}
use Rattle.ioam_topo_entries.specs.Goods.{goods}
use Rattle.ioam_topo_entries.proofs.GoodsLaws.{goods_few}

-- where two lists are empty together, each is
pub front_none : (xs ys : List DomainFault) → xs ++ ys ≡ [] → xs ≡ []
front_none [] ys is = refl
front_none (x ∷ xs) ys is = cc

pub back_none : (xs ys : List DomainFault) → xs ++ ys ≡ [] → ys ≡ []
back_none [] ys is = is
back_none (x ∷ xs) ys is = cc

few_in : (table : Table) (most : ℕ) (xs : List Members) (b : Bool) → nat_le (length xs) most ≡ b → at table 0 no_key (cond b (Ok xs) (Err Why.TooMany)) ≡ [] → length xs ≤ most
few_in table most xs true le is = grind (arith, nat_tests, le)
few_in table most xs false le is = cc

few_of : (table : Table) (most : ℕ) (r : Result (List Members) Why) → at table 0 no_key (r ▷ at_most most) ≡ [] → length (or_none r) ≤ most
few_of table most (Ok xs) is = few_in table most xs (nat_le (length xs) most) refl is
few_of table most (Err why) is = omega arith

-- and gives no more than these
pub few_entries : {A : Type 0} (read : Members → Result A Why) (table : Table) (most : ℕ) (d : Option Data) (F : List Members → Members → List DomainFault)
    → table_faults table most d F ≡ [] → length (goods read (entries d)) ≤ most
few_entries read table most d F is =
    let f : length (entries d) ≤ most = few_of table most (array_at d) (front_none (at table 0 no_key (rows most d)) (each F [] (entries d)) is) in
    let g : length (goods read (entries d)) ≤ length (entries d) = goods_few read (entries d) in omega (arith, f, g)

-- and gives no more items
pub few_items : {A : Type 0} (read : Members → Result A Why) (table : Table) (most : ℕ) (d : Option Data) (F : List Members → Members → List DomainFault) (items : List A)
    → items ≡ goods read (entries d) → table_faults table most d F ≡ [] → length items ≤ most
few_items read table most d F items are is = rw are (few_entries read table most d F is)
