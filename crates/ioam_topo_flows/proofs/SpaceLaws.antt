-- Laws of namespaces that nodes know.
use Rattle.std.proofs.Common.{◌≡◌, ◌<◌, ℕ, Bool, true, false, cond, List, map, length, slice_get, Option, Some, None, option_map, unwrap_or, Result, Ok, Err, refl, ap, sym, subst, ◌∙◌, arith}
use Rattle.std.proofs.lemmas.Option.{slice_get-map, slice_get_cases}
use Rattle.ioam_topo_values.specs.declared.why.Why.{Why}
use Rattle.ioam_topo_values.specs.declared.why.Why.TheVariants.{Range, Unknown}
use Rattle.ioam_topo_values.specs.Reads.{◌▷◌}
use Rattle.ioam_topo.specs.declared.parts.Node.{Node}
use Rattle.ioam_topo.specs.Known.{is_known, spaces_of}
use Rattle.ioam_topo.specs.Spaces.{knows_space}
use Rattle.ioam_topo_entries.specs.Goods.{list_of}
use Rattle.ioam_topo_flows.specs.Spaces.{known_in, known_at, list_at}

knows_under : (b : Bool) (n x : ℕ) → cond b (Ok n) (Err Range) ≡ Ok x → (b ≡ true) × (n ≡ x)
knows_under true n x is = (refl, cc)
knows_under false n x is = cc

list_there : (nodes : List Node) (i : ℕ) (node : Node) → slice_get nodes i ≡ Some node → list_at (map list_of nodes) i ≡ Ok node.namespaces
list_there nodes i node there = ap (λ o. unwrap_or o (Err Unknown)) (slice_get-map list_of nodes i ∙ ap (option_map list_of) there)

-- a namespace that a node at a place knows
known_there : (nodes : List Node) (i n x : ℕ) (o : Option Node) → i < length nodes → slice_get nodes i ≡ o → known_at (map list_of nodes) (Ok i) n ≡ Ok x
    → (n ≡ x) × (is_known nodes i x ≡ true)
known_there nodes i n x None within there is = absurd (grind (arith, slice_get_cases nodes i, within, there))
known_there nodes i n x (Some node) within there is =
    let read : known_in (Ok node.namespaces) n ≡ Ok x = ap (λ l. known_in l n) (sym (list_there nodes i node there)) ∙ is in
    let both : (knows_space node.namespaces n ≡ true) × (n ≡ x) = knows_under (knows_space node.namespaces n) n x read in
    let P : ℕ → Type 0 = λ m. (n ≡ m) × (is_known nodes i m ≡ true) in
    subst P both.1 (refl, ap (λ o. knows_space (spaces_of o) n) there ∙ both.0)

-- a namespace that was read and that a node knows
pub known_read : (nodes : List Node) (i : ℕ) (r : Result ℕ Why) (x : ℕ) → i < length nodes → r ▷ known_at (map list_of nodes) (Ok i) ≡ Ok x
    → (r ≡ Ok x) × (is_known nodes i x ≡ true)
known_read nodes i (Err why) x within is = cc
known_read nodes i (Ok n) x within is =
    let both : (n ≡ x) × (is_known nodes i x ≡ true) = known_there nodes i n x (slice_get nodes i) within refl is in (ap Ok both.0, both.1)
