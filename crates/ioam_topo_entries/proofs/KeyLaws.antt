-- Laws of keys, and of what is kept beside a list.
use Rattle.std.proofs.Common.{◌≡◌, ◌&&◌, List, [], ◌∷◌, ◌++◌, map, String, Global, refl, ap, sym, ◌∙◌, string_bytes}
use Rattle.std.specs.List.{list_all}
use Rattle.std.specs.Map.{keys_of}
use Rattle.toml.specs.View.{members_view}
use Rattle.toml.specs.declared.value.Value.{Value}
use Rattle.ioam_topo.proofs.KeyLaws.{map_append}
use Rattle.ioam_topo_entries.specs.declared.words.Table.{Table}
use Rattle.ioam_topo_entries.specs.Keys.{is_listed, all_listed}

pub listed_keys : (table : Table) (es : List (String Global × Value)) → list_all (λ k. is_listed table (string_bytes k)) (keys_of es) ≡ all_listed table (members_view es)
listed_keys table [] = refl
listed_keys table (e ∷ es) = ap (λ b. is_listed table (string_bytes e.0) && b) (listed_keys table es)

-- what is kept beside a list is still what its items have, after one item more
pub kept_by : {A B : Type 0} (f : A → B) (xs new : List A) (x : A) (ys more : List B) → ys ≡ map f xs → new ≡ xs ++ x ∷ [] → more ≡ ys ++ f x ∷ []
    → more ≡ map f new
kept_by f xs new x ys more are items also = also ∙ ap (λ l. l ++ f x ∷ []) are ∙ sym (ap (map f) items ∙ map_append f xs (x ∷ []))
