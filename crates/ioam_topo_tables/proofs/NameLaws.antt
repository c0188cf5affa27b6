-- Laws of names.
use Rattle.std.proofs.Common.{◌≡◌, false, cond, List, [], ◌∷◌, ◌++◌, map, ℕ, String, Global, ap, ◌∙◌, string_bytes}
use Rattle.std.specs.List.{list_any}
use Rattle.std.specs.Str.{bytes_eq}
use Rattle.ioam_topo.proofs.KeyLaws.{any_map, map_append}

-- a name that isn't there is added behind the others
pub added : (ks new : List (String Global)) (k : String Global) (name : List ℕ) → string_bytes k ≡ name
    → list_any (bytes_eq name) (map string_bytes ks) ≡ false
    → new ≡ cond (list_any (λ x. bytes_eq (string_bytes k) (string_bytes x)) ks) ks (ks ++ k ∷ [])
    → map string_bytes new ≡ map string_bytes ks ++ name ∷ []
added ks new k name is absent more =
    let off : list_any (λ x. bytes_eq (string_bytes k) (string_bytes x)) ks ≡ false = any_map (bytes_eq (string_bytes k)) string_bytes ks
    ∙ ap (λ n. list_any (bytes_eq n) (map string_bytes ks)) is ∙ absent in
    let put : new ≡ ks ++ k ∷ [] = more ∙ ap (λ b. cond b ks (ks ++ k ∷ [])) off in
    ap (map string_bytes) put ∙ map_append string_bytes ks (k ∷ []) ∙ ap (λ n. map string_bytes ks ++ n ∷ []) is
