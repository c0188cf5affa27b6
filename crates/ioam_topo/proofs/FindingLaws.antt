-- Laws of what is looked up by its key.
use Rattle.std.proofs.Common.{◌≡◌, ◌≤◌, ℕ, List, map, length, Some, None, slice_get, ap, sym, ◌∙◌, arith}
use Rattle.std.specs.List.{position, position_or_len}
use Rattle.std.proofs.lemmas.Option.{slice_get_past}
use Rattle.std.proofs.lemmas.List.Folds.{find_at}
use Rattle.ioam_topo.specs.declared.parts.NodeData.{NodeData}
use Rattle.ioam_topo.specs.Keyed.{is_pair, key_of_data}
use Rattle.ioam_topo.specs.Finding.{is_data_of, data_at}
use Rattle.ioam_topo.proofs.KeyLaws.{place_map, length_map}
use Rattle.ioam_topo.proofs.LongestLaws.{found_at, found_nowhere}

module _ (rows : List NodeData) (keys : List (ℕ × ℕ)) (node space : ℕ) (keyed : keys ≡ map key_of_data rows) where
  place_of_key : position_or_len (is_data_of node space) rows ≡ position_or_len (is_pair node space) keys
  place_of_key = place_map (is_pair node space) key_of_data rows ∙ ap (position_or_len (is_pair node space)) (sym keyed)

  -- the data whose key was found
  pub data_found : (at : ℕ) (row : NodeData) → Some at ≡ position (is_pair node space) keys → slice_get rows at ≡ Some row → Some row ≡ data_at rows node space
  data_found at row found there =
      let place : position_or_len (is_pair node space) keys ≡ at = found_at (λ (x : ℕ × ℕ). x.0) (is_pair node space) keys at (sym found) in
      sym (find_at (is_data_of node space) rows ∙ ap (slice_get rows) (place_of_key ∙ place) ∙ there)

  -- there are none whose key wasn't found
  pub data_missing : None ≡ position (is_pair node space) keys → None ≡ data_at rows node space
  data_missing found =
      let past : length keys ≤ position_or_len (is_pair node space) keys = found_nowhere (λ (x : ℕ × ℕ). x.0) (is_pair node space) keys (sym found) in
      let place : position_or_len (is_data_of node space) rows ≡ position_or_len (is_pair node space) keys = place_of_key in
      let many : length keys ≡ length rows = ap length keyed ∙ sym (length_map key_of_data rows) in
      sym (find_at (is_data_of node space) rows ∙ slice_get_past rows (position_or_len (is_data_of node space) rows) (omega (arith, past, place, many)))
