-- Elements of the fields of bits 0 to 3 alone, as most types ask for.
use Rattle.std.specs.Prelude.{ℕ, ◌≡◌, false, List}
use Rattle.ioam_data.specs.Fields.{past, when_has, hop_node_at, faces_at, number_at}
use Rattle.ioam_data.specs.Kind.{has, words}
use Rattle.ioam_report_lines.specs.Spaced.{early_words}

-- the words of those that a type has, one behind the other from the front of octets on
abbrev pub early_text : ℕ → List ℕ → List ℕ
early_text kind octets = early_words
    (when_has kind 0 (hop_node_at octets))
    (when_has kind 1 (faces_at (past kind 0 1 octets)))
    (when_has kind 2 (number_at (past kind 1 1 (past kind 0 1 octets))))
    (when_has kind 3 (number_at (past kind 2 1 (past kind 1 1 (past kind 0 1 octets)))))

-- the elements of a type with this NodeLen are fields of bits 0 to 3, with no other field, filler word or snapshot behind them
pub record IsEarly (kind node_len : ℕ) : Type 0 where
  pub exact : words kind ≡ node_len
  pub no_delay : has kind 4 ≡ false
  pub no_short : has kind 5 ≡ false
  pub no_queue : has kind 6 ≡ false
  pub no_check : has kind 7 ≡ false
  pub no_wide_hop_node : has kind 8 ≡ false
  pub no_wide_faces : has kind 9 ≡ false
  pub no_wide : has kind 10 ≡ false
  pub no_buffer : has kind 11 ≡ false
  pub no_snapshot : has kind 22 ≡ false
