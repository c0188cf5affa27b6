-- Octets as texts of hexadecimal digits.
use Rattle.std.specs.Prelude.{ℕ, ◌%◌, nat_le, ◌==◌, ◌&&◌, List, length, Result, Ok, Err, if◌then◌else◌}
use Rattle.hex.specs.Hex.{decode_of}
use Rattle.hex.specs.declared.error.FromHexError.{FromHexError}
use Rattle.toml.specs.Data.{Data}
use Rattle.ioam_topo_values.specs.declared.why.Why.{Why}
use Rattle.ioam_topo_values.specs.declared.why.Why.TheVariants.{Range}
use Rattle.ioam_topo_values.specs.Reads.{◌▷◌}
use Rattle.ioam_topo_values.specs.Texts.{text}

-- what was decoded, or out of range
abbrev pub decoded : Result (List ℕ) FromHexError → Result (List ℕ) Why
decoded (Ok octets) = Ok octets
decoded (Err e) = Err Range

-- whole words of 8 hexadecimal digits, no more than 360 digits, perhaps none
abbrev pub octets_of : List ℕ → Result (List ℕ) Why
octets_of s = if (length s % 8 == 0) && nat_le (length s) 360 then decoded (decode_of s) else Err Range

-- the octets of a text of hexadecimal digits, or why there are none
abbrev pub octets : Data → Result (List ℕ) Why
octets d = text d ▷ octets_of
