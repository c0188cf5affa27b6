-- Texts, names and file names.
use Rattle.std.specs.Prelude.{ℕ, Bool, not, nat_le, ◌==◌, ◌&&◌, ◌||◌, List, length, Result, Ok, Err, if◌then◌else◌}
use Rattle.std.specs.List.{list_all}
use Rattle.toml.specs.Data.{Data, string}
use Rattle.ioam_topo_values.specs.declared.why.Why.{Why}
use Rattle.ioam_topo_values.specs.declared.why.Why.TheVariants.{Kind, Range}
use Rattle.ioam_topo_values.specs.Reads.{◌▷◌}

-- the octets of a text, or that the value is no text
abbrev pub text : Data → Result (List ℕ) Why
text (string s) = Ok s
text _ = Err Kind

-- a to z, A to Z, 0 to 9, `-`, `_` and `.`
abbrev pub is_name_octet : ℕ → Bool
is_name_octet b = (nat_le 97 b && nat_le b 122) || (nat_le 65 b && nat_le b 90) || (nat_le 48 b && nat_le b 57)
    || (b == 45) || (b == 95) || (b == 46)

-- 1 to 32 such characters
abbrev pub is_name : List ℕ → Bool
is_name s = nat_le 1 (length s) && nat_le (length s) 32 && list_all is_name_octet s

-- 1 to 255 octets without a zero octet
abbrev pub is_file_name : List ℕ → Bool
is_file_name s = nat_le 1 (length s) && nat_le (length s) 255 && list_all (λ b. not (b == 0)) s

-- a text of this form
abbrev pub formed : (List ℕ → Bool) → List ℕ → Result (List ℕ) Why
formed test s = if test s then Ok s else Err Range

-- a text that is a name, or why it is none
abbrev pub name : Data → Result (List ℕ) Why
name d = text d ▷ formed is_name

-- a text that is the name of a file, or why it is none
abbrev pub file_name : Data → Result (List ℕ) Why
file_name d = text d ▷ formed is_file_name
