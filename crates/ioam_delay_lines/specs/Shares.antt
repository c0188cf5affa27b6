-- Shares in percent.
use Rattle.std.specs.Prelude.{ℕ, ◌+◌, ◌*◌, ◌/◌, ◌%◌, ◌^◌, ◌&&◌, nat_le, nat_lt, if◌then◌else◌, List, ◌++◌, codes, decimal}

-- which part of a whole something is, in tenths of a percent, a half up
abbrev pub tenths_of : ℕ → ℕ → ℕ
tenths_of part whole = (2000 * part + whole) / (2 * whole)

-- tenths of a percent as percent
abbrev pub share_words : ℕ → List ℕ
share_words tenths = decimal (tenths / 10) ++ codes "." ++ decimal (tenths % 10)

-- in percent, to a tenth, of a whole below 2^116 that isn't 0 or below the part
abbrev pub share_text : ℕ → ℕ → List ℕ
share_text part whole =
    if nat_lt 0 whole && (nat_le part whole && nat_lt whole (2 ^ 116)) then share_words (tenths_of part whole) else codes "-"
