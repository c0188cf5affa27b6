-- What is looked for among options.
use Rattle.std.specs.Prelude.{ℕ, List, Bool, Option, ◌==◌, ◌||◌, ◌&&◌, option_map, length, slice_index}
use Rattle.std.specs.List.{find, list_any}
use Rattle.ioam_ip.specs.Options.{Item}

-- the types of IOAM options (RFC 9486 section 3)
abbrev pub is_ioam_type : ℕ → Bool
is_ioam_type kind = (kind == 0x11) || (kind == 0x31)

-- an IOAM option
abbrev pub is_ioam : Item → Bool
is_ioam item = is_ioam_type item.kind

-- whether some option among these is an IOAM option
abbrev pub has_ioam : List Item → Bool
has_ioam os = list_any is_ioam os

-- a Tunnel Encapsulation Limit is an option of type 4 with one data octet (RFC 2473 section 4.1.1)
abbrev pub is_limit : Item → Bool
is_limit item = (item.kind == 4) && (length item.body == 1)

-- the data octet of the first Tunnel Encapsulation Limit
abbrev pub first_limit : List Item → Option ℕ
first_limit os = option_map (λ item. slice_index item.body 0) (find is_limit os)
