-- The options that an iterator over a header has left, as a function of its place.
use Rattle.std.specs.Prelude.{ℕ, zero, suc, List, [], ◌∷◌, nat_le, if◌then◌else◌, length}
use Rattle.ioam_ip.specs.Options.{Item, option_end, item_at, is_option}
use Rattle.ioam_ip.specs.declared.items.Opt.{Opt}
use Rattle.ioam_ip.specs.declared.items.Options.{Options}

-- the options from a place on, up to the first that doesn't fit; as many steps as the header has
-- octets are enough
abbrev pub options_from : ℕ → List ℕ → ℕ → List Item
options_from zero head at = []
options_from (suc steps) head at =
    if nat_le (option_end head at) (length head)
    then (if is_option (item_at head at)
    then item_at head at ∷ options_from steps head (option_end head at)
    else options_from steps head (option_end head at))
    else []

-- the options that an iterator has left
abbrev pub options_left : Options → List Item
options_left it = options_from (length it.head.now) it.head.now it.at

-- an option that was given, seen as an item
abbrev pub item_of : Opt → Item
item_of option = record { kind = option.kind; at = option.at; body = option.body.now }
