-- An options header in which the data of options is replaced by as many octets.
use Rattle.std.specs.Prelude.{ℕ, ◌+◌, List, [], ◌∷◌, length}
use Rattle.ioam_base.specs.Octets.{written}
use Rattle.ioam_ip.specs.Options.{Item}
use Rattle.ioam_ip.specs.OptionsLeft.{options_from}

-- the options of a header, without paddings, up to the first that doesn't fit
abbrev pub options_in : List ℕ → List Item
options_in head = options_from (length head) head 2

-- `step` says what the data of an option becomes, by the option's type and its data
module _ (step : ℕ → List ℕ → List ℕ) where
  -- the header with one option changed
  abbrev pub with_step : List ℕ → Item → List ℕ
  with_step head item = written head (item.at + 2) (step item.kind item.body)

  -- and with each of these changed
  abbrev pub with_steps : List ℕ → List Item → List ℕ
  with_steps head [] = head
  with_steps head (item ∷ items) = with_steps (with_step head item) items

  -- an option with its data changed
  abbrev pub item_stepped : Item → Item
  item_stepped item = record { kind = item.kind; at = item.at; body = step item.kind item.body }
