-- The options of an interface block. An option is a code and a length, 16 bits each, and a value of
-- that length, padded to a multiple of four octets; the code 0 ends them.
use Rattle.std.specs.Prelude.{◌≡◌, ℕ, zero, suc, ◌+◌, ◌*◌, ◌/◌, List, [], ◌∷◌, Bool, true, false, ◌==◌, ◌||◌, ◌&&◌, nat_lt, if◌then◌else◌, length, slice_index, take, drop, Option, Some, None, option_map}
use Rattle.ioam_pcap.specs.declared.form.Order.{Order}
use Rattle.ioam_base.specs.Leads.{Leads}
use Rattle.ioam_ng.specs.Numbers.{short_at, long_at}

-- an option: its code and its value, without the padding
pub record Item : Type 0 where
  pub code : ℕ
  pub value : List ℕ

module _ (order : Order) where
  -- the options end here: no octets of another are left, or its code is 0
  abbrev pub is_end : List ℕ → Bool
  is_end octets = nat_lt (length octets) 4 || (short_at order octets 0 == 0)

  -- the octets that the option at the front takes
  abbrev pub item_size : List ℕ → ℕ
  item_size octets = 4 + (short_at order octets 2 + 3) / 4 * 4

  -- the option at the front passes the body
  abbrev pub is_past : List ℕ → Bool
  is_past octets = nat_lt (length octets) (item_size octets)

  -- the option at the front: its code and its value, without the padding
  abbrev pub item_in : List ℕ → Item
  item_in octets = record { code = short_at order octets 0; value = take (short_at order octets 2) (drop 4 octets) }

  -- a whole option stands at the front
  abbrev pub IsItem : List ℕ → Type 0
  IsItem octets = (is_end octets ≡ false) × (is_past octets ≡ false)

  -- the octets behind the option at the front
  abbrev pub behind : List ℕ → List ℕ
  behind octets = drop (item_size octets) octets

  -- exactly these options stand one behind the other, up to their end
  abbrev pub HasItems : List ℕ → List Item → Type 0
  HasItems octets items = (rest : List ℕ) × Leads IsItem item_in behind octets items rest × (is_end rest ≡ true)

  -- behind whole options stands one that passes the body
  abbrev pub PassesBody : List ℕ → Type 0
  PassesBody octets = (items : List Item) × (rest : List ℕ) × Leads IsItem item_in behind octets items rest × (is_end rest ≡ false) × (is_past rest ≡ true)

  -- The same as a function (a law): each option takes four octets or more, so that as many steps as
  -- there are octets reach the end.
  abbrev pub items_by : ℕ → List ℕ → Option (List Item)
  items_by zero octets = Some []
  items_by (suc steps) octets = if is_end octets then Some []
      else if is_past octets then None
      else option_map (λ items. item_in octets ∷ items) (items_by steps (behind octets))

  -- the options that octets hold up to their end; none where one of them passes the octets
  abbrev pub items_in : List ℕ → Option (List Item)
  items_in octets = items_by (length octets) octets

  -- an option of code 9 and one octet, and one of code 14 and eight octets
  abbrev pub is_resolution : Item → Bool
  is_resolution item = (item.code == 9) && (length item.value == 1)

  -- an option that says the offset of an interface's times: code 14, and eight octets
  abbrev pub is_offset : Item → Bool
  is_offset item = (item.code == 14) && (length item.value == 8)

  -- the first of these
  abbrev pub resolution_in : List Item → Option ℕ
  resolution_in [] = None
  resolution_in (item ∷ items) = if is_resolution item then Some (slice_index item.value 0) else resolution_in items

  -- the offset that the first such option says
  abbrev pub offset_in : List Item → Option ℕ
  offset_in [] = None
  offset_in (item ∷ items) = if is_offset item then Some (long_at order item.value 0) else offset_in items
