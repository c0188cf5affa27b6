-- The options of a header by their places are those that it holds, read from its front.
use Rattle.std.proofs.Common.{◌≡◌, ℕ, zero, suc, ◌+◌, ◌<◌, ◌≤◌, List, [], ◌∷◌, ◌++◌, true, false, cond, eqb, ltb, length, take, drop, filter, slice_index, get_or, refl, sym, ap, ◌∙◌, subst, arith, length-take, length-drop, length-append, get_or-drop}
use Rattle.std.proofs.lemmas.List.{drop-drop, drop_more, take-append-drop}
use Rattle.std.proofs.Math.Seq.{take-append_seam, drop-append_seam}
use Rattle.std.proofs.lemmas.Bool.Decides.{nat_tests}
use Rattle.ioam_base.specs.Leads.{Leads}
use Rattle.ioam_ip.specs.Options.{Item, OptionFits, option_end, body_at, item_at, is_option, AreOptions}
use Rattle.ioam_ip.specs.OptionList.{IsOptionList, HoldsOptions, OnlyOptions}
use Rattle.ioam_ip.proofs.OptionsLaws.{option_size-pos, AreOptions-unique}

-- options and paddings, one behind the other, from a place up to the header's end
abbrev Behind : List ℕ → ℕ → List Item → Type 0
Behind head at items = Leads (OptionFits head) (item_at head) (option_end head) at items (length head)

-- ---- from places to the list

no_more : (head : List ℕ) (at : ℕ) → at ≡ length head → drop at head ≡ []
no_more head at here = empty (drop at head) (omega (arith, here, length-drop at head)) where
  empty : (xs : List ℕ) → length xs ≡ 0 → xs ≡ []
  empty [] none = refl
  empty (x ∷ xs) none = absurd (cc none)

above_one : (kind : ℕ) → 1 < kind → ltb 1 kind ≡ true
above_one kind above = grind (arith, nat_tests)

-- what stands at a place where an option with a length fits
module _ (head : List ℕ) (at : ℕ) (fits : OptionFits head at) (above : 0 < slice_index head at) where
  long_form : eqb (slice_index head at) 0 ≡ false
  long_form = grind (arith, nat_tests)

  size_is : option_end head at ≡ at + 2 + slice_index head (at + 1)
  size_is = ap (λ b. at + cond b 1 (slice_index head (at + 1) + 2)) long_form ∙ omega arith

  body_is : body_at head at ≡ take (slice_index head (at + 1)) (drop (at + 2) head)
  body_is = ap (λ b. cond b [] (take (slice_index head (at + 1)) (drop (at + 2) head))) long_form

  length_body : length (body_at head at) ≡ slice_index head (at + 1)
  length_body = ap length body_is ∙ omega (arith, fits, size_is, length-take (slice_index head (at + 1)) (drop (at + 2) head), length-drop (at + 2) head)

  end_is : option_end head at ≡ at + 2 + length (body_at head at)
  end_is = size_is ∙ ap (λ n. at + 2 + n) (sym length_body)

  octets_are : drop at head ≡ slice_index head at ∷ length (body_at head at) ∷ (body_at head at ++ drop (option_end head at) head)
  octets_are =
      let first : at < length head = omega (arith, fits, size_is) in
      let second : at + 1 < length head = omega (arith, fits, size_is) in
      let two : at + 1 + 1 ≡ at + 2 = omega arith in
      let n = slice_index head (at + 1) in
      let rest : drop n (drop (at + 2) head) ≡ drop (option_end head at) head = drop-drop n (at + 2) head ∙ ap (λ m. drop m head) (sym size_is) in
      drop_more head at 0 first
      ∙ ap (λ xs. slice_index head at ∷ xs) (drop_more head (at + 1) 0 second)
      ∙ ap (λ m. slice_index head at ∷ n ∷ drop m head) two
      ∙ ap (λ xs. slice_index head at ∷ n ∷ xs) (sym (take-append-drop n (drop (at + 2) head)) ∙ ap (λ xs. xs ++ drop n (drop (at + 2) head)) (sym body_is) ∙ ap (λ xs. body_at head at ++ xs) rest)
      ∙ ap (λ m. slice_index head at ∷ m ∷ (body_at head at ++ drop (option_end head at) head)) (sym length_body)

held : (head : List ℕ) (at : ℕ) (options : List Item) → OptionFits head at → IsOptionList (option_end head at) (drop (option_end head at) head) options
    → (kind : ℕ) → slice_index head at ≡ kind → IsOptionList at (drop at head) (cond (is_option (item_at head at)) (item_at head at ∷ options) options)
held head at options fits rest zero is =
    let end : option_end head at ≡ at + 1 = ap (λ k. at + cond (eqb k 0) 1 (slice_index head (at + 1) + 2)) is in
    let first : at < length head = omega (arith, fits, option_size-pos head at) in
    let octets : drop at head ≡ 0 ∷ drop (at + 1) head = drop_more head at 0 first ∙ ap (λ k. k ∷ drop (at + 1) head) is in
    let P : ℕ → Type 0 = λ n. IsOptionList n (drop n head) options in
    let Q : List Item → Type 0 = λ os. IsOptionList at (drop at head) os in
    subst Q (sym (ap (λ k. cond (ltb 1 k) (item_at head at ∷ options) options) is))
    (IsOptionList.pad1 at (drop at head) (drop (at + 1) head) options octets (subst P end rest))
held head at options fits rest (suc zero) is =
    let above : 0 < slice_index head at = omega (arith, is) in
    let P : ℕ → Type 0 = λ n. IsOptionList n (drop (option_end head at) head) options in
    let Q : List Item → Type 0 = λ os. IsOptionList at (drop at head) os in
    subst Q (sym (ap (λ k. cond (ltb 1 k) (item_at head at ∷ options) options) is))
    (IsOptionList.padn at (drop at head) (body_at head at) (drop (option_end head at) head) options
    (octets_are head at fits above ∙ ap (λ k. k ∷ length (body_at head at) ∷ (body_at head at ++ drop (option_end head at) head)) is)
    (subst P (end_is head at fits above) rest))
held head at options fits rest (suc (suc n)) is =
    let above : 0 < slice_index head at = omega (arith, is) in
    let more : 1 < slice_index head at = omega (arith, is) in
    let P : ℕ → Type 0 = λ n. IsOptionList n (drop (option_end head at) head) options in
    let Q : List Item → Type 0 = λ os. IsOptionList at (drop at head) os in
    subst Q (sym (ap (λ b. cond b (item_at head at ∷ options) options) (above_one (slice_index head at) more)))
    (IsOptionList.option at (drop at head) (slice_index head at) (body_at head at) (drop (option_end head at) head) options more
    (octets_are head at fits above) (subst P (end_is head at fits above) rest))

listed_from : (head : List ℕ) (at : ℕ) (items : List Item) → Behind head at items → IsOptionList at (drop at head) (filter is_option items)
listed_from head at [] here = IsOptionList.nothing at (drop at head) (no_more head at here)
listed_from head at (x ∷ items) leads =
    let Q : Item → Type 0 = λ item. IsOptionList at (drop at head) (cond (is_option item) (item ∷ filter is_option items) (filter is_option items)) in
    subst Q (sym leads.1) (held head at (filter is_option items) leads.0 (listed_from head (option_end head at) items leads.2) (slice_index head at) refl)

pub HoldsOptions-AreOptions : (head : List ℕ) (options : List Item) → AreOptions head options → HoldsOptions head options
HoldsOptions-AreOptions head options are =
    let P : List Item → Type 0 = λ os. IsOptionList 2 (drop 2 head) os in
    subst P (sym are.options) (listed_from head 2 are.items are.fill)

-- ---- from the list to places

-- these are the options from a place on
record Places (head : List ℕ) (at : ℕ) (options : List Item) : Type 0 where
  items : List Item
  behind : Behind head at items
  given : options ≡ filter is_option items

-- a padding in front changes nothing
before_padding : (head : List ℕ) (at end : ℕ) (options : List Item) → OptionFits head at → option_end head at ≡ end → is_option (item_at head at) ≡ false
    → Places head end options → Places head at options
before_padding head at end options fits is padding places =
    let P : ℕ → Type 0 = λ n. Behind head n places.items in record {
      items = item_at head at ∷ places.items;
      behind = (fits, refl, subst P (sym is) places.behind);
      given = places.given ∙ sym (ap (λ b. cond b (item_at head at ∷ filter is_option places.items) (filter is_option places.items)) padding);
    }

-- an option in front is given
before_option : (head : List ℕ) (at end : ℕ) (options : List Item) → OptionFits head at → option_end head at ≡ end → is_option (item_at head at) ≡ true
    → Places head end options → Places head at (item_at head at ∷ options)
before_option head at end options fits is option places =
    let P : ℕ → Type 0 = λ n. Behind head n places.items in record {
      items = item_at head at ∷ places.items;
      behind = (fits, refl, subst P (sym is) places.behind);
      given = ap (λ os. item_at head at ∷ os) places.given
          ∙ sym (ap (λ b. cond b (item_at head at ∷ filter is_option places.items) (filter is_option places.items)) option);
    }

-- what stands at a place, by what is dropped up to it
module _ (head : List ℕ) (at : ℕ) where
  octet_at : (k : ℕ) → slice_index head (at + k) ≡ get_or (drop at head) k 0
  octet_at k = sym (get_or-drop at head k 0)

  first_at : (x : ℕ) (rest : List ℕ) → drop at head ≡ x ∷ rest → slice_index head at ≡ x
  first_at x rest is = let none : at ≡ at + 0 = omega arith in
      ap (λ n. slice_index head n) none ∙ octet_at 0 ∙ ap (λ xs. get_or xs 0 0) is

  long_at : (octets : List ℕ) → drop at head ≡ octets → 0 < length octets → at + length octets ≡ length head
  long_at octets is some = omega (arith, some, ap length is, length-drop at head)

  -- an option with a length
  module _ (kind : ℕ) (body rest : List ℕ) (is : drop at head ≡ kind ∷ length body ∷ (body ++ rest)) (above : 0 < kind) where
    kind_at : slice_index head at ≡ kind
    kind_at = first_at kind (length body ∷ (body ++ rest)) is

    other_at : eqb (slice_index head at) 0 ≡ false
    other_at = ap (λ k. eqb k 0) kind_at ∙ not_zero where
      not_zero : eqb kind 0 ≡ false
      not_zero = grind (arith, nat_tests)

    said_at : slice_index head (at + 1) ≡ length body
    said_at = octet_at 1 ∙ ap (λ xs. get_or xs 1 0) is

    data_at : drop (at + 2) head ≡ body ++ rest
    data_at = sym (drop-drop 2 at head) ∙ ap (λ xs. drop 2 xs) is

    end_at : option_end head at ≡ at + 2 + length body
    end_at = ap (λ b. at + cond b 1 (slice_index head (at + 1) + 2)) other_at ∙ ap (λ n. at + (n + 2)) said_at ∙ omega arith

    rest_at : drop (at + 2 + length body) head ≡ rest
    rest_at = sym (drop-drop (length body) (at + 2) head) ∙ ap (λ xs. drop (length body) xs) data_at ∙ drop-append_seam body rest

    fits_at : OptionFits head at
    fits_at = omega (arith, end_at, long_at (kind ∷ length body ∷ (body ++ rest)) is (omega arith), length-append body rest)

    within_at : at + 2 + length body ≤ length head
    within_at = omega (arith, end_at, fits_at)

    same_body : body_at head at ≡ body
    same_body = ap (λ b. cond b [] (take (slice_index head (at + 1)) (drop (at + 2) head))) other_at
        ∙ ap (λ n. take n (drop (at + 2) head)) said_at ∙ ap (λ xs. take (length body) xs) data_at ∙ take-append_seam body rest

    same_item : item_at head at ≡ record { kind = kind; at = at; body = body }
    same_item = λ i. record { kind = kind_at i; at = at; body = same_body i }

places_from : (head : List ℕ) (at : ℕ) (octets : List ℕ) (options : List Item) → IsOptionList at octets options → drop at head ≡ octets → at ≤ length head
    → Places head at options
places_from head at octets options (IsOptionList.nothing here octets' none) is within =
    record { items = []; behind = omega (arith, ap length (is ∙ none), length-drop at head, within); given = refl }
places_from head at octets options (IsOptionList.pad1 here octets' rest options' are more) is within =
    let front = is ∙ are in
    let zero_at = first_at head at 0 rest front in
    let end : option_end head at ≡ at + 1 = ap (λ k. at + cond (eqb k 0) 1 (slice_index head (at + 1) + 2)) zero_at in
    let long = long_at head at (0 ∷ rest) front (omega arith) in
    let behind : drop (at + 1) head ≡ rest = sym (drop-drop 1 at head) ∙ ap (λ xs. drop 1 xs) front in
    before_padding head at (at + 1) options (omega (arith, end, long)) end (ap (λ k. ltb 1 k) zero_at)
    (places_from head (at + 1) rest options more behind (omega (arith, long)))
places_from head at octets options (IsOptionList.padn here octets' body rest options' are more) is within =
    let front = is ∙ are in
    before_padding head at (at + 2 + length body) options (fits_at head at 1 body rest front (omega arith)) (end_at head at 1 body rest front (omega arith))
    (ap (λ k. ltb 1 k) (kind_at head at 1 body rest front (omega arith)))
    (places_from head (at + 2 + length body) rest options more (rest_at head at 1 body rest front (omega arith)) (within_at head at 1 body rest front (omega arith)))
places_from head at octets options (IsOptionList.option here octets' kind body rest options' above are more) is within =
    let front = is ∙ are in
    let some : 0 < kind = omega (arith, above) in
    let P : Item → Type 0 = λ item. Places head at (item ∷ options') in
    subst P (same_item head at kind body rest front some)
    (before_option head at (at + 2 + length body) options' (fits_at head at kind body rest front some) (end_at head at kind body rest front some)
    (ap (λ k. ltb 1 k) (kind_at head at kind body rest front some) ∙ above_one kind above)
    (places_from head (at + 2 + length body) rest options' more (rest_at head at kind body rest front some) (within_at head at kind body rest front some)))

pub AreOptions-HoldsOptions : (head : List ℕ) (options : List Item) → 2 ≤ length head → HoldsOptions head options → AreOptions head options
AreOptions-HoldsOptions head options long holds =
    let places = places_from head 2 (drop 2 head) options holds refl long in
    record { items = places.items; fill = places.behind; options = places.given }

last_from : (head : List ℕ) (at : ℕ) (items : List Item) → Behind head at items → at ≤ length head
last_from head at [] here = omega (arith, here)
last_from head at (x ∷ items) leads = omega (arith, last_from head (option_end head at) items leads.2)

-- a header holds one list of options
pub OnlyOptions-AreOptions : (head : List ℕ) (options : List Item) → AreOptions head options → OnlyOptions head options
OnlyOptions-AreOptions head options are others holds =
    AreOptions-unique head others options (AreOptions-HoldsOptions head others (last_from head 2 are.items are.fill) holds) are
