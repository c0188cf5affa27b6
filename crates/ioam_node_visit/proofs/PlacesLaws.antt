-- Laws of the places of a packet and of the options of its Hop-by-Hop header.
use Rattle.std.proofs.Common.{◌≡◌, ℕ, zero, suc, ◌+◌, ◌-◌, ◌<◌, ◌≤◌, Bool, true, false, cond, eqb, leb, ltb, List, [], ◌∷◌, ◌++◌, length, take, drop, map, slice_index, slice_range, refl, sym, ap, ◌∙◌, subst, arith, length-take, length-drop, get_or-take, get_or-drop}
use Rattle.std.specs.Prelude.{Contains, slice_index_or}
use Rattle.std.proofs.lemmas.List.{get_or-append-add, get_or_append_left, drop-drop, drop-take, length-map, take-append-drop, take-take}
use Rattle.std.proofs.Math.ListN.{get_or-map}
use Rattle.std.proofs.lemmas.Bool.Decides.{nat_tests}
use Rattle.ioam_base.specs.Octets.{written}
use Rattle.ioam_ip.specs.Hop.{has_hop, hop_end, hop_head, hop_options}
use Rattle.ioam_ip.specs.Options.{Item, option_end, item_at, body_at, is_option}
use Rattle.ioam_ip.specs.OptionsLeft.{options_from}
use Rattle.ioam_ip.specs.Rewriting.{options_in}
use Rattle.ioam_ip.proofs.NextLaws.{suffix_same}
use Rattle.ioam_ip.proofs.OptionsLaws.{option_size-pos}
use Rattle.ioam_node_visit.proofs.TestsLaws.{true_le}

above_one : (k : ℕ) → ltb 1 k ≡ true → eqb k 0 ≡ false
above_one k is = grind (arith, nat_tests)

-- ---- members of a list

pub contains-here : (x : Item) (xs : List Item) → Contains (x ∷ xs) x
contains-here x xs = (zero, omega arith, refl)

pub contains-there : (x y : Item) (xs : List Item) → Contains xs y → Contains (x ∷ xs) y
contains-there x y xs there = (suc there.0, omega (arith, there.1), there.2)

pub contains-none : (y : Item) → Contains [] y → ⊥
contains-none y there = let below = there.1 in omega (arith, below)

pub contains-map : (f : Item → Item) (xs : List Item) (y : Item) → Contains xs y → Contains (map f xs) (f y)
contains-map f xs y there =
    (there.0, omega (arith, there.1, length-map xs f), get_or-map f xs there.0 y ∙ ap f there.2)

-- ---- octets behind a place, and octets that are written

pub index_behind : (a b : List ℕ) (from i : ℕ) → drop from a ≡ drop from b → from ≤ i → slice_index a i ≡ slice_index b i
index_behind a b from i same behind =
    let is : i ≡ from + (i - from) = omega arith in
    ap (λ n. slice_index a n) is ∙ sym (get_or-drop from a (i - from) 0) ∙ ap (λ xs. slice_index xs (i - from)) same
    ∙ get_or-drop from b (i - from) 0 ∙ sym (ap (λ n. slice_index b n) is)

pub written_in : (octets part : List ℕ) (at k : ℕ) → at ≤ length octets → k < length part → slice_index (written octets at part) (at + k) ≡ slice_index part k
written_in octets part at k within below =
    let rest = drop (at + length part) octets in
    let front : at ≡ length (take at octets) = omega (arith, length-take at octets) in
    ap (λ n. slice_index (written octets at part) (n + k)) front
    ∙ get_or-append-add (take at octets) (part ++ rest) k 0
    ∙ get_or_append_left part rest 0 k below

-- what stands there, written again
pub written_same : (octets part : List ℕ) (at : ℕ) → take (length part) (drop at octets) ≡ part → written octets at part ≡ octets
written_same octets part at is =
    ap (λ xs. take at octets ++ xs)
    ((λ i. sym is i ++ sym (drop-drop (length part) at octets) i) ∙ take-append-drop (length part) (drop at octets))
    ∙ take-append-drop at octets

-- an octet of a part
pub range_index : (octets : List ℕ) (from to i : ℕ) → from ≤ i → i < to → slice_index (slice_range octets from to) (i - from) ≡ slice_index octets i
range_index octets from to i after below =
    let is : from + (i - from) ≡ i = omega arith in
    get_or-take (to - from) (drop from octets) (i - from) 0 (omega arith) ∙ get_or-drop from octets (i - from) 0 ∙ ap (λ n. slice_index octets n) is

-- a part without its first two octets
pub range_rest : (octets : List ℕ) (from to : ℕ) → from + 2 ≤ to → drop 2 (slice_range octets from to) ≡ slice_range octets (from + 2) to
range_rest octets from to two =
    let is : to - from ≡ 2 + (to - (from + 2)) = omega arith in
    ap (λ n. drop 2 (take n (drop from octets))) is ∙ drop-take 2 (to - (from + 2)) (drop from octets)
    ∙ ap (take (to - (from + 2))) (drop-drop 2 from octets)

-- ---- options that lie in a header

-- these options lie in a header from a place on, one behind the other
abbrev pub Lies : List ℕ → ℕ → List Item → Type 0
Lies head from [] = Unit {0}
Lies head from (x ∷ xs) = (from ≤ x.at) × (x.at + 2 + length x.body ≤ length head)
    × (take (length x.body) (drop (x.at + 2) head) ≡ x.body) × Lies head (x.at + 2 + length x.body) xs

two_more : (b : Bool) (n : ℕ) → b ≡ false → cond b 1 (n + 2) ≡ n + 2
two_more true n is = absurd (cc is)
two_more false n is = refl

with_data : (b : Bool) (xs : List ℕ) → b ≡ false → cond b [] xs ≡ xs
with_data true xs is = absurd (cc is)
with_data false xs is = refl

lies_from : (steps : ℕ) (head : List ℕ) (from at : ℕ) → from ≤ at → Lies head from (options_from steps head at)
lies_from zero head from at after = tt
lies_from (suc steps) head from at after =
    by_fit (leb (option_end head at) (length head)) refl (λ start is. lies_from steps head start (option_end head at) is) where
      item : Item
      item = item_at head at

      rest : List Item
      rest = options_from steps head (option_end head at)

      by_option : (b : Bool) → is_option item ≡ b → option_end head at ≤ length head → ((start : ℕ) → start ≤ option_end head at → Lies head start rest)
          → Lies head from (cond b (item ∷ rest) rest)
      by_option false is fits more = more from (omega (arith, option_size-pos head at))
      by_option true is fits more =
          let n = slice_index head (at + 1) in
          let other : eqb (slice_index head at) 0 ≡ false = above_one (slice_index head at) is in
          let end : option_end head at ≡ at + (n + 2) = ap (λ m. at + m) (two_more (eqb (slice_index head at) 0) n other) in
          let body : body_at head at ≡ take n (drop (at + 2) head) = with_data (eqb (slice_index head at) 0) (take n (drop (at + 2) head)) other in
          let size : length (body_at head at) ≡ n = ap length body ∙ omega (arith, fits, end, length-take n (drop (at + 2) head), length-drop (at + 2) head) in (
            after,
            omega (arith, size, end, fits),
            ap (λ m. take m (drop (at + 2) head)) size ∙ sym body,
            more (at + 2 + length (body_at head at)) (omega (arith, size, end)),
          )

      by_fit : (b : Bool) → leb (option_end head at) (length head) ≡ b → ((start : ℕ) → start ≤ option_end head at → Lies head start rest)
          → Lies head from (cond b (cond (is_option item) (item ∷ rest) rest) [])
      by_fit false is more = tt
      by_fit true is more = by_option (is_option item) refl (true_le (option_end head at) (length head) is) more

pub lies-in : (head : List ℕ) → Lies head 2 (options_in head)
lies-in head = lies_from (length head) head 2 2 (omega arith)

-- in another header that is the same from there on
pub lies_same : (a b : List ℕ) (from : ℕ) (xs : List Item) → length a ≡ length b → drop from a ≡ drop from b → Lies a from xs → Lies b from xs
lies_same a b from [] long same lies = tt
lies_same a b from (x ∷ xs) long same lies =
    let after : from ≤ x.at = lies.0 in
    let within : x.at + 2 + length x.body ≤ length a = lies.1 in (
      after,
      omega (arith, within, long),
      ap (take (length x.body)) (sym (suffix_same a b from (x.at + 2) (omega (arith, after)) same)) ∙ lies.2,
      lies_same a b (x.at + 2 + length x.body) xs long (suffix_same a b from (x.at + 2 + length x.body) (omega (arith, after)) same) lies.3,
    )

-- where an option's data stand
record Stands (head : List ℕ) (x : Item) : Type 0 where
  within : x.at + 2 + length x.body ≤ length head
  body : take (length x.body) (drop (x.at + 2) head) ≡ x.body

stands_at : (head : List ℕ) (from : ℕ) (xs : List Item) → Lies head from xs → (k : ℕ) (y : Item) → k < length xs → slice_index_or xs k y ≡ y → Stands head y
stands_at head from [] lies k y below is = absurd (omega (arith, below))
stands_at head from (x ∷ xs) lies zero y below is = subst (λ z. Stands head z) is (record { within = lies.1; body = lies.2 })
stands_at head from (x ∷ xs) lies (suc k) y below is = stands_at head (x.at + 2 + length x.body) xs lies.3 k y (omega (arith, below)) is

-- in a packet
pub body_stands : (packet : List ℕ) (x : Item) → Contains (hop_options packet) x
    → slice_range packet (42 + x.at) (42 + x.at + length x.body) ≡ x.body
body_stands packet x there = by_test (has_hop packet) there where
  by_test : (b : Bool) → Contains (cond b (options_in (hop_head packet)) []) x → slice_range packet (42 + x.at) (42 + x.at + length x.body) ≡ x.body
  by_test false none = absurd (contains-none x none)
  by_test true some =
      let head = hop_head packet in
      let n = length x.body in
      let stands = stands_at head 2 (options_in head) (lies-in head) some.0 x some.1 some.2 in
      let within = stands.within in
      let size : hop_end packet - 40 ≡ (x.at + 2) + (hop_end packet - 40 - (x.at + 2)) = omega (arith, within, length-take (hop_end packet - 40) (drop 40 packet)) in
      let more : n ≤ hop_end packet - 40 - (x.at + 2) = omega (arith, within, length-take (hop_end packet - 40) (drop 40 packet)) in
      let place : 40 + (x.at + 2) ≡ 42 + x.at = omega arith in
      let count : (42 + x.at + n) - (42 + x.at) ≡ n = omega arith in
      let behind : drop (x.at + 2) head ≡ take (hop_end packet - 40 - (x.at + 2)) (drop (42 + x.at) packet) =
      ap (λ m. drop (x.at + 2) (take m (drop 40 packet))) size
      ∙ drop-take (x.at + 2) (hop_end packet - 40 - (x.at + 2)) (drop 40 packet)
      ∙ ap (take (hop_end packet - 40 - (x.at + 2))) (drop-drop (x.at + 2) 40 packet ∙ ap (λ m. drop m packet) place) in
      ap (λ m. take m (drop (42 + x.at) packet)) count
      ∙ sym (take-take n (hop_end packet - 40 - (x.at + 2)) (drop (42 + x.at) packet) more)
      ∙ sym (ap (take n) behind) ∙ stands.body
