-- How many octets a block, what waits for more, and what was taken can have.
use Rattle.std.proofs.Common.{◌≡◌, ℕ, ◌+◌, ◌*◌, ◌<◌, ◌≤◌, List, [], ◌∷◌, length, take, Bool, true, false, not, ◌&&◌, ◌||◌, ◌%◌, Option, Some, None, arith, refl, sym, ap, ◌∙◌, length-drop}
use Rattle.std.specs.Prelude.{nat_le, nat_lt, is_none, ◌==◌, if◌then◌else◌}
use Rattle.std.specs.Option.{option_or}
use Rattle.std.proofs.lemmas.Bool.{true≢false, and_parts, leb-false, ltb-false}
use Rattle.ioam_base.specs.Octets.{u32_at}
use Rattle.ioam_pcap.specs.declared.capture.CapFault.{CapFault}
use Rattle.ioam_pcap.specs.declared.capture.CapFault.TheVariants as fault
use Rattle.ioam_ng.specs.Checks.{first}
use Rattle.ioam_ng.specs.Front.{Known, is_section, front_size, is_front, order_in, least_size, is_alien, front_checks, front_fault}
use Rattle.ioam_ng.specs.Blocks.{Place, behind, Blocks, fault_in, fault_by, is_whole, size, kind}
use Rattle.ioam_pcap.specs.Entries.{Taken}
use Rattle.ioam_ng.specs.Reading.{Reading, place_of}
use Rattle.ioam_ng.specs.Reader.{Stands, Waits, HoldsFew}
use Rattle.ioam_ng.proofs.ReadsLaws.{none_some}

-- where the first of several isn't there, none of them is
left_none : (x y : Option CapFault) → option_or x y ≡ None → x ≡ None
left_none None y same = refl
left_none (Some f) y same = same

checked : (alien there : Bool) (m : CapFault) (x : Option CapFault) → (if alien then Some m else if there then x else None) ≡ None → there ≡ true → x ≡ None
checked true there m x same is = absurd (none_some m (sym same))
checked false true m x same is = same
checked false false m x same is = absurd (true≢false (sym is))

unchecked : (a b c d : Bool) (f g h k : CapFault) → (if a then Some f else if b then Some g else if c then Some h else if d then Some k else None) ≡ None
    → (a ≡ false) × (c ≡ false) × (d ≡ false)
unchecked true b c d f g h k same = absurd (none_some f (sym same))
unchecked false true c d f g h k same = absurd (none_some g (sym same))
unchecked false false true d f g h k same = absurd (none_some h (sym same))
unchecked false false false true f g h k same = absurd (none_some k (sym same))
unchecked false false false false f g h k same = (refl, refl, refl)

or_right : (a b : Bool) → (a || b) ≡ false → b ≡ false
or_right true b neither = absurd (true≢false neither)
or_right false b neither = neither

least_some : (k : ℕ) → 12 ≤ least_size k
least_some k = grind arith

module _ (known : Known) (octets : List ℕ) (sound : fault_in known octets ≡ None) (there : is_front octets ≡ true) where
  front_checked : (nat_le 33554432 known.count ≡ false) × (nat_lt 16777216 (size known octets) ≡ false)
      × ((not (size known octets % 4 == 0) || nat_lt (size known octets) (least_size (kind known octets))) ≡ false)
  front_checked =
      let none : front_fault known.count known.order octets ≡ None =
      left_none (front_fault known.count known.order octets) (if is_whole known octets then fault_by (order_in known.order octets) (take (size known octets) octets) (kind known octets) known.faces else None) sound in
      let checks : first (front_checks known.count (order_in known.order octets) (u32_at octets 8) (size known octets) (kind known octets)) ≡ None =
      checked (is_alien known.order octets) (is_front octets) (fault.Magic (u32_at octets 0)) (first (front_checks known.count (order_in known.order octets) (u32_at octets 8) (size known octets) (kind known octets))) none there in
      unchecked (nat_le 33554432 known.count) (is_none (order_in known.order octets)) (nat_lt 16777216 (size known octets))
      (not (size known octets % 4 == 0) || nat_lt (size known octets) (least_size (kind known octets)))
      (fault.Blocks 33554432) (fault.Order (u32_at octets 8)) (fault.Large (size known octets)) (fault.Size (size known octets)) checks

  -- a block has some octets
  pub size_some : 0 < size known octets
  size_some =
      let least = ltb-false (size known octets) (least_size (kind known octets)) (or_right (not (size known octets % 4 == 0)) (nat_lt (size known octets) (least_size (kind known octets))) front_checked.2) in
      omega (arith, least, least_some (kind known octets))

  count_few : known.count < 33554432
  count_few = leb-false 33554432 known.count front_checked.0

  size_few : size known octets ≤ 16777216
  size_few = ltb-false 16777216 (size known octets) front_checked.1

-- the front of a block has 12 octets at most
front_few : (octets : List ℕ) → front_size octets ≤ 12
front_few octets = by (is_section octets)
  where
    by : (b : Bool) → (if b then 12 else 8) ≤ 12
    by true = omega arith
    by false = omega arith

-- what waits for octets has fewer than the largest block
pub Waits-few : (reader : Reading) → Waits reader → HoldsFew reader
Waits-few reader waits = by (is_front reader.pending) refl
  where
    by : (b : Bool) → is_front reader.pending ≡ b → HoldsFew reader
    by true there =
        let cut : nat_le (size reader.known reader.pending) (length reader.pending) ≡ false =
        sym (ap (λ t. t && nat_le (size reader.known reader.pending) (length reader.pending)) there) ∙ waits.1 in
        omega (arith, leb-false (size reader.known reader.pending) (length reader.pending) cut, size_few reader.known reader.pending waits.0 there)
    by false away = omega (arith, leb-false (front_size reader.pending) (length reader.pending) away, front_few reader.pending)

-- blocks that stand one behind the other have no more octets than as many of the largest
Blocks-most : (p : Place) (blocks : List (Option Taken)) (q : Place) → Blocks p blocks q
    → length p.octets + p.known.count * 16777216 ≤ length q.octets + q.known.count * 16777216
Blocks-most p [] q here = omega (arith, ap (λ r. length r.octets) here, ap (λ r. r.known.count) here)
Blocks-most p (x ∷ xs) q leads =
    let there = (and_parts (is_front p.octets) (nat_le (size p.known p.octets) (length p.octets)) leads.0.1).0 in
    let few = size_few p.known p.octets leads.0.0 there in
    omega (arith, few, length-drop (size p.known p.octets) p.octets, Blocks-most (behind p) xs q leads.2)

Blocks-count : (p : Place) (blocks : List (Option Taken)) (q : Place) → p.known.count ≤ 33554432 → Blocks p blocks q → q.known.count ≤ 33554432
Blocks-count p [] q few here = omega (arith, few, ap (λ r. r.known.count) here)
Blocks-count p (x ∷ xs) q few leads =
    let there = (and_parts (is_front p.octets) (nat_le (size p.known p.octets) (length p.octets)) leads.0.1).0 in
    Blocks-count (behind p) xs q (omega (arith, count_few p.known p.octets leads.0.0 there)) leads.2

-- a reader has taken no more octets than 33,554,432 of the largest blocks have, 2^49
pub Stands-start : (reader : Reading) (octets : List ℕ) (taken : List Taken) → Stands reader octets taken → reader.start ≤ 562949953421312
Stands-start reader octets taken stands =
    let most = Blocks-most _ stands.blocks (place_of reader) stands.leads in
    let count = Blocks-count _ stands.blocks (place_of reader) (omega arith) stands.leads in
    omega (arith, most, count, stands.inside)
