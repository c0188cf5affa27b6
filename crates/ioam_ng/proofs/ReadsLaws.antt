-- Octets behind those of a capture change nothing of what these show, and a capture reads in one
-- way.
use Rattle.std.proofs.Common.{◌≡◌, ℕ, ◌+◌, ◌≤◌, ◌⊎◌, List, [], ◌∷◌, ◌++◌, length, take, drop, Bool, true, false, ◌&&◌, not, Option, Some, None, arith, refl, sym, ap, ◌∙◌, subst, inl, inr, length-append}
use Rattle.std.specs.Prelude.{nat_le, is_none, ◌==◌, if◌then◌else◌}
use Rattle.std.specs.Option.{option_or}
use Rattle.std.proofs.lemmas.Bool.{true≢false, and_from, and_parts, le-leb, leb-true}
use Rattle.std.proofs.lemmas.List.{drop-append-le, take-append-le}
use Rattle.ioam_base.specs.Octets.{u32_at}
use Rattle.ioam_base.proofs.OctetsLaws.{u32_at-append}
use Rattle.ioam_base.proofs.LeadsLaws.{Leads-unique}
use Rattle.ioam_pcap.specs.declared.form.Order.{Order}
use Rattle.ioam_pcap.specs.declared.capture.CapFault.{CapFault}
use Rattle.ioam_pcap.specs.declared.capture.CapFault.TheVariants as fault
use Rattle.ioam_ng.specs.Numbers.{order_said}
use Rattle.ioam_ng.specs.Checks.{first}
use Rattle.ioam_ng.specs.Front.{Known, is_section, front_size, is_front, order_in, number_by, kind_in, size_in, is_alien, front_checks, front_fault}
use Rattle.ioam_ng.specs.Blocks.{Place, CanPass, packet_there, behind, Blocks, packets, front, fault_by, packet_by, faces_by, fault_in, is_whole, packet_in, known_behind, size, kind}
use Rattle.ioam_pcap.specs.Entries.{Taken}
use Rattle.ioam_pcap.specs.Ending.{Ending, Whole, Faulty}
use Rattle.ioam_ng.specs.Reads.{HasFault, IsCut, IsShort, EndsAt, Reads}
use Rattle.ioam_ng.proofs.NumbersLaws.{number_at-append}

-- ---- octets behind others

module _ (octets more : List ℕ) where
  -- a front is long enough for its numbers
  front_long : is_front octets ≡ true → 8 ≤ length octets
  front_long is = by (is_section octets) refl
    where
      by : (b : Bool) → is_section octets ≡ b → 8 ≤ length octets
      by true section = let long = leb-true _ _ (sym (ap (λ s. nat_le (if s then 12 else 8) (length octets)) section) ∙ is) in omega (arith, long)
      by false other = leb-true _ _ (sym (ap (λ s. nat_le (if s then 12 else 8) (length octets)) other) ∙ is)

  section_long : is_front octets ≡ true → is_section octets ≡ true → 12 ≤ length octets
  section_long is section = leb-true _ _ (sym (ap (λ s. nat_le (if s then 12 else 8) (length octets)) section) ∙ is)

  section_same : 4 ≤ length octets → is_section (octets ++ more) ≡ is_section octets
  section_same long = ap (λ n. n == 0x0a0d0d0a) (u32_at-append octets more 0 long)

  front_same : is_front octets ≡ true → is_front (octets ++ more) ≡ true
  front_same is =
      let long = leb-true _ _ is in
      let same : front_size (octets ++ more) ≡ front_size octets = ap (λ s. if s then 12 else 8) (section_same (omega (arith, front_long is))) in
      le-leb _ _ (omega (arith, same, long, length-append octets more))

  number_by_same : (order : Option Order) (at : ℕ) → at + 4 ≤ length octets → number_by order (octets ++ more) at ≡ number_by order octets at
  number_by_same None at fits = refl
  number_by_same (Some order) at fits = number_at-append octets more order at fits

  module _ (known : Option Order) (is : is_front octets ≡ true) where
    order_same : order_in known (octets ++ more) ≡ order_in known octets
    order_same = by (is_section octets) refl
      where
        by : (b : Bool) → is_section octets ≡ b → order_in known (octets ++ more) ≡ order_in known octets
        by true section =
            let number : u32_at (octets ++ more) 8 ≡ u32_at octets 8 = u32_at-append octets more 8 (section_long is section) in
            λ i. if section_same (omega (arith, front_long is)) i then order_said (number i) else known
        by false other =
            ap (λ s. if s then order_said (u32_at (octets ++ more) 8) else known) (section_same (omega (arith, front_long is)) ∙ other)
            ∙ sym (ap (λ s. if s then order_said (u32_at octets 8) else known) other)

    kind_same : kind_in known (octets ++ more) ≡ kind_in known octets
    kind_same = λ i. if section_same (omega (arith, front_long is)) i then 0x0a0d0d0a else number_by_same known 0 (omega (arith, front_long is)) i

    size_same : size_in known (octets ++ more) ≡ size_in known octets
    size_same = ap (λ o. number_by o (octets ++ more) 4) order_same ∙ number_by_same (order_in known octets) 4 (omega (arith, front_long is))

    said_same : is_section octets ≡ true → u32_at (octets ++ more) 8 ≡ u32_at octets 8
    said_same section = u32_at-append octets more 8 (section_long is section)

  -- the first block is no section block, or is one all the same
  alien_same : (known : Option Order) → 4 ≤ length octets → is_alien known (octets ++ more) ≡ is_alien known octets
  alien_same known long =
      let there : nat_le 4 (length octets) ≡ true = le-leb _ _ long in
      let longer : nat_le 4 (length (octets ++ more)) ≡ true = le-leb _ _ (omega (arith, long, length-append octets more)) in
      let sizes : nat_le 4 (length (octets ++ more)) ≡ nat_le 4 (length octets) = longer ∙ sym there in
      λ i. sizes i && is_none known && not (section_same long i)

  magic_same : 4 ≤ length octets → ◌≡◌ {A = Option CapFault} (Some (fault.Magic (u32_at (octets ++ more) 0))) (Some (fault.Magic (u32_at octets 0)))
  magic_same long = ap (λ n. Some (fault.Magic n)) (u32_at-append octets more 0 long)

  -- a faulty front stays so, and one without a fault
  module _ (count : ℕ) where
    alien_fault : (known : Option Order) → 4 ≤ length octets → is_alien known octets ≡ true → front_fault count known (octets ++ more) ≡ front_fault count known octets
    alien_fault known long alien =
        let was : front_fault count known octets ≡ Some (fault.Magic (u32_at octets 0)) =
        ap (λ a. if a then Some (fault.Magic (u32_at octets 0)) else if is_front octets then first (front_checks count (order_in known octets) (u32_at octets 8) (size_in known octets) (kind_in known octets)) else None) alien in
        let now : front_fault count known (octets ++ more) ≡ Some (fault.Magic (u32_at (octets ++ more) 0)) =
        ap (λ a. if a then Some (fault.Magic (u32_at (octets ++ more) 0)) else if is_front (octets ++ more) then first (front_checks count (order_in known (octets ++ more)) (u32_at (octets ++ more) 8) (size_in known (octets ++ more)) (kind_in known (octets ++ more))) else None) (alien_same known long ∙ alien) in
        now ∙ magic_same long ∙ sym was

    module _ (known : Option Order) (is : is_front octets ≡ true) where
      by_checks : first (front_checks count (order_in known (octets ++ more)) (u32_at (octets ++ more) 8) (size_in known (octets ++ more)) (kind_in known (octets ++ more)))
          ≡ first (front_checks count (order_in known octets) (u32_at octets 8) (size_in known octets) (kind_in known octets))
          → front_fault count known (octets ++ more) ≡ front_fault count known octets
      by_checks same =
          let long : 4 ≤ length octets = omega (arith, front_long is) in
          let fronts : is_front (octets ++ more) ≡ is_front octets = front_same is ∙ sym is in
          λ i. if alien_same known long i then magic_same long i else if fronts i then same i else None

      checks_known : (order : Order) → known ≡ Some order → is_section octets ≡ false
          → first (front_checks count (order_in known (octets ++ more)) (u32_at (octets ++ more) 8) (size_in known (octets ++ more)) (kind_in known (octets ++ more)))
          ≡ first (front_checks count (order_in known octets) (u32_at octets 8) (size_in known octets) (kind_in known octets))
      checks_known order some other =
          let here : order_in known octets ≡ Some order = ap (λ s. if s then order_said (u32_at octets 8) else known) other ∙ some in
          (λ i. first (front_checks count ((order_same known is ∙ here) i) (u32_at (octets ++ more) 8) (size_same known is i) (kind_same known is i)))
          ∙ sym (λ i. first (front_checks count (here i) (u32_at octets 8) (size_in known octets) (kind_in known octets)))

      checks_section : is_section octets ≡ true
          → first (front_checks count (order_in known (octets ++ more)) (u32_at (octets ++ more) 8) (size_in known (octets ++ more)) (kind_in known (octets ++ more)))
          ≡ first (front_checks count (order_in known octets) (u32_at octets 8) (size_in known octets) (kind_in known octets))
      checks_section section = λ i. first (front_checks count (order_same known is i) (said_same known is section i) (size_same known is i) (kind_same known is i))

      alien_here : known ≡ None → is_section octets ≡ false → is_alien known octets ≡ true
      alien_here none other =
          let first_two : (nat_le 4 (length octets) && is_none known) ≡ true =
          and_from (nat_le 4 (length octets)) (is_none known) (le-leb 4 (length octets) (omega (arith, front_long is))) (ap is_none none) in
          and_from (nat_le 4 (length octets) && is_none known) (not (is_section octets)) first_two (ap not other)

    front_fault_same : (known : Option Order) → is_front octets ≡ true → front_fault count known (octets ++ more) ≡ front_fault count known octets
    front_fault_same known is = by (is_section octets) known refl refl
      where
        by : (b : Bool) (o : Option Order) → is_section octets ≡ b → known ≡ o → front_fault count known (octets ++ more) ≡ front_fault count known octets
        by true o section same = by_checks known is (checks_section known is section)
        by false (Some order) other same = by_checks known is (checks_known known is order same other)
        by false None other same = alien_fault known (omega (arith, front_long is)) (alien_here known is same other)

-- ---- a block behind which octets stand

module _ (known : Known) (octets more : List ℕ) where
  whole_front : is_whole known octets ≡ true → is_front octets ≡ true
  whole_front whole = (and_parts _ _ whole).0

  whole_fits : is_whole known octets ≡ true → size known octets ≤ length octets
  whole_fits whole = leb-true _ _ (and_parts _ _ whole).1

  module _ (whole : is_whole known octets ≡ true) where
    abbrev is : is_front octets ≡ true
    is = whole_front whole

    whole_same : is_whole known (octets ++ more) ≡ true
    whole_same = and_from _ _ (front_same octets more is)
        (le-leb _ _ (omega (arith, size_same octets more known.order is, whole_fits whole, length-append octets more)))

    block_same : take (size known (octets ++ more)) (octets ++ more) ≡ take (size known octets) octets
    block_same = ap (λ n. take n (octets ++ more)) (size_same octets more known.order is) ∙ take-append-le (size known octets) octets more (whole_fits whole)

    whole_fault_same : fault_in known (octets ++ more) ≡ fault_in known octets
    whole_fault_same =
        let wholes : is_whole known (octets ++ more) ≡ is_whole known octets = whole_same ∙ sym whole in
        λ i. option_or (front_fault_same octets more known.count known.order is i)
        (if wholes i then fault_by (order_same octets more known.order is i) (block_same i) (kind_same octets more known.order is i) known.faces else None)

    packet_same : packet_in known (octets ++ more) ≡ packet_in known octets
    packet_same = λ i. packet_by (order_same octets more known.order is i) (block_same i) (kind_same octets more known.order is i) known.faces

    known_same : known_behind known (octets ++ more) ≡ known_behind known octets
    known_same = λ i. record {
      count = known.count + 1;
      order = order_same octets more known.order is i;
      faces = faces_by (order_same octets more known.order is i) (block_same i) (kind_same octets more known.order is i) known.faces;
    }

    rest_same : drop (size known (octets ++ more)) (octets ++ more) ≡ drop (size known octets) octets ++ more
    rest_same = ap (λ n. drop n (octets ++ more)) (size_same octets more known.order is) ∙ drop-append-le (size known octets) octets more (whole_fits whole)

-- a place with octets behind its own
abbrev pub with_more : List ℕ → Place → Place
with_more more p = record { known = p.known; octets = p.octets ++ more }

pub Blocks-behind : (more : List ℕ) (p : Place) (blocks : List (Option Taken)) (q : Place) → Blocks p blocks q → Blocks (with_more more p) blocks (with_more more q)
Blocks-behind more p [] q here = ap (with_more more) here
Blocks-behind more p (x ∷ xs) q leads =
    let whole = leads.0.1 in
    let next : behind (with_more more p) ≡ with_more more (behind p) = λ i. record { known = known_same p.known p.octets more whole i; octets = rest_same p.known p.octets more whole i } in
    let Q : Place → Type 0 = λ r. Blocks r xs (with_more more q) in (
      (whole_fault_same p.known p.octets more whole ∙ leads.0.0, whole_same p.known p.octets more whole),
      leads.1 ∙ sym (packet_same p.known p.octets more whole),
      subst Q (sym next) (Blocks-behind more (behind p) xs q leads.2),
    )

-- what is a fault of the front alone
option_left : (x : Option CapFault) (f : CapFault) → option_or x None ≡ Some f → x ≡ Some f
option_left None f same = same
option_left (Some g) f same = same

pub HasFault-behind : (more : List ℕ) (p : Place) (f : CapFault) → HasFault p f → HasFault (with_more more p) f
HasFault-behind more p f bad = by (is_front p.octets) (is_whole p.known p.octets) refl refl
  where
    left : Bool → Option CapFault
    left w = option_or (front_fault p.known.count p.known.order p.octets)
        (if w then fault_by (order_in p.known.order p.octets) (take (size p.known p.octets) p.octets) (kind p.known p.octets) p.known.faces else None)

    by_front : is_whole p.known p.octets ≡ false → front_fault p.known.count p.known.order p.octets ≡ Some f
    by_front cut = option_left _ f (sym (ap left cut) ∙ bad)

    carried : front_fault p.known.count p.known.order p.octets ≡ Some f → front_fault p.known.count p.known.order (p.octets ++ more) ≡ front_fault p.known.count p.known.order p.octets
        → HasFault (with_more more p) f
    carried here same = ap (λ x. option_or x
        (if is_whole p.known (p.octets ++ more) then fault_by (order_in p.known.order (p.octets ++ more)) (take (size p.known (p.octets ++ more)) (p.octets ++ more)) (kind p.known (p.octets ++ more)) p.known.faces else None)) (same ∙ here)

    by_alien : (a : Bool) → is_alien p.known.order p.octets ≡ a → is_front p.octets ≡ false → front_fault p.known.count p.known.order p.octets ≡ Some f → HasFault (with_more more p) f
    by_alien true alien away here =
        let first_two = and_parts (nat_le 4 (length p.octets) && is_none p.known.order) (not (is_section p.octets)) alien in
        let long = and_parts (nat_le 4 (length p.octets)) (is_none p.known.order) first_two.0 in
        carried here (alien_fault p.octets more p.known.count p.known.order (leb-true 4 (length p.octets) long.0) alien)
    by_alien false alien away here =
        let none : front_fault p.known.count p.known.order p.octets ≡ None =
        λ i. if alien i then Some (fault.Magic (u32_at p.octets 0)) else if away i then first (front_checks p.known.count (order_in p.known.order p.octets) (u32_at p.octets 8) (size_in p.known.order p.octets) (kind_in p.known.order p.octets)) else None in
        let wrong : ◌≡◌ {A = Option CapFault} None (Some f) = sym none ∙ here in
        absurd (cc)

    by : (b w : Bool) → is_front p.octets ≡ b → is_whole p.known p.octets ≡ w → HasFault (with_more more p) f
    by b true there whole = whole_fault_same p.known p.octets more whole ∙ bad
    by true false there cut = carried (by_front cut) (front_fault_same p.octets more p.known.count p.known.order there)
    by false false away cut = by_alien (is_alien p.known.order p.octets) refl away (by_front cut)

-- ---- one way

pub none_some : (f : CapFault) → ◌≡◌ {A = Option CapFault} None (Some f) → ⊥
none_some f same = absurd (cc)

some_injective : (f g : CapFault) → ◌≡◌ {A = Option CapFault} (Some f) (Some g) → f ≡ g
some_injective f g same = cc

pub fault_stops : (p : Place) (f : CapFault) → HasFault p f → CanPass p → ⊥
fault_stops p f bad pass = none_some f (sym pass.0 ∙ bad)

pub cut_stops : (p : Place) → IsCut p → CanPass p → ⊥
cut_stops p cut pass = true≢false (sym pass.1 ∙ cut.1)

pub cut_sound : (p : Place) (f : CapFault) → IsCut p → HasFault p f → ⊥
cut_sound p f cut bad = none_some f (sym cut.0 ∙ bad)

pub fault_unique : (p : Place) (f g : CapFault) → HasFault p f → HasFault p g → f ≡ g
fault_unique p f g x y = some_injective f g (sym x ∙ y)

-- where no octets are left no block is, nor a fault
pub nothing_left : (p : Place) → p.octets ≡ [] → IsCut p
nothing_left p none =
    let Q : List ℕ → Type 0 = λ xs. (fault_in p.known xs ≡ None) × (is_whole p.known xs ≡ false) in
    subst Q (sym none) (refl, refl)

pub ends_stop : (octets : List ℕ) (p : Place) (e : Ending) → EndsAt octets p e → CanPass p → ⊥
ends_stop octets p Whole ends pass = cut_stops p (nothing_left p ends.1) pass
ends_stop octets p (Faulty at f) (here, inl bad) pass = fault_stops p f bad pass
ends_stop octets p (Faulty at f) (here, inr short) pass = cut_stops p short.0 pass

whole_or_faulty : (octets : List ℕ) (p : Place) (at : ℕ) (f : CapFault) → EndsAt octets p Whole → EndsAt octets p (Faulty at f) → ⊥
whole_or_faulty octets p at f whole (here, inl bad) = cut_sound p f (nothing_left p whole.1) bad
whole_or_faulty octets p at f whole (here, inr short) = let some = short.2 whole.0 in let none = ap length whole.1 in absurd (omega arith)

faults_unique : (p : Place) (f g : CapFault) → (HasFault p f ⊎ IsShort p f) → (HasFault p g ⊎ IsShort p g) → f ≡ g
faults_unique p f g (inl x) (inl y) = fault_unique p f g x y
faults_unique p f g (inl x) (inr y) = absurd (cut_sound p f y.0 x)
faults_unique p f g (inr x) (inl y) = absurd (cut_sound p g x.0 y)
faults_unique p f g (inr x) (inr y) = x.1 ∙ sym y.1

ends_unique : (octets : List ℕ) (p : Place) (d e : Ending) → EndsAt octets p d → EndsAt octets p e → d ≡ e
ends_unique octets p Whole Whole x y = refl
ends_unique octets p Whole (Faulty at f) x y = absurd (whole_or_faulty octets p at f x y)
ends_unique octets p (Faulty at f) Whole x y = absurd (whole_or_faulty octets p at f y x)
ends_unique octets p (Faulty at f) (Faulty there g) x y =
    let places : at ≡ there = omega (arith, x.0, y.0) in
    let faults = faults_unique p f g x.1 y.1 in
    λ i. Faulty (places i) (faults i)

pub Reads-unique : (octets : List ℕ) (xs ys : List Taken) (d e : Ending) → Reads octets xs d → Reads octets ys e → (xs ≡ ys) × (d ≡ e)
Reads-unique octets xs ys d e x y =
    let same = Leads-unique CanPass packet_there behind (front octets) x.blocks x.place y.blocks y.place x.leads (ends_stop octets x.place d x.ends) y.leads (ends_stop octets y.place e y.ends) in
    let Q : Place → Type 0 = λ p. EndsAt octets p d in
    (x.given ∙ ap packets same.0 ∙ sym y.given, ends_unique octets y.place d e (subst Q same.1 x.ends) y.ends)
