-- Laws of messages: where one is due stands a whole one, the front of one, or a fault, each alone; octets behind
-- change none but the front.
use Rattle.std.proofs.Common.{◌≡◌, ℕ, ◌-◌, ◌<◌, ◌≤◌, Bool, List, [], ◌++◌, length, take, drop, sym, ap, ap₂, ◌∙◌, subst, arith, inl, inr, length-append}
use Rattle.std.proofs.lemmas.List.{take-append-le, drop-append-le}
use Rattle.ioam_base.specs.Octets.{u16_at}
use Rattle.ioam_base.proofs.OctetsLaws.{u16_at-append}
use Rattle.ioam_dex.specs.Record.{Record}
use Rattle.ioam_ipfix.specs.declared.fault.IpfixFault.{IpfixFault}
use Rattle.ioam_ipfix.specs.declared.fault.IpfixFault.TheVariants as fault
use Rattle.ioam_base.specs.Chain.{Chain, Stops, IsFunctional}
use Rattle.ioam_ipfix.specs.Sets.{Spot, spot, SetPasses}
use Rattle.ioam_ipfix.specs.Messages.{joined, IsWhole, message_of, MessagePasses, IsCutMessage}
use Rattle.ioam_ipfix.specs.Faults.{IsStuck, IsStuckInside, IsBadHead, HasMessageFault}
use Rattle.ioam_base.proofs.ChainLaws.{Chain-unique, Chain-moved}
use Rattle.ioam_ipfix.proofs.SetLaws.{set-functional, nothing-stops, stuck-stops, stuck-unique}

pub message-functional : IsFunctional MessagePasses
message-functional a xs b ys c one other =
    let start = spot a.known (drop 16 (message_of a.octets)) in
    let same = Chain-unique SetPasses set-functional start one.sets (spot b.known []) other.sets (spot c.known [])
    one.leads (nothing-stops b.known) other.leads (nothing-stops c.known) in
    let known : b.known ≡ c.known = ap (λ (s : Spot). s.known) same.1 in
    (one.records ∙ ap joined same.0 ∙ sym other.records, ap₂ spot known (one.behind ∙ sym other.behind))

passes-not-stuck : (known : List Bool) (message : List ℕ) (sets : List (List Record)) (behind : List Bool) (f : IpfixFault)
    → Chain SetPasses (spot known (drop 16 message)) sets (spot behind []) → IsStuckInside known message f → ⊥
passes-not-stuck known message sets behind f leads is =
    let at = length message - length is.here.octets in
    let same = Chain-unique SetPasses set-functional (spot known (drop 16 message)) sets (spot behind []) is.sets is.here
    leads (nothing-stops behind) is.leads (stuck-stops at is.here f is.stuck) in
    let none : 0 ≡ length is.here.octets = ap (λ (s : Spot). length s.octets) same.1 in
    let some = is.stuck.some in
    omega (arith, none, some)

inside-unique : (known : List Bool) (message : List ℕ) (f g : IpfixFault) → IsStuckInside known message f → IsStuckInside known message g → f ≡ g
inside-unique known message f g one other =
    let at : Spot → ℕ = λ s. length message - length s.octets in
    let same = Chain-unique SetPasses set-functional (spot known (drop 16 message)) one.sets one.here other.sets other.here
    one.leads (stuck-stops (at one.here) one.here f one.stuck) other.leads (stuck-stops (at other.here) other.here g other.stuck) in
    stuck-unique (at other.here) other.here f g (subst (λ s. IsStuck (length message - length s.octets) s f) same.1 one.stuck) other.stuck

head-not-whole : (octets : List ℕ) (f : IpfixFault) → IsBadHead octets f → IsWhole octets → ⊥
head-not-whole octets f (inl bad) whole = bad.1 whole.version
head-not-whole octets f (inr bad) whole = let low = bad.2 in let least = whole.least in omega (arith, low, least)

head-unique : (octets : List ℕ) (f g : IpfixFault) → IsBadHead octets f → IsBadHead octets g → f ≡ g
head-unique octets f g (inl x) (inl y) = x.2 ∙ sym y.2
head-unique octets f g (inl x) (inr y) = absurd (x.1 y.1)
head-unique octets f g (inr x) (inl y) = absurd (y.1 x.1)
head-unique octets f g (inr x) (inr y) = x.3 ∙ sym y.3

-- a message has one fault
pub fault-unique : (a : Spot) (f g : IpfixFault) → HasMessageFault a f → HasMessageFault a g → f ≡ g
fault-unique a f g (inl x) (inl y) = head-unique a.octets f g x y
fault-unique a f g (inl x) (inr y) = absurd (head-not-whole a.octets f x y.0)
fault-unique a f g (inr x) (inl y) = absurd (head-not-whole a.octets g y x.0)
fault-unique a f g (inr x) (inr y) = inside-unique a.known (message_of a.octets) f g x.1 y.1

pub fault-stops : (a : Spot) (f : IpfixFault) → HasMessageFault a f → Stops MessagePasses a
fault-stops a f (inl bad) xs b one = head-not-whole a.octets f bad one.whole
fault-stops a f (inr bad) xs b one = passes-not-stuck a.known (message_of a.octets) one.sets b.known f one.leads bad.1

cut-not-whole : (octets : List ℕ) → IsCutMessage octets → IsWhole octets → ⊥
cut-not-whole octets (inl few) whole = let begins = whole.begins in omega (arith, few, begins)
cut-not-whole octets (inr (is, inl few)) whole = let begins = whole.begins in omega (arith, few, begins)
cut-not-whole octets (inr (is, inr few)) whole = let there = whole.there in let less = few.1 in omega (arith, less, there)

pub cut-stops : (a : Spot) → IsCutMessage a.octets → Stops MessagePasses a
cut-stops a cut xs b one = cut-not-whole a.octets cut one.whole

pub cut-not-faulty : (a : Spot) (f : IpfixFault) → IsCutMessage a.octets → HasMessageFault a f → ⊥
cut-not-faulty a f cut (inr bad) = cut-not-whole a.octets cut bad.0
cut-not-faulty a f (inl few) (inl (inl bad)) = let many = bad.0 in omega (arith, few, many)
cut-not-faulty a f (inl few) (inl (inr bad)) = let many = bad.0 in omega (arith, few, many)
cut-not-faulty a f (inr cut) (inl (inl bad)) = bad.1 cut.0
cut-not-faulty a f (inr (is, inl few)) (inl (inr bad)) = let many = bad.0 in omega (arith, few, many)
cut-not-faulty a f (inr (is, inr few)) (inl (inr bad)) = let least = few.0 in let low = bad.2 in omega (arith, least, low)

pub fault-inside : (a : Spot) (f : IpfixFault) → HasMessageFault a f → 0 < length a.octets
fault-inside a f (inl (inl bad)) = let many = bad.0 in omega (arith, many)
fault-inside a f (inl (inr bad)) = let many = bad.0 in omega (arith, many)
fault-inside a f (inr bad) = let many = bad.0.begins in omega (arith, many)

-- ---- octets behind

module _ (octets more : List ℕ) where
  longer : (n : ℕ) → n ≤ length octets → n ≤ length (octets ++ more)
  longer n fits = omega (arith, length-append octets more)

  whole-behind : IsWhole octets → IsWhole (octets ++ more)
  whole-behind whole =
      let version = u16_at-append octets more 0 (let begins = whole.begins in omega (arith, begins)) in
      let size = u16_at-append octets more 2 (let begins = whole.begins in omega (arith, begins)) in
      let least = whole.least in
      record {
        begins = longer 4 whole.begins;
        version = version ∙ whole.version;
        least = omega (arith, least, size);
        there = subst (λ n. n ≤ length (octets ++ more)) (sym size) (longer (u16_at octets 2) whole.there);
      }

  message_of-behind : IsWhole octets → message_of (octets ++ more) ≡ message_of octets
  message_of-behind whole =
      let size = u16_at-append octets more 2 (let begins = whole.begins in omega (arith, begins)) in
      ap (λ n. take n (octets ++ more)) size ∙ take-append-le (u16_at octets 2) octets more whole.there

  rest-behind : IsWhole octets → drop (u16_at (octets ++ more) 2) (octets ++ more) ≡ drop (u16_at octets 2) octets ++ more
  rest-behind whole =
      let size = u16_at-append octets more 2 (let begins = whole.begins in omega (arith, begins)) in
      ap (λ n. drop n (octets ++ more)) size ∙ drop-append-le (u16_at octets 2) octets more whole.there

  head-behind : (f : IpfixFault) → IsBadHead octets f → IsBadHead (octets ++ more) f
  head-behind f (inl bad) =
      let version = u16_at-append octets more 0 bad.0 in
      inl (longer 2 bad.0, (λ is. bad.1 (sym version ∙ is)), bad.2 ∙ ap fault.Version (sym version))
  head-behind f (inr bad) =
      let version = u16_at-append octets more 0 (let many = bad.0 in omega (arith, many)) in
      let size = u16_at-append octets more 2 (let many = bad.0 in omega (arith, many)) in
      let low = bad.2 in
      inr (longer 4 bad.0, version ∙ bad.1, omega (arith, low, size), bad.3 ∙ ap fault.Length (sym size))

pub message-behind : (more : List ℕ) (a : Spot) (xs : List Record) (b : Spot) → MessagePasses a xs b → MessagePasses (spot a.known (a.octets ++ more)) xs (spot b.known (b.octets ++ more))
message-behind more a xs b one = record {
  whole = whole-behind a.octets more one.whole;
  behind = ap (λ o. o ++ more) one.behind ∙ sym (rest-behind a.octets more one.whole);
  sets = one.sets;
  leads = subst (λ o. Chain SetPasses (spot a.known (drop 16 o)) one.sets (spot b.known [])) (sym (message_of-behind a.octets more one.whole)) one.leads;
  records = one.records;
}

pub messages-behind : (more : List ℕ) (a : Spot) (xs : List (List Record)) (b : Spot) → Chain MessagePasses a xs b
    → Chain MessagePasses (spot a.known (a.octets ++ more)) xs (spot b.known (b.octets ++ more))
messages-behind more a xs b leads = Chain-moved MessagePasses (λ s. spot s.known (s.octets ++ more)) (λ p x q one. message-behind more p x q one) a xs b leads

pub fault-behind : (more : List ℕ) (a : Spot) (f : IpfixFault) → HasMessageFault a f → HasMessageFault (spot a.known (a.octets ++ more)) f
fault-behind more a f (inl bad) = inl (head-behind a.octets more f bad)
fault-behind more a f (inr bad) = inr (
  whole-behind a.octets more bad.0,
  subst (λ o. IsStuckInside a.known o f) (sym (message_of-behind a.octets more bad.0)) bad.1,
)
