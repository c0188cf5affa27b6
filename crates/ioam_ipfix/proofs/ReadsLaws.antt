-- Octets read as messages in one way.
use Rattle.std.proofs.Common.{◌≡◌, ℕ, ◌-◌, ◌<◌, ◌⊎◌, List, [], ◌++◌, length, refl, sym, ap, ◌∙◌, subst, arith, inl, inr, length-append}
use Rattle.ioam_dex.specs.Record.{Record}
use Rattle.ioam_ipfix.specs.declared.fault.IpfixFault.{IpfixFault}
use Rattle.ioam_base.specs.Chain.{Chain, Stops}
use Rattle.ioam_ipfix.specs.Templates.{none_known}
use Rattle.ioam_ipfix.specs.Sets.{Spot, spot}
use Rattle.ioam_ipfix.specs.Messages.{MessagePasses, IpfixOf}
use Rattle.ioam_ipfix.specs.Faults.{HasMessageFault}
use Rattle.ioam_ipfix.specs.Reads.{Ending, Whole, Faulty, IsShort, EndsAt, Reads}
use Rattle.ioam_base.proofs.ChainLaws.{Chain-unique}
use Rattle.ioam_ipfix.proofs.MessageLaws.{message-functional, fault-unique, fault-stops, cut-stops, cut-not-faulty, fault-inside, messages-behind, fault-behind}

pub nothing-stops : (rest : Spot) → rest.octets ≡ [] → Stops MessagePasses rest
nothing-stops rest none = cut-stops rest (inl (let size = ap length none in omega (arith, size)))

faulty-stops : (rest : Spot) (f : IpfixFault) → HasMessageFault rest f ⊎ IsShort rest.octets f → Stops MessagePasses rest
faulty-stops rest f (inl bad) = fault-stops rest f bad
faulty-stops rest f (inr short) = cut-stops rest short.0

ends-stops : (at : ℕ) (rest : Spot) (d : Ending) → EndsAt at rest d → Stops MessagePasses rest
ends-stops at rest Whole none = nothing-stops rest none
ends-stops at rest (Faulty place f) ends = faulty-stops rest f ends.1

faults-unique : (rest : Spot) (f g : IpfixFault) → HasMessageFault rest f ⊎ IsShort rest.octets f → HasMessageFault rest g ⊎ IsShort rest.octets g → f ≡ g
faults-unique rest f g (inl x) (inl y) = fault-unique rest f g x y
faults-unique rest f g (inl x) (inr y) = absurd (cut-not-faulty rest f y.0 x)
faults-unique rest f g (inr x) (inl y) = absurd (cut-not-faulty rest g x.0 y)
faults-unique rest f g (inr x) (inr y) = x.2 ∙ sym y.2

faulty-some : (rest : Spot) (f : IpfixFault) → HasMessageFault rest f ⊎ IsShort rest.octets f → 0 < length rest.octets
faulty-some rest f (inl bad) = fault-inside rest f bad
faulty-some rest f (inr short) = short.1

whole-or-faulty : (rest : Spot) (f : IpfixFault) → rest.octets ≡ [] → HasMessageFault rest f ⊎ IsShort rest.octets f → ⊥
whole-or-faulty rest f none bad = let some = faulty-some rest f bad in let size = ap length none in omega (arith, some, size)

ends-unique : (at : ℕ) (rest : Spot) (d e : Ending) → EndsAt at rest d → EndsAt at rest e → d ≡ e
ends-unique at rest Whole Whole x y = refl
ends-unique at rest Whole (Faulty p f) x y = absurd (whole-or-faulty rest f x y.1)
ends-unique at rest (Faulty p f) Whole x y = absurd (whole-or-faulty rest f y x.1)
ends-unique at rest (Faulty p f) (Faulty q g) x y =
    let place : p ≡ q = x.0 ∙ sym y.0 in
    let same = faults-unique rest f g x.1 y.1 in
    λ i. Faulty (place i) (same i)

-- octets read in one way
pub Reads-unique : (octets : List ℕ) (xs ys : List (List Record)) (d e : Ending) → Reads octets xs d → Reads octets ys e → (xs ≡ ys) × (d ≡ e)
Reads-unique octets xs ys d e x y =
    let at : Spot → ℕ = λ s. length octets - length s.octets in
    let same = Chain-unique MessagePasses message-functional (spot none_known octets) xs x.rest ys y.rest
    x.leads (ends-stops (at x.rest) x.rest d x.ends) y.leads (ends-stops (at y.rest) y.rest e y.ends) in
    let there : EndsAt (at y.rest) y.rest d = subst (λ s. EndsAt (length octets - length s.octets) s d) same.1 x.ends in
    (same.0, ends-unique (at y.rest) y.rest d e there y.ends)

-- octets are whole messages and a rest that begins with none in one way
pub IpfixOf-unique : (octets : List ℕ) (xs ys : List (List Record)) (r s : Spot) → IpfixOf octets xs r → IpfixOf octets ys s → (xs ≡ ys) × (r ≡ s)
IpfixOf-unique octets xs ys r s one other =
    Chain-unique MessagePasses message-functional (spot none_known octets) xs r ys s one.leads one.stops other.leads other.stops

-- octets with a fault end there, whatever stands behind
pub Reads-faulty : (octets : List ℕ) (xs : List (List Record)) (rest : Spot) (f : IpfixFault) → Chain MessagePasses (spot none_known octets) xs rest → HasMessageFault rest f
    → (more : List ℕ) → Reads (octets ++ more) xs (Faulty (length octets - length rest.octets) f)
Reads-faulty octets xs rest f leads bad more = record {
  rest = spot rest.known (rest.octets ++ more);
  leads = messages-behind more (spot none_known octets) xs rest leads;
  ends = (
    (let all = length-append octets more in let left = length-append rest.octets more in omega (arith, all, left)),
    inl (fault-behind more rest f bad),
  );
}
