-- Laws of sets: each passes in one way or has one fault.
use Rattle.std.proofs.Common.{◌≡◌, ℕ, ◌+◌, ◌-◌, ◌⊎◌, Bool, List, [], length, sym, ap, ap₂, ◌∙◌, subst, arith, inl, inr}
use Rattle.ioam_base.specs.Octets.{u16_at}
use Rattle.ioam_dex.specs.Record.{Record}
use Rattle.ioam_ipfix.specs.declared.fault.IpfixFault.{IpfixFault}
use Rattle.ioam_ipfix.specs.declared.fault.IpfixFault.TheVariants as fault
use Rattle.ioam_ipfix.specs.declared.kind.SetKind.{SetKind}
use Rattle.ioam_ipfix.specs.declared.kind.SetKind.TheVariants.{Templates, Data, Skipped, Reserved}
use Rattle.ioam_base.specs.Chain.{Stops, IsFunctional}
use Rattle.ioam_ipfix.specs.Templates.{with_templates}
use Rattle.ioam_ipfix.specs.Sets.{Spot, spot, set_kind, IsPadding, RecordPasses, HasRecords, HoldsAs, IsSized, content_of, SetPasses}
use Rattle.ioam_ipfix.specs.Faults.{IsUnsized, HasStuckRecord, IsStuckAs, IsStuck}
use Rattle.ioam_base.proofs.ChainLaws.{Chain-unique}
use Rattle.ioam_ipfix.proofs.TemplateLaws.{templates-unique, templates-not-stuck, stuck_templates-unique}
use Rattle.ioam_ipfix.proofs.DataLaws.{record-functional, record_padding-stops}

records-unique : (id : ℕ) (content : List ℕ) (xs ys : List Record) → HasRecords id content xs → HasRecords id content ys → xs ≡ ys
records-unique id content xs ys one other =
    (Chain-unique (RecordPasses id) (record-functional id) content xs one.0 ys other.0
    one.1 (record_padding-stops id one.0 one.2) other.1 (record_padding-stops id other.0 other.2)).0

records-not-stuck : (at id : ℕ) (content : List ℕ) (xs : List Record) (f : IpfixFault) → HasRecords id content xs → HasStuckRecord at id content f → ⊥
records-not-stuck at id content xs f one (ys, rest, leads, other, stops, is) =
    let same = Chain-unique (RecordPasses id) (record-functional id) content xs one.0 ys rest
    one.1 (record_padding-stops id one.0 one.2) leads stops in
    other (subst (λ r. IsPadding 8 r) same.1 one.2)

stuck_records-unique : (at id : ℕ) (content : List ℕ) (f g : IpfixFault) → HasStuckRecord at id content f → HasStuckRecord at id content g → f ≡ g
stuck_records-unique at id content f g (xs, rest, leads, none, stops, is) (ys, more, led, neither, stop, was) =
    let same = Chain-unique (RecordPasses id) (record-functional id) content xs rest ys more leads stops led stop in
    is ∙ ap (λ r. fault.Field (at + (length content - length r))) same.1 ∙ sym was

-- ---- by what a set holds

holds-unique : (kind : SetKind) (known : List Bool) (id : ℕ) (content : List ℕ) (xs ys : List Record) (b c : List Bool)
    → HoldsAs kind known id content xs b → HoldsAs kind known id content ys c → (xs ≡ ys) × (b ≡ c)
holds-unique Templates known id content xs ys b c one other =
    let same = templates-unique content one.0.0 other.0.0 one.0.1 other.0.1 in
    (one.1 ∙ sym other.1, one.0.2 ∙ ap (with_templates known) same ∙ sym other.0.2)
holds-unique Data known id content xs ys b c one other = (records-unique id content xs ys one.1 other.1, one.2 ∙ sym other.2)
holds-unique Skipped known id content xs ys b c one other = (one.0 ∙ sym other.0, one.1 ∙ sym other.1)
holds-unique Reserved known id content xs ys b c one other = absurd one

holds-not-stuck : (kind : SetKind) (at : ℕ) (known : List Bool) (id : ℕ) (content : List ℕ) (xs : List Record) (b : List Bool) (f : IpfixFault)
    → HoldsAs kind known id content xs b → IsStuckAs kind at known id content f → ⊥
holds-not-stuck Templates at known id content xs b f one stuck = templates-not-stuck content one.0.0 f one.0.1 stuck
holds-not-stuck Data at known id content xs b f one (inl unknown) = unknown.0 one.0
holds-not-stuck Data at known id content xs b f one (inr stuck) = records-not-stuck (at + 4) id content xs f one.1 stuck.1
holds-not-stuck Skipped at known id content xs b f one stuck = stuck
holds-not-stuck Reserved at known id content xs b f one stuck = one

stuck_as-unique : (kind : SetKind) (at : ℕ) (known : List Bool) (id : ℕ) (content : List ℕ) (f g : IpfixFault)
    → IsStuckAs kind at known id content f → IsStuckAs kind at known id content g → f ≡ g
stuck_as-unique Templates at known id content f g one other = stuck_templates-unique content f g one other
stuck_as-unique Data at known id content f g (inl one) (inl other) = one.1 ∙ sym other.1
stuck_as-unique Data at known id content f g (inl one) (inr other) = absurd (one.0 other.0)
stuck_as-unique Data at known id content f g (inr one) (inl other) = absurd (other.0 one.0)
stuck_as-unique Data at known id content f g (inr one) (inr other) = stuck_records-unique (at + 4) id content f g one.1 other.1
stuck_as-unique Skipped at known id content f g one other = absurd one
stuck_as-unique Reserved at known id content f g one other = one ∙ sym other

-- ---- sets

pub set-functional : IsFunctional SetPasses
set-functional a xs b ys c one other =
    let held = holds-unique (set_kind (u16_at a.octets 0)) a.known (u16_at a.octets 0) (content_of a.octets) xs ys b.known c.known one.holds other.holds in
    (held.0, ap₂ spot held.1 (one.behind ∙ sym other.behind))

pub nothing-stops : (known : List Bool) → Stops SetPasses (spot known [])
nothing-stops known xs b one = let begins = one.sized.begins in omega (arith, begins)

sized-not-unsized : (octets : List ℕ) (f : IpfixFault) → IsSized octets → IsUnsized octets f → ⊥
sized-not-unsized octets f sized (inl short) = let begins = sized.begins in let few = short.0 in omega (arith, begins, few)
sized-not-unsized octets f sized (inr (many, inl low, is)) = let least = sized.least in omega (arith, least, low)
sized-not-unsized octets f sized (inr (many, inr high, is)) = let there = sized.there in omega (arith, there, high)

unsized-unique : (octets : List ℕ) (f g : IpfixFault) → IsUnsized octets f → IsUnsized octets g → f ≡ g
unsized-unique octets f g (inl x) (inl y) = x.1 ∙ sym y.1
unsized-unique octets f g (inl x) (inr y) = let few = x.0 in let many = y.0 in absurd (omega (arith, few, many))
unsized-unique octets f g (inr x) (inl y) = let few = y.0 in let many = x.0 in absurd (omega (arith, few, many))
unsized-unique octets f g (inr x) (inr y) = x.2 ∙ sym y.2

pub stuck-stops : (at : ℕ) (a : Spot) (f : IpfixFault) → IsStuck at a f → Stops SetPasses a
stuck-stops at a f stuck xs b one = elim stuck.bad [
  | inl bad ↦ sized-not-unsized a.octets f one.sized bad
  | inr bad ↦ holds-not-stuck (set_kind (u16_at a.octets 0)) at a.known (u16_at a.octets 0) (content_of a.octets) xs b.known f one.holds bad.1
]

bad-unique : (at : ℕ) (a : Spot) (f g : IpfixFault)
    → IsUnsized a.octets f ⊎ (IsSized a.octets × IsStuckAs (set_kind (u16_at a.octets 0)) at a.known (u16_at a.octets 0) (content_of a.octets) f)
    → IsUnsized a.octets g ⊎ (IsSized a.octets × IsStuckAs (set_kind (u16_at a.octets 0)) at a.known (u16_at a.octets 0) (content_of a.octets) g)
    → f ≡ g
bad-unique at a f g (inl x) (inl y) = unsized-unique a.octets f g x y
bad-unique at a f g (inl x) (inr y) = absurd (sized-not-unsized a.octets f y.0 x)
bad-unique at a f g (inr x) (inl y) = absurd (sized-not-unsized a.octets g x.0 y)
bad-unique at a f g (inr x) (inr y) = stuck_as-unique (set_kind (u16_at a.octets 0)) at a.known (u16_at a.octets 0) (content_of a.octets) f g x.1 y.1

pub stuck-unique : (at : ℕ) (a : Spot) (f g : IpfixFault) → IsStuck at a f → IsStuck at a g → f ≡ g
stuck-unique at a f g one other = bad-unique at a f g one.bad other.bad
