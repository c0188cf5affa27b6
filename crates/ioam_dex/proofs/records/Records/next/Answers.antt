use Rattle.std.proofs.Common.{◌≡◌, ◌∙◌, ap, arith, drop, subst, sym, take}
use Rattle.ioam_dex.specs.Record.{Rec, length_of}
use Rattle.ioam_dex.specs.RecordRef.{AreRecords}
use Rattle.ioam_dex.proofs.RefLaws.{begun, first_fits, first_rec, first_some, others_are}
use Rattle.ioam_dex.proofs.records.Records.next.Goals as goal

pub u16_at-requires : goal.u16_at-requires
u16_at-requires c = first_some c.self.inside.octets.now (begun c.self.inside.octets.now c.self.invariant c.if-is_empty.ensures)

pub split_at-requires : goal.split_at-requires
split_at-requires c =
    let octets = c.self.inside.octets.now in
    let size : c.from-size.result ≡ length_of octets = c.from-size.ensures ∙ c.u16_at.ensures in
    omega (arith, size, first_fits octets (begun octets c.self.invariant c.if-is_empty.ensures))

pub new-requires : goal.new-requires
new-requires c =
    let octets = c.self.inside.octets.now in
    let begins = begun octets c.self.invariant c.if-is_empty.ensures in
    let first : c.split_at.result.0.now ≡ take (length_of octets) octets = c.split_at.ensures.front ∙ ap (λ n. take n octets) (c.from-size.ensures ∙ c.u16_at.ensures) in
    (begins.first, subst (λ o. Rec o begins.first) (sym first) (first_rec octets begins))

pub invariant_of-self : goal.invariant_of-self
invariant_of-self c =
    let octets = c.self.inside.octets.now in
    let others : c.split_at.result.1.now ≡ drop (length_of octets) octets = c.split_at.ensures.back ∙ ap (λ n. drop n octets) (c.from-size.ensures ∙ c.u16_at.ensures) in
    subst AreRecords (sym others) (others_are octets (begun octets c.self.invariant c.if-is_empty.ensures))
