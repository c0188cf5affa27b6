use Rattle.std.proofs.Common.{◌≡◌, ◌-◌, ℕ, List, length, ap, sym, ◌∙◌, arith, refl, vec_capacity}
use Rattle.std.proofs.lemmas.List.{with_items_is}
use Rattle.ioam_base.specs.Octets.{written}
use Rattle.ioam_dex.specs.Room.{Room}
use Rattle.ioam_dex.proofs.RoomLaws.{room-written}
use Rattle.ioam_dex.proofs.room.ExportRoom.append.Goals as goal

pub put_at-requires : goal.put_at-requires
put_at-requires c =
    let i = c.self.inside in
    let spare : c.args.self.now.spare ≡ i.given - i.used = sym (ap (λ (r : Room). r.spare) c.self.view_is) in
    omega (arith, c.requires, spare, c.self.invariant.0, c.self.invariant.1, ap length c.deref_mut.ensures.value)

pub invariant_of-self : goal.invariant_of-self
invariant_of-self c =
    let i = c.self.inside in
    let spare : c.args.self.now.spare ≡ i.given - i.used = sym (ap (λ (r : Room). r.spare) c.self.view_is) in
    let long : length c.put_at.new.octets ≡ length c.deref_mut.result.now = omega arith in
    let same : length c.put_at.new.octets ≡ length i.octets.items = omega (arith, long, ap length c.deref_mut.ensures.value) in
    let kept = ap length (with_items_is i.octets c.put_at.new.octets (omega (arith, same))) in
    (omega (arith, c.requires, spare, c.self.invariant.0), omega (arith, kept, same, c.self.invariant.1))

pub returns : goal.returns
returns c =
    let i = c.self.inside in
    let long : length c.put_at.new.octets ≡ length c.deref_mut.result.now = omega arith in
    let same : length c.put_at.new.octets ≡ length i.octets.items = omega (arith, long, ap length c.deref_mut.ensures.value) in
    room-written c.args.self.now i.octets.items _ c.args.part.now i.used i.given (vec_capacity i.octets) (length c.args.part.now) c.self.view_is
    (omega (arith, c.self.invariant.0, c.self.invariant.1)) refl
    (with_items_is i.octets c.put_at.new.octets (omega (arith, same)) ∙ c.put_at.ensures
    ∙ ap (λ (xs : List ℕ). written xs i.used c.args.part.now) c.deref_mut.ensures.value)
