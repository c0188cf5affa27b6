use Rattle.std.proofs.Common.{List, ℕ, slice_index, sym, ap, ◌∙◌, subst}
use Rattle.ioam_ip.specs.Chain.{IsSound}
use Rattle.ioam_ip.specs.ChainOptions.{CarriesIoam}
use Rattle.ioam_ip.specs.Hop.{option_count}
use Rattle.ioam_ip.specs.Packet.{IsPacket}
use Rattle.ioam_ip.proofs.CarriedLaws.{CarriesIoam-stepped, CarriesIoam-unstepped}
use Rattle.ioam_ip.proofs.SoundLaws.{IsSound-stepped, option_count-stepped}
use Rattle.ioam_node_visit.specs.Step.{node_step}
use Rattle.ioam_node_visit.proofs.CountedLaws.{IsPacket-stepped, hops-stepped}
use Rattle.ioam_node_visit.proofs.StepLaws.{length-step}
use Rattle.ioam_node_visit.proofs.visit.NodeVisit.visit_packet.Goals as goal

pub returns-clause-packet : goal.returns-clause-packet
returns-clause-packet c =
    let v = c.args.self.now in
    let step = node_step v.domain.now v.readings.now v.place v.time v.hops in
    let keeps = length-step v.domain.now v.readings.now v.place v.time v.hops in
    let P : List ℕ → Type 0 = λ xs. IsPacket xs in
    subst P (sym c.change_packet.ensures.steps) (IsPacket-stepped step keeps c.args.packet.now c.requires.sound c.requires.packet)

pub returns-clause-sound : goal.returns-clause-sound
returns-clause-sound c =
    let v = c.args.self.now in
    let step = node_step v.domain.now v.readings.now v.place v.time v.hops in
    let keeps = length-step v.domain.now v.readings.now v.place v.time v.hops in
    let P : List ℕ → Type 0 = λ xs. IsSound xs in
    subst P (sym c.change_packet.ensures.steps) (IsSound-stepped step keeps c.args.packet.now c.requires.sound)

pub returns-clause-carries : goal.returns-clause-carries
returns-clause-carries c =
    let v = c.args.self.now in
    let step = node_step v.domain.now v.readings.now v.place v.time v.hops in
    let keeps = length-step v.domain.now v.readings.now v.place v.time v.hops in
    let P : List ℕ → Type 0 = λ xs. CarriesIoam xs in (
      (λ carries. subst P (sym c.change_packet.ensures.steps) (CarriesIoam-stepped step keeps c.args.packet.now carries)),
      (λ carries. CarriesIoam-unstepped step keeps c.args.packet.now c.requires.sound (subst P c.change_packet.ensures.steps carries)),
    )

pub returns-clause-count : goal.returns-clause-count
returns-clause-count c =
    let v = c.args.self.now in
    let step = node_step v.domain.now v.readings.now v.place v.time v.hops in
    let keeps = length-step v.domain.now v.readings.now v.place v.time v.hops in
    ap option_count c.change_packet.ensures.steps ∙ option_count-stepped step keeps c.args.packet.now c.requires.sound

pub returns-clause-hops : goal.returns-clause-hops
returns-clause-hops c =
    let v = c.args.self.now in
    let step = node_step v.domain.now v.readings.now v.place v.time v.hops in
    let keeps = length-step v.domain.now v.readings.now v.place v.time v.hops in
    ap (λ xs. slice_index xs 7) c.change_packet.ensures.steps ∙ hops-stepped step keeps c.args.packet.now c.requires.packet
