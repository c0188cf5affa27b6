use Rattle.std.proofs.Common.{refl, subst}
use Rattle.ioam_pcap.specs.declared.capture.CapStep.{CapStep}
use Rattle.ioam_pcap.specs.declared.capture.CapStep.TheVariants.{Head, Packet, More, Bad}
use Rattle.ioam_capture.proofs.FaultLaws.{classic_says}
use Rattle.ioam_capture.proofs.StepLaws.{ClassicLeaves, classic_step, wants_none}
use Rattle.ioam_capture.specs.declared.reader.Step.TheVariants as step
use Rattle.ioam_capture.proofs.classic.next_record.Goals as goal

pub unreachable-requires : goal.unreachable-requires
unreachable-requires c =
    let new = c.next.follows.lender-at-none in
    let Q : CapStep → Type 0 = λ s. ClassicLeaves c.args.reader.now new s in
    classic_step c.args.reader.now new c.args.link c.requires (Head c.in-Head.link) (subst Q c.in-Head.is c.next.follows.holds-at-none)

pub returns-in-Packet : goal.returns-in-Packet
returns-in-Packet c =
    let new = c.next.follows.lender-at-none in
    let Q : CapStep → Type 0 = λ s. ClassicLeaves c.args.reader.now new s in
    let leaves = subst Q c.in-Packet.is c.next.follows.holds-at-none in
    ((refl, λ _. tt, classic_step c.args.reader.now new c.args.link c.requires (Packet c.in-Packet.packet) leaves), record { rests = tt; memory = wants_none (step.Packet c.args.link c.in-Packet.packet) tt; faulty = classic_says c.args.reader.now (Packet c.in-Packet.packet) leaves.2 c.args.link })

pub returns-in-More : goal.returns-in-More
returns-in-More c =
    let new = c.next.follows.lender-at-none in
    let Q : CapStep → Type 0 = λ s. ClassicLeaves c.args.reader.now new s in
    let leaves = subst Q c.in-More.is c.next.follows.holds-at-none in
    ((refl, λ _. tt, classic_step c.args.reader.now new c.args.link c.requires More leaves), record { rests = tt; memory = wants_none step.More tt; faulty = classic_says c.args.reader.now More leaves.2 })

pub returns-in-Bad : goal.returns-in-Bad
returns-in-Bad c =
    let new = c.next.follows.lender-at-none in
    let Q : CapStep → Type 0 = λ s. ClassicLeaves c.args.reader.now new s in
    let leaves = subst Q c.in-Bad.is c.next.follows.holds-at-none in
    ((refl, λ _. tt, classic_step c.args.reader.now new c.args.link c.requires (Bad c.in-Bad.at c.in-Bad.fault) leaves), record { rests = tt; memory = wants_none (step.Bad c.in-Bad.at c.in-Bad.fault) tt; faulty = classic_says c.args.reader.now (Bad c.in-Bad.at c.in-Bad.fault) leaves.2 })
