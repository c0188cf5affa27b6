use Rattle.std.proofs.Common.{refl, subst}
use Rattle.ioam_ng.specs.declared.reader.NgStep.{NgStep}
use Rattle.ioam_ng.specs.declared.reader.NgStep.TheVariants.{Packet, More, Bad, NoMemory}
use Rattle.ioam_capture.proofs.FaultLaws.{ng_says}
use Rattle.ioam_capture.proofs.StepLaws.{NgLeaves, ng_gives}
use Rattle.ioam_capture.proofs.blocks.next_packet.Goals as goal

pub returns-in-Packet : goal.returns-in-Packet
returns-in-Packet c =
    let new = c.next.follows.lender-at-none in
    let step = Packet c.in-Packet.link c.in-Packet.packet in
    let Q : NgStep → Type 0 = λ s. NgLeaves c.args.reader.now new s in
    let leaves = subst Q c.in-Packet.is c.next.follows.holds-at-none in
    ((refl, λ _. tt, ng_gives c.args.reader.now new step leaves), record { rests = tt; faulty = ng_says c.args.reader.now new step leaves.4 })

pub returns-in-More : goal.returns-in-More
returns-in-More c =
    let new = c.next.follows.lender-at-none in
    let Q : NgStep → Type 0 = λ s. NgLeaves c.args.reader.now new s in
    let leaves = subst Q c.in-More.is c.next.follows.holds-at-none in
    ((refl, λ _. tt, ng_gives c.args.reader.now new More leaves), record { rests = tt; faulty = ng_says c.args.reader.now new More leaves.4 })

pub returns-in-Bad : goal.returns-in-Bad
returns-in-Bad c =
    let new = c.next.follows.lender-at-none in
    let Q : NgStep → Type 0 = λ s. NgLeaves c.args.reader.now new s in
    let leaves = subst Q c.in-Bad.is c.next.follows.holds-at-none in
    ((refl, λ _. tt, ng_gives c.args.reader.now new (Bad c.in-Bad.at c.in-Bad.fault) leaves), record { rests = tt; faulty = ng_says c.args.reader.now new (Bad c.in-Bad.at c.in-Bad.fault) leaves.4 })

pub returns-in-NoMemory : goal.returns-in-NoMemory
returns-in-NoMemory c =
    let new = c.next.follows.lender-at-none in
    let Q : NgStep → Type 0 = λ s. NgLeaves c.args.reader.now new s in
    let leaves = subst Q c.in-NoMemory.is c.next.follows.holds-at-none in
    ((refl, λ _. tt, ng_gives c.args.reader.now new NoMemory leaves), record { rests = tt; faulty = ng_says c.args.reader.now new NoMemory leaves.4 })
