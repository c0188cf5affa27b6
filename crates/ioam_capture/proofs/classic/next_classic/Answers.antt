use Rattle.std.proofs.Common.{refl}
use Rattle.ioam_pcap.specs.declared.capture.CapStep.TheVariants.{Head, More, Bad}
use Rattle.ioam_capture.specs.Reading.{Classic}
use Rattle.ioam_capture.proofs.FaultLaws.{classic_says}
use Rattle.ioam_capture.proofs.StepLaws.{classic_head, classic_more, classic_bad, leaves_after, wants_none}
use Rattle.ioam_capture.specs.declared.reader.Step.TheVariants as step
use Rattle.ioam_capture.proofs.classic.next_classic.Goals as goal

pub returns-in-Head : goal.returns-in-Head
returns-in-Head c =
    let told = rw c.in-Head.is at c.next.follows.holds-at-none in
    let old = c.args.reader.now in
    let mid = c.next.follows.lender-at-none in
    let passed = classic_head old mid c.in-Head.link told.0 told.1 in
    let then = c.next_record-in-Head in (
      (refl, λ _. tt, leaves_after (Classic old) (Classic mid) passed.0 passed.1 told.3 passed.2 (Classic then.follows.lender-at-none) then.result then.follows.holds-at-none),
      record { rests = tt; memory = then.ensures.memory; faulty = λ at f has. absurd (classic_says old (Head c.in-Head.link) told.2 at f has) },
    )

pub returns-in-More : goal.returns-in-More
returns-in-More c =
    let told = rw c.in-More.is at c.next.follows.holds-at-none in
    ((refl, λ _. tt, classic_more c.args.reader.now c.next.follows.lender-at-none told.0), record { rests = tt; memory = wants_none step.More tt; faulty = classic_says c.args.reader.now More told.2 })

pub returns-in-Bad : goal.returns-in-Bad
returns-in-Bad c =
    let told = rw c.in-Bad.is at c.next.follows.holds-at-none in
    ((refl, λ _. tt, classic_bad c.args.reader.now c.next.follows.lender-at-none c.in-Bad.at c.in-Bad.fault told.0 told.1), record { rests = tt; memory = wants_none (step.Bad c.in-Bad.at c.in-Bad.fault) tt; faulty = classic_says c.args.reader.now (Bad c.in-Bad.at c.in-Bad.fault) told.2 })
