use Rattle.std.proofs.Common.{sym, ap, subst}
use Rattle.ioam_pcap.specs.declared.capture.CapStep.TheVariants.{Head}
use Rattle.ioam_pcap.specs.Reading.{Reading}
use Rattle.ioam_capture.specs.Reading.{Classic}
use Rattle.ioam_capture.specs.Reader.{Stands}
use Rattle.ioam_capture.proofs.DueLaws.{classic-bad}
use Rattle.ioam_capture.proofs.FaultLaws.{classic_says, keeps_fault}
use Rattle.ioam_capture.proofs.StepLaws.{classic_head}
use Rattle.ioam_capture.proofs.classic.due_classic.Goals as goal

pub returns-in-Head-clause-due : goal.returns-in-Head-clause-due
returns-in-Head-clause-due c octets taken stream stands shows =
    let told = rw c.in-Head.is at c.next.follows.holds-at-none in
    let passed = classic_head c.args.reader.now c.next.follows.lender-at-none c.in-Head.link told.0 told.1 in
    c.due_record-in-Head.ensures.due octets taken stream (passed.2 octets taken stands) shows

pub returns-in-More-clause-due : goal.returns-in-More-clause-due
returns-in-More-clause-due c octets taken stream stands shows =
    let told = rw c.in-More.is at c.next.follows.holds-at-none in
    let Q : Reading → Type 0 = λ r. Stands (Classic r) octets taken in
    c.waiting.ensures.due octets taken stream (subst Q (sym told.0.0) stands) shows

pub returns-in-Bad-clause-due : goal.returns-in-Bad-clause-due
returns-in-Bad-clause-due c octets taken stream stands shows =
    let told = rw c.in-Bad.is at c.next.follows.holds-at-none in
    classic-bad c.args.reader.now c.args.ended c.in-Bad.at c.in-Bad.fault told.0.1 (λ o e s. (told.1 o e s).0) octets taken stream stands shows

pub returns-in-Head-clause-faulty : goal.returns-in-Head-clause-faulty
returns-in-Head-clause-faulty c at f has =
    let told = rw c.in-Head.is at c.next.follows.holds-at-none in
    absurd (classic_says c.args.reader.now (Head c.in-Head.link) told.2 at f has)

pub returns-in-More-clause-faulty : goal.returns-in-More-clause-faulty
returns-in-More-clause-faulty c =
    let told = rw c.in-More.is at c.next.follows.holds-at-none in
    keeps_fault (Classic c.args.reader.now) _ (ap Classic told.0.0)

pub returns-in-Bad-clause-faulty : goal.returns-in-Bad-clause-faulty
returns-in-Bad-clause-faulty c =
    let told = rw c.in-Bad.is at c.next.follows.holds-at-none in
    keeps_fault (Classic c.args.reader.now) _ (ap Classic told.0.0)

pub returns-in-Head-clause-few : goal.returns-in-Head-clause-few
returns-in-Head-clause-few c = c.due_record-in-Head.ensures.few

pub returns-in-Head-clause-stands : goal.returns-in-Head-clause-stands
returns-in-Head-clause-stands c =
    let told = rw c.in-Head.is at c.next.follows.holds-at-none in
    (classic_head c.args.reader.now c.next.follows.lender-at-none c.in-Head.link told.0 told.1).2

pub returns-in-Head-clause-kept : goal.returns-in-Head-clause-kept
returns-in-Head-clause-kept c =
    let told = rw c.in-Head.is at c.next.follows.holds-at-none in
    (classic_head c.args.reader.now c.next.follows.lender-at-none c.in-Head.link told.0 told.1).1

pub returns-in-More-clause-few : goal.returns-in-More-clause-few
returns-in-More-clause-few c = c.waiting.ensures.few

pub returns-in-More-clause-held : goal.returns-in-More-clause-held
returns-in-More-clause-held c =
    let told = rw c.in-More.is at c.next.follows.holds-at-none in
    told.3
