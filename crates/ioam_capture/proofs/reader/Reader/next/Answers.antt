use Rattle.std.proofs.Common.{◌≡◌, ◌<◌, length, refl, sym, ap, ◌∙◌, subst}
use Rattle.ioam_capture.specs.Inside.{seen, IsFew}
use Rattle.ioam_capture.specs.Reading.{Reading, Front, Classic, Ng, HasBlocks, HoldsFew}
use Rattle.ioam_capture.specs.Reader.{HasFault, SaysFault, Waits, Leaves}
use Rattle.ioam_capture.proofs.StepLaws.{leaves_waiting}
use Rattle.ioam_capture.proofs.reader.Reader.next.Goals as goal

pub returns-in-Front : goal.returns-in-Front
returns-in-Front c =
    let old : c.args.self.now ≡ Front c.in-Front.held.items = sym c.self.view_is ∙ ap seen c.in-Front.is in
    let few : length c.in-Front.held.items < 4 = subst IsFew c.in-Front.is c.self.invariant in
    let Q : Reading → Type 0 = λ r. Waits r × HoldsFew r in
    let there = subst Q (sym old) (few, few) in (
      (refl, λ _. tt, leaves_waiting c.args.self.now _ c.self.view_is there.0 there.1),
      record {
        rests = tt;
        memory = λ none. cc;
        faulty = λ at f has. let F : Reading → Type 0 = λ r. HasFault r at f in absurd (subst F old has);
      },
    )

pub returns-in-Classic : goal.returns-in-Classic
returns-in-Classic c =
    let old = sym c.self.view_is ∙ ap seen c.in-Classic.is ∙ ap Classic (sym c.in-Classic.reader-is) in
    let step = c.next_classic in
    let Q : Reading → Type 0 = λ r. Leaves r (Classic step.follows.lender-at-none) step.result in
    let F : Reading → Type 0 = λ r. SaysFault r step.result in (
      (refl, λ _. tt, rw c.in-Classic.is (subst Q (sym old) step.follows.holds-at-none)),
      record { rests = tt; memory = λ none. absurd (step.ensures.memory none); faulty = subst F (sym old) step.ensures.faulty },
    )

pub returns-in-Ng : goal.returns-in-Ng
returns-in-Ng c =
    let old = sym c.self.view_is ∙ ap seen c.in-Ng.is ∙ ap Ng (sym c.in-Ng.reader-is) in
    let step = c.next_packet in
    let Q : Reading → Type 0 = λ r. Leaves r (Ng step.follows.lender-at-none) step.result in
    let F : Reading → Type 0 = λ r. SaysFault r step.result in (
      (refl, λ _. tt, rw c.in-Ng.is (subst Q (sym old) step.follows.holds-at-none)),
      record { rests = tt; memory = λ none. subst HasBlocks (sym old) tt; faulty = subst F (sym old) step.ensures.faulty },
    )
