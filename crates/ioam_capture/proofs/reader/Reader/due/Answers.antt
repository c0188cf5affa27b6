use Rattle.std.proofs.Common.{◌≡◌, sym, ap, ◌∙◌, subst}
use Rattle.std.specs.Prelude.{IfOk}
use Rattle.ioam_capture.specs.Inside.{seen}
use Rattle.ioam_capture.specs.Reading.{Reading, Front, Classic, Ng}
use Rattle.ioam_capture.specs.Reader.{HasFault, IsDue, Stands}
use Rattle.ioam_capture.proofs.reader.Reader.due.Goals as goal
use Rattle.ioam_capture.proofs.reader.Reader.due.Goals.{in-Front, in-Classic, in-Ng}

pub returns-clause-due : goal.returns-clause-due
returns-clause-due c = elim c.match-self.branch [
  | in-Front w ↦
      let old : c.args.self.now ≡ Front w.deref.result.now = sym c.self.view_is ∙ ap seen w.in-Front.is ∙ ap Front (sym w.deref.ensures.value) in
      let Q : Reading → Type 0 = λ r. IsDue r c.args.ended w.due_front.result in
      rw w.result-is (subst Q (sym old) w.due_front.ensures)
  | in-Classic w ↦
      let old : c.args.self.now ≡ Classic w.in-Classic.reader = sym c.self.view_is ∙ ap seen w.in-Classic.is in
      let Q : Reading → Type 0 = λ r. IsDue r c.args.ended w.due_classic.result in
      rw w.result-is (subst Q (sym old) w.due_classic.ensures.due)
  | in-Ng w ↦
      let old : c.args.self.now ≡ Ng w.in-Ng.reader = sym c.self.view_is ∙ ap seen w.in-Ng.is in
      let Q : Reading → Type 0 = λ r. IfOk w.due_packet.result (IsDue r c.args.ended) in
      rw w.result-is (subst Q (sym old) w.due_packet.ensures.due)
]

pub returns-clause-stands : goal.returns-clause-stands
returns-clause-stands c octets taken stands = elim c.match-self.branch [
  | in-Front w ↦
      let old : c.args.self.now ≡ Front w.in-Front.held.items = sym c.self.view_is ∙ ap seen w.in-Front.is in
      let Q : Reading → Type 0 = λ r. Stands r octets taken in
      rw w.self-inside-is (subst Q old stands)
  | in-Classic w ↦
      let old : c.args.self.now ≡ Classic w.in-Classic.reader = sym c.self.view_is ∙ ap seen w.in-Classic.is in
      let Q : Reading → Type 0 = λ r. Stands r octets taken in
      rw w.self-inside-is (w.due_classic.ensures.stands octets taken (subst Q old stands))
  | in-Ng w ↦
      let old : c.args.self.now ≡ Ng w.in-Ng.reader = sym c.self.view_is ∙ ap seen w.in-Ng.is in
      let Q : Reading → Type 0 = λ r. Stands r octets taken in
      rw w.self-inside-is (w.due_packet.ensures.stands octets taken (subst Q old stands))
]

pub returns-clause-faulty : goal.returns-clause-faulty
returns-clause-faulty c at fault has = elim c.match-self.branch [
  | in-Front w ↦
      let old : c.args.self.now ≡ Front w.in-Front.held.items = sym c.self.view_is ∙ ap seen w.in-Front.is in
      let Q : Reading → Type 0 = λ r. HasFault r at fault in
      absurd (subst Q old has)
  | in-Classic w ↦
      let old : c.args.self.now ≡ Classic w.in-Classic.reader = sym c.self.view_is ∙ ap seen w.in-Classic.is in
      let Q : Reading → Type 0 = λ r. HasFault r at fault in
      rw w.self-inside-is (w.due_classic.ensures.faulty at fault (subst Q old has))
  | in-Ng w ↦
      let old : c.args.self.now ≡ Ng w.in-Ng.reader = sym c.self.view_is ∙ ap seen w.in-Ng.is in
      let Q : Reading → Type 0 = λ r. HasFault r at fault in
      rw w.self-inside-is (w.due_packet.ensures.faulty at fault (subst Q old has))
]
