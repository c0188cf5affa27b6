use Rattle.std.proofs.Common.{sym, ◌∙◌, ap}
use Rattle.ioam_edge.specs.Noted.{counted}
use Rattle.ioam_edge.proofs.NotedLaws.{counts-push}
use Rattle.ioam_edge.proofs.receiver.Receiver.note.Goals as goal

pub returns-clause-stands : goal.returns-clause-stands
returns-clause-stands c = λ noted stands. record {
  greatest = c.mark.ensures.greatest noted stands;
  window = c.mark.ensures.window noted stands;
  counts = c.count.ensures
      ∙ ap (λ k. counted k c.answer-note.result) (c.mark.ensures.counts ∙ stands.counts)
      ∙ ap (counted _) (c.answer-note.ensures noted stands)
      ∙ sym (counts-push noted c.args.seq);
}
