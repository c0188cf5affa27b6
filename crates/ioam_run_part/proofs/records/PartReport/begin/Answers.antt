use Rattle.std.proofs.Common.{◌++◌, ◌∙◌, ap, sym, subst, All, List}
use Rattle.ioam_run_answer.specs.Record.{Record, IsRecord}
use Rattle.ioam_collect.specs.Collected as collected
use Rattle.ioam_collect_stream.specs.Gathering.{AreFew}
use Rattle.ioam_part.specs.Part.{head_octets}
use Rattle.ioam_run_part.specs.Records.{IsPartOfAll}
use Rattle.ioam_run_part.proofs.PartReportLaws.{few_held, rest_few}
use Rattle.ioam_run_part.proofs.records.PartReport.begin.Goals as goal

pub returns : goal.returns
returns c =
    let text : (records : List Record) → All IsRecord records → AreFew records → collected.Stands c.args.collector.now records
    → IsPartOfAll records (head_octets c.args.collector.now.held ++ c.new.result) = λ records each few stands.
    subst (IsPartOfAll records) (sym c.new.ensures.octets) (c.new.ensures.part records each stands (few_held c.args.collector.now records few stands)) in
    record {
      added = head_octets c.args.collector.now.held;
      says = c.in_ok-append.ensures ∙ ap (λ o. c.args.out.now.items ++ o) (c.octets.ensures ∙ c.head_of.ensures ∙ ap head_octets c.held.ensures);
      text = text;
      few = λ records each few stands. rest_few records c.args.collector.now.held c.new.result (text records each few stands);
    }
