use Rattle.std.proofs.Common.{◌++◌, codes, decimal, rules}
use Rattle.ioam_report_lines.specs.TraceText.{line_feed}
use Rattle.ioam_report_options.proofs.AppendsLaws.{Appends-behind}
use Rattle.ioam_report_options.proofs.TextLaws.{counted_by}
use Rattle.ioam_report_options.proofs.UniqueLaws.{CountedText-unique}
use Rattle.ioam_report_options.specs.OptionsText.{ioam_of, OptionLines, CountedText}
use Rattle.ioam_report_options.proofs.listing.put_counted_options.Goals as goal

pub returns-clause-lines : goal.returns-clause-lines
returns-clause-lines c =
    let p = c.args.packet.now in
    Appends-behind c.settle.result c.put_all-answer.result (OptionLines (ioam_of p)) (CountedText p) c.args.out.now.items
    (codes " options " ++ (decimal c.count_options.result ++ line_feed)) _ _ _ _
    (search rules) c.in_ok-put_count.ensures c.put_all-answer.ensures c.settle.ensures.answer c.settle.ensures.kept
    (λ lines are_lines. record {
      options = ioam_of p;
      lines = lines;
      are = c.count_options.ensures.are;
      are_lines = are_lines;
      text_is = counted_by c.count_options.result (ioam_of p) lines c.count_options.ensures.count;
    })

pub returns-clause-only : goal.returns-clause-only
returns-clause-only c = λ one other. CountedText-unique c.args.packet.now one other

pub returns-in_err-put_count-clause-only : goal.returns-in_err-put_count-clause-only
returns-in_err-put_count-clause-only c = λ one other. CountedText-unique c.args.packet.now one other
