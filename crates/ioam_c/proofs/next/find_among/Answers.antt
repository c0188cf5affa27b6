use Rattle.std.proofs.Common.{sym, ◌∙◌}
use Rattle.ioam_c.proofs.NextLaws.{among-passed, among-here, among-none}
use Rattle.ioam_c.proofs.next.find_among.Goals as goal

pub options-preserved : goal.options-preserved
options-preserved c = record {
  same = among-passed c.args.start c.args.from c.args.head.now c.options.at c.in-Some.spot c.in-Some.ensures
      (sym c.is_wanted.ensures ∙ c.if-is_wanted.false) c.options.invariant.same;
}

pub returns-then-is_wanted : goal.returns-then-is_wanted
returns-then-is_wanted c =
    among-here c.args.start c.args.from c.args.head.now c.options.at c.in-Some.spot c.describe.result c.in-Some.ensures
    (sym c.is_wanted.ensures ∙ c.if-is_wanted.true) c.options.invariant.same c.describe.ensures

pub returns : goal.returns
returns c = among-none c.args.start c.args.from c.args.head.now c.options.at c.in_default.ensures c.options.invariant.same
