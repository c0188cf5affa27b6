use Rattle.std.proofs.Common.{rules}
use Rattle.ioam_base.specs.Words.{two_octets, four_octets_if, eight_octets_if}
use Rattle.ioam_edge.proofs.EdgeLaws.{whole_of}
use Rattle.ioam_edge.proofs.reading.value.Goals as goal

pub returns : goal.returns
returns c = record {
  fields = record {
    seq64 = search rules;
    seq32 = search rules;
    seconds = search rules;
    fraction = search rules;
  };
  rest = c.four_if-fraction.new.self.rest.now;
  is = whole_of _ (two_octets c.two.result) (two_octets c.two-kind.result) (eight_octets_if c.eight_if-seq64.result) (four_octets_if c.four_if-seq32.result) (four_octets_if c.four_if-seconds.result) (four_octets_if c.four_if-fraction.result) _ _ _ _ _ _
      c.two.ensures.value c.two-kind.ensures.value c.eight_if-seq64.ensures.value c.four_if-seq32.ensures.value c.four_if-seconds.ensures.value c.four_if-fraction.ensures.value;
}
