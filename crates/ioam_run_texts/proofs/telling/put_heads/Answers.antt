use Rattle.std.proofs.Common.{refl, [], arith}
use Rattle.ioam_pcap.specs.Text.{capture_text}
use Rattle.ioam_run_texts.proofs.AddsLaws.{captures-begin, captures-more, captures-end}
use Rattle.ioam_run_texts.proofs.telling.put_heads.Goals as goal

pub captures-init : goal.captures-init
captures-init c = record { told = captures-begin c.args.domain.now (capture_text []) c.args.outputs.now c.requires }

pub captures-preserved : goal.captures-preserved
captures-preserved c = record {
  told = captures-more c.args.domain.now (capture_text []) c.captures-2.at _ _ _ _ (omega arith) c.captures-2.invariant.told refl c.in_ok-put_head.ensures.octets;
}

pub returns : goal.returns
returns c = captures-end c.args.domain.now (capture_text []) c.captures-2.at _ _ (omega arith) c.captures-2.invariant.told
