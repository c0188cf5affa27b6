use Rattle.std.proofs.Common.{refl, sym, arith, length, ap}
use Rattle.ioam_run_texts.proofs.AddsLaws.{taps-begin, taps-more, taps-end}
use Rattle.ioam_run_texts.proofs.crossing.put_taps.Goals as goal

pub taps-init : goal.taps-init
taps-init c = record { told = taps-begin c.args.domain.now _ c.args.outputs.now _ (omega arith) c.requires.width }

pub taps-preserved : goal.taps-preserved
taps-preserved c = record {
  told = taps-more c.args.domain.now _ c.taps.k _ _ _ c.args.taps.now c.args.outputs.now c.taps.outputs _ _ _ _ c.requires.taps (omega arith) refl c.place_of_tap-at.ensures (sym c.place_of_tap-at.ensures) (omega (arith, c.place_of_tap-at.ensures))
      c.taps.invariant.told refl c.in_ok-put_link.ensures;
}

pub returns : goal.returns
returns c = taps-end c.args.domain.now _ _ _ _ (omega (arith, ap length c.requires.taps)) c.taps.invariant.told
