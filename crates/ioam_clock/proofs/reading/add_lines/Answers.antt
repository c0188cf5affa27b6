use Rattle.std.proofs.Common.{rules, tests, length, refl, arith, length-append, sym, ◌∙◌, ◌∷◌, [], ◌+◌}
use Rattle.std.proofs.lemmas.Iterator.Consumers.{YieldsList-turn, YieldsList-end}
use Rattle.std.proofs.lemmas.Iterator.Splits.{YieldsList-from_slice_split}
use Rattle.ioam_clock.specs.Lines.{ends_line, lines}
use Rattle.ioam_clock.specs.Reading.{node_names}
use Rattle.ioam_clock.proofs.ReadingLaws.{lines_more, lines_refused, lines_end}
use Rattle.ioam_clock.proofs.reading.add_lines.Goals as goal

pub loop-line-preserved : goal.loop-line-preserved
loop-line-preserved c =
    let t = YieldsList-turn (YieldsList-from_slice_split _ ends_line c.args.octets.now (cc) (cc) (refl) (λ x b q k. search (rules, tests))) c.loop-line.yielded _ c.loop-line.yielded_by _ _ c.in-Some.line c.in-Some.is c.next.ensures.steps in
    record {
      count = omega (arith, length-append c.loop-line.yielded (c.in-Some.line ∷ []), c.loop-line.invariant.count);
      len = cc;
      rest = lines_more (node_names c.args.domain.now) c.loop-line.number (length c.loop-line.yielded) c.loop-line.tracks.items c.add_line.new.tracks.items
          (lines c.args.octets.now) c.in-Some.line.now _ c.loop-line.invariant.count t.0 t.1 c.in-Ok.ensures.adds c.loop-line.invariant.rest;
    }

pub returns-in-Err : goal.returns-in-Err
returns-in-Err c =
    let t = YieldsList-turn (YieldsList-from_slice_split _ ends_line c.args.octets.now (cc) (cc) (refl) (λ x b q k. search (rules, tests))) c.loop-line.yielded _ c.loop-line.yielded_by _ _ c.in-Some.line c.in-Some.is c.next.ensures.steps in
    record {
      len = cc;
      adds = lines_refused (node_names c.args.domain.now) c.loop-line.number (length c.loop-line.yielded) c.loop-line.tracks.items c.add_line.new.tracks.items
          (lines c.args.octets.now) c.in-Some.line.now _ c.in-Err.refused c.refused_at.result c.loop-line.invariant.count t.0 t.1 c.in-Err.ensures.adds c.loop-line.invariant.rest
          c.refused_at.ensures;
    }

pub returns : goal.returns
returns c =
    let t = YieldsList-end (YieldsList-from_slice_split _ ends_line c.args.octets.now (cc) (cc) (refl) (λ x b q k. search (rules, tests))) c.loop-line.yielded _ c.loop-line.yielded_by _ _ c.in-None.is c.next.ensures.steps in
    record {
      len = cc;
      adds = sym c.loop-line.invariant.rest ∙ lines_end (node_names c.args.domain.now) c.loop-line.number (c.loop-line.number + 1) c.loop-line.tracks.items (lines c.args.octets.now)
          (omega (arith, t.1, c.loop-line.invariant.count));
    }
