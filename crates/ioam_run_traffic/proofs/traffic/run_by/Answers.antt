use Rattle.std.specs.Prelude.{⊤}
use Rattle.std.proofs.Common.{◌≡◌, refl, sym, ap, ◌∙◌, subst, inl, length}
use Rattle.ioam_desk.specs.Touches.{State, state}
use Rattle.ioam_desk.proofs.KeptLaws.{KeepsOutputs-same}
use Rattle.ioam_run_arrivals.specs.Outlets.{outlet_count}
use Rattle.ioam_stream.proofs.FrameLaws.{frame_none}
use Rattle.ioam_stream.specs.declared.reading.Stop.TheVariants as stop
use Rattle.ioam_run_traffic.specs.Stage.{halt_of}
use Rattle.ioam_run_traffic.specs.Traffic.{IsEnd}
use Rattle.ioam_run_traffic.specs.declared.terms.Terms.{Terms}
use Rattle.ioam_run_traffic.proofs.RanLaws.{Run, all_in, end_quiet, ends_kept, faults_in, faults_out, finishes_at, inputs_first, kept_out, opens_all, unread_all}
use Rattle.ioam_run_traffic.proofs.traffic.run_by.Goals as goal

pub returns-in_default : goal.returns-in_default
returns-in_default g c =
    let old : State = state (g.D.Desk.reading c.args.desk.now) (g.D.Desk.writing c.args.desk.now) in
    let frame = frame_none g.D.Desk.tells c.args.inputs.now c.args.outputs.now ⊤ old in
    record {
      finishes = inl refl;
      faults_in = λ is. refl;
      faults_out = λ other. refl;
      opens = λ other. refl;
      asked_in = frame.asked_in;
      asked_out = frame.asked_out;
      all_in = λ is. absurd is;
      all_out = λ is. absurd is;
      inputs_first = inl refl;
      unread = λ told less. unread_all g.D.Desk.tells c.args.inputs.now c.args.outputs.now old old ⊤ stop.NoMemory frame told less;
      kept = λ k below. refl;
      kept_out = λ told. KeepsOutputs-same old.outputs old.outputs refl;
    }

pub run-stop-requires : goal.run-stop-requires
run-stop-requires g c = record {
  apart = c.requires.apart;
  inputs = sym (ap (λ (t : Terms _ _). length t.ports.now) c.in-Ok.ensures.terms ∙ c.requires.sized);
  width = c.requires.width ∙ sym (ap (λ (t : Terms _ _). outlet_count t.domain.now) c.in-Ok.ensures.terms);
  fresh = c.in-Ok.ensures.fresh;
}

pub returns : goal.returns
returns g c =
    let tells = g.D.Desk.tells in
    let ins = c.args.inputs.now in
    let outs = c.args.outputs.now in
    let old : State = state (g.D.Desk.reading c.args.desk.now) (g.D.Desk.writing c.args.desk.now) in
    let new : State = state (g.D.Desk.reading c.run-stop.new.desk) (g.D.Desk.writing c.run-stop.new.desk) in
    let begun = c.in-Ok.stage in
    let last = c.run-stop.new.stage in
    let answer = c.run-stop.result in
    let frame = c.run-stop.ensures.frame in
    let run : Run g.G.Gate.opens tells ins outs old new begun last answer = record {
      sized = ap (λ (t : Terms _ _). length t.ports.now) c.in-Ok.ensures.terms ∙ c.requires.sized;
      frame = frame;
      leaves = c.run-stop.ensures.leaves;
      marks = c.run-stop.ensures.marks;
      said = c.run-stop.ensures.said;
    } in
    let halt : c.halted.result ≡ halt_of answer last.end = c.halted.ensures in
    let quiet : IsEnd c.halted.result → answer ≡ stop.Ended = λ is. end_quiet answer last.end (subst IsEnd halt is) in
    record {
      finishes = finishes_at g.G.Gate.opens tells ins outs old new begun last answer run _ c.halted.result c.in-Ok.ensures.terms halt;
      faults_in = λ is. faults_in tells ins outs old new _ answer frame (quiet is);
      faults_out = λ other. faults_out tells ins outs old new _ answer last.end frame (λ is. other (halt ∙ is));
      opens = λ other. opens_all tells ins outs old new _ answer last.end frame (λ is. other (halt ∙ is));
      asked_in = frame.asked_in;
      asked_out = frame.asked_out;
      all_in = λ is. all_in tells ins outs old new _ answer frame (quiet is);
      all_out = λ is. (frame.all (quiet is)).1;
      inputs_first = inputs_first tells ins outs old new _ answer frame;
      unread = λ told less. unread_all tells ins outs old new _ answer frame told less;
      kept = ends_kept tells ins outs old new _ answer frame;
      kept_out = λ told. kept_out tells ins outs old new _ answer frame told;
    }
