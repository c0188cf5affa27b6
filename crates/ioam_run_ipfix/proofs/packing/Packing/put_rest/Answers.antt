use Rattle.std.proofs.Common.{ap, sym, ◌∙◌, arith}
use Rattle.ioam_base.proofs.ResultLaws.{OnOk-map}
use Rattle.ioam_run_ipfix.specs.Packing.{Packed}
use Rattle.ioam_run_ipfix.proofs.PackingLaws.{ends-none, ends-some}
use Rattle.ioam_run_ipfix.proofs.packing.Packing.put_rest.Goals as goal

pub returns-then-self-eq0 : goal.returns-then-self-eq0
returns-then-self-eq0 c = ends-none c.args.self.now c.args.out.now.items (sym (ap (λ (p : Packed). p.held) c.self.view_is) ∙ c.if-self-eq0.true)

pub returns : goal.returns
returns c =
    let held = ap (λ (p : Packed). p.held) c.self.view_is in
    OnOk-map c.put_run.result _ _ c.put_run.ensures (ends-some c.args.self.now c.put_run.new.self c.args.out.now.items c.put_run.new.out.items
    (omega (arith, held, c.if-self-eq0.false)))
