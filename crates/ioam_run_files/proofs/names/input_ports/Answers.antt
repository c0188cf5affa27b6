use Rattle.std.proofs.Common.{◌≡◌, ◌<◌, length, List, sym, ◌∙◌, ap, subst}
use Rattle.std.specs.List.{All}
use Rattle.std.proofs.lemmas.List.{take_all}
use Rattle.ioam_topo.specs.Domain.{ports}
use Rattle.ioam_topo.specs.declared.ids.PortId.{PortId}
use Rattle.ioam_run_files.specs.Names.{input_ports, inputs_at}
use Rattle.ioam_run_files.proofs.NamesLaws.{ports_step, ports_inside, length-input_ports, inputs-input_ports}
use Rattle.ioam_run_files.proofs.names.input_ports.Goals as goal

pub ports-preserved : goal.ports-preserved
ports-preserved c = ports_step c.ports-port-items.result.now c.ports.place c.port-item.result c.ports.ids.items c.push_port.new.ids.items
    c.ports-test.true c.port-item.is c.ports.invariant c.in_ok-push_port.ensures

all_of : (c : goal.After-ports) → c.ports.ids.items ≡ input_ports (ports c.args.domain.now)
all_of c = c.ports.invariant ∙ ap input_ports (take_all c.ports.place c.ports-port-items.result.now c.ports-test.false)
    ∙ ap input_ports c.ports-port-items.ensures.value

pub returns-clause-inside : goal.returns-clause-inside
returns-clause-inside c =
    let P : List PortId → Type 0 = λ l. All (λ port. port.0 < length (ports c.args.domain.now)) l in
    subst P (sym (all_of c)) (ports_inside (ports c.args.domain.now))

pub returns-clause-named : goal.returns-clause-named
returns-clause-named c = ap (inputs_at (ports c.args.domain.now)) (all_of c) ∙ inputs-input_ports (ports c.args.domain.now)

pub returns-clause-sized : goal.returns-clause-sized
returns-clause-sized c = ap length (all_of c) ∙ length-input_ports (ports c.args.domain.now)
