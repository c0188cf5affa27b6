use Rattle.std.proofs.Common.{◌≡◌, Ok, [], codes, map, sym, ◌∙◌, rules}
use Rattle.std.proofs.lemmas.Result.{err_from_is_err_and}
use Rattle.toml.specs.Data.{get_member}
use Rattle.toml.specs.View.{table_view}
use Rattle.ioam_topo_values.specs.Reads.{◌▷◌, needed}
use Rattle.ioam_topo_values.specs.Numbers.{number}
use Rattle.ioam_topo_entries.specs.declared.words.Table.TheVariants.{ExtraTable}
use Rattle.ioam_topo_entries.specs.Faults.{at, other_key}
use Rattle.ioam_topo_entries.specs.Goods.{list_of}
use Rattle.ioam_topo_entries.specs.Keys.{own_keys}
use Rattle.ioam_topo_entries.proofs.FaultLaws.{gives_same}
use Rattle.ioam_topo_flows.specs.Apart.{fresh_with}
use Rattle.ioam_topo_flows.specs.Spaces.{known_at}
use Rattle.ioam_topo_flows.specs.FlowRead.{look_of}
use Rattle.ioam_topo_flows.specs.ExtraTable.{few_of, unlike, look_in}
use Rattle.ioam_topo_flows.specs.ExtraRead.{flow_behind}
use Rattle.ioam_topo_flows.proofs.ExtraLaws.{extra_read, extra_rest}
use Rattle.ioam_topo_flows.proofs.extra_table.read_extra.Goals as goal

pub returns-in_err-kind : goal.returns-in_err-kind
returns-in_err-kind c =
    let own : at ExtraTable c.args.place other_key (own_keys ExtraTable (table_view c.args.entry.now)) ≡ [] = search rules in
    let named : flow_behind c.args.nodes.now c.args.flows.now (table_view c.args.entry.now) ▷ few_of c.args.extras.now.places.items ≡ Ok c.in_ok-flow.flow = search rules in
    let spaced : needed (number 0 65535) (get_member (codes "namespace") (table_view c.args.entry.now))
    ▷ known_at (map list_of c.args.nodes.now.items.items) (look_in (map look_of c.args.flows.now.items.items) (Ok c.in_ok-flow.flow)).entry
    ▷ known_at (map list_of c.args.nodes.now.items.items) (look_in (map look_of c.args.flows.now.items.items) (Ok c.in_ok-flow.flow)).exit
    ▷ unlike (look_in (map look_of c.args.flows.now.items.items) (Ok c.in_ok-flow.flow)).space ▷ fresh_with (Ok c.in_ok-flow.flow) c.args.extras.now.taken.keys
    ≡ Ok c.in_ok-space.space = search rules in
    let p = err_from_is_err_and c.from_residual-in_err-kind.result c.from_residual-in_err-kind.ensures.1 in
    rw (p.1, p.2) (gives_same c.in_err-kind.field-0.0 _ _ _ _
    (extra_rest c.args.nodes.now c.args.flows.now c.args.extras.now (table_view c.args.entry.now) c.args.place _ _ own named spaced) c.in_err-kind.ensures)

pub returns : goal.returns
returns c =
    let own : at ExtraTable c.args.place other_key (own_keys ExtraTable (table_view c.args.entry.now)) ≡ [] = search rules in
    let named : flow_behind c.args.nodes.now c.args.flows.now (table_view c.args.entry.now) ▷ few_of c.args.extras.now.places.items ≡ Ok c.in_ok-flow.flow = search rules in
    let spaced : needed (number 0 65535) (get_member (codes "namespace") (table_view c.args.entry.now))
    ▷ known_at (map list_of c.args.nodes.now.items.items) (look_in (map look_of c.args.flows.now.items.items) (Ok c.in_ok-flow.flow)).entry
    ▷ known_at (map list_of c.args.nodes.now.items.items) (look_in (map look_of c.args.flows.now.items.items) (Ok c.in_ok-flow.flow)).exit
    ▷ unlike (look_in (map look_of c.args.flows.now.items.items) (Ok c.in_ok-flow.flow)).space ▷ fresh_with (Ok c.in_ok-flow.flow) c.args.extras.now.taken.keys
    ≡ Ok c.in_ok-space.space = search rules in (
      sym (extra_rest c.args.nodes.now c.args.flows.now c.args.extras.now (table_view c.args.entry.now) c.args.place _ _ own named spaced) ∙ c.in_ok-kind.ensures.0,
      extra_read c.args.nodes.now c.args.flows.now c.args.extras.now (table_view c.args.entry.now) _ _ _ _ named spaced c.in_ok-kind.ensures.1.0 c.in_ok-kind.ensures.1.1,
    )
