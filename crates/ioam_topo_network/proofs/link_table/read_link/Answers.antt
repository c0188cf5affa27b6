use Rattle.std.proofs.Common.{rules, ◌≡◌, ◌++◌, ◌∷◌, [], Ok, codes, ap, sym, ◌∙◌}
use Rattle.std.proofs.lemmas.Result.{err_from_is_err_and}
use Rattle.std.specs.Str.{bytes_eq}
use Rattle.toml.specs.View.{table_view}
use Rattle.toml.specs.Data.{get_member}
use Rattle.ioam_topo_values.specs.Reads.{◌▷◌, maybe}
use Rattle.ioam_topo_values.specs.Texts.{file_name}
use Rattle.ioam_topo_entries.specs.declared.words.Table.TheVariants.{LinkTable}
use Rattle.ioam_topo_entries.specs.Faults.{at, other_key}
use Rattle.ioam_topo_entries.specs.Goods.{fresh}
use Rattle.ioam_topo_entries.specs.Keys.{own_keys, link_rows}
use Rattle.ioam_topo_network.specs.LinkTable.{link_name, link_tap, link_with, end_keys}
use Rattle.ioam_topo_entries.specs.Rows.{row_faults}
use Rattle.ioam_topo_entries.proofs.GoodsLaws.{fresh_new, fresh_from}
use Rattle.ioam_topo_entries.proofs.FaultLaws.{gives_first}
use Rattle.ioam_topo_network.proofs.LinkLaws.{new_link, tap_read, tap_counts, tap_room}
use Rattle.ioam_topo_network.proofs.link_table.read_link.Goals as goal

pub returns-in_err-ends : goal.returns-in_err-ends
returns-in_err-ends c =
    let a : at LinkTable c.args.place other_key (own_keys LinkTable (table_view c.args.entry.now)) ≡ [] = search rules in
    let b : at LinkTable c.args.place (codes "name") (link_name (table_view c.args.entry.now) ▷ fresh bytes_eq c.args.links.now.names) ≡ [] = search rules in
    let p = err_from_is_err_and c.from_residual-in_err-ends.result c.from_residual-in_err-ends.ensures.1 in
    rw (p.1, p.2) (gives_first c.in_err-ends.field-0.0 _ (row_faults LinkTable c.args.place link_rows (table_view c.args.entry.now) ++ at LinkTable c.args.place (codes "tap") (link_tap c.args.most_taps c.args.links.now.taps (table_view c.args.entry.now))) _ _ _
    (rw (a, b)) c.in_err-ends.ensures)

pub returns-in_err-numbers : goal.returns-in_err-numbers
returns-in_err-numbers c =
    let a : at LinkTable c.args.place other_key (own_keys LinkTable (table_view c.args.entry.now)) ≡ [] = search rules in
    let b : at LinkTable c.args.place (codes "name") (link_name (table_view c.args.entry.now) ▷ fresh bytes_eq c.args.links.now.names) ≡ [] = search rules in
    let e : end_keys c.args.nodes.now.names c.args.place (table_view c.args.entry.now) ≡ [] = c.in_ok-ends.ensures.0 in
    let p = err_from_is_err_and c.from_residual-in_err-numbers.result c.from_residual-in_err-numbers.ensures.1 in
    rw (p.1, p.2) (gives_first c.in_err-numbers.field-0.0 _ (at LinkTable c.args.place (codes "tap") (link_tap c.args.most_taps c.args.links.now.taps (table_view c.args.entry.now))) _ _ _
    (rw (a, b, e)) c.in_err-numbers.ensures)

pub returns-in-Ok : goal.returns-in-Ok
returns-in-Ok c =
    let a : at LinkTable c.args.place other_key (own_keys LinkTable (table_view c.args.entry.now)) ≡ [] = search rules in
    let b : at LinkTable c.args.place (codes "name") (link_name (table_view c.args.entry.now) ▷ fresh bytes_eq c.args.links.now.names) ≡ [] = search rules in
    let e : end_keys c.args.nodes.now.names c.args.place (table_view c.args.entry.now) ≡ [] = c.in_ok-ends.ensures.0 in
    let n : row_faults LinkTable c.args.place link_rows (table_view c.args.entry.now) ≡ [] = c.in_ok-numbers.ensures.0 in
    let t : link_tap c.args.most_taps c.args.links.now.taps (table_view c.args.entry.now) ≡ Ok c.in-Ok.link.tap = search rules in
    let none : at LinkTable c.args.place (codes "tap") (link_tap c.args.most_taps c.args.links.now.taps (table_view c.args.entry.now)) ≡ [] = rw t in
    let tap : maybe file_name (get_member (codes "tap") (table_view c.args.entry.now)) ≡ Ok c.in-Ok.link.tap = tap_read c.args.most_taps c.args.links.now.taps _ _ t in
    let made : c.in-Ok.link ≡ link_with c.in_ok-text.text.now (c.in_ok-ends.ends.from, c.in_ok-ends.ends.to)
    (c.in_ok-numbers.numbers.out_id ∷ c.in_ok-numbers.numbers.in_id ∷ c.in_ok-numbers.numbers.delay ∷ c.in_ok-numbers.numbers.mtu ∷ []) c.in-Ok.link.tap = search rules in
    let f : link_name (table_view c.args.entry.now) ▷ fresh bytes_eq c.args.links.now.names ≡ Ok c.in_ok-text.text.now = search rules in
    let named : link_name (table_view c.args.entry.now) ≡ Ok c.in_ok-text.text.now = fresh_from bytes_eq c.args.links.now.names _ c.in_ok-text.text.now f in (
      rw (a, b, e, n, none),
      record {
        name = search rules;
        is = new_link c.args.nodes.now.names (table_view c.args.entry.now) _ _ _ _ _ named c.in_ok-ends.ensures.1.0 c.in_ok-ends.ensures.1.1 c.in_ok-numbers.ensures.1 tap
            ∙ ap Ok (sym made);
        end_is = search rules;
        name_is = search rules;
        new_name = fresh_new bytes_eq c.args.links.now.names _ c.in_ok-text.text.now f;
        tap_is = tap_counts (get_member (codes "tap") (table_view c.args.entry.now)) _ tap;
        room = tap_room c.args.most_taps c.args.links.now.taps _ _ t;
      },
    )
