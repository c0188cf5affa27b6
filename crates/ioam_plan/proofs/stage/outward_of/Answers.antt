use borrow.Author.Tests.{ltb-false}
use Rattle.std.proofs.Common.{◌≡◌, ◌<◌, ◌≤◌, List, length, get_or, slice_get, option_map, Some, None, refl, sym, ap, ◌∙◌, arith}
use Rattle.std.proofs.lemmas.Option.{slice_get_read, slice_get_past}
use Rattle.ioam_topo.specs.declared.domain.Domain.{Domain}
use Rattle.ioam_topo.specs.declared.parts.Link.{Link}
use Rattle.ioam_topo.specs.declared.parts.Port.{Port}
use Rattle.ioam_topo.specs.declared.ids.LinkId.{LinkId}
use Rattle.ioam_topo.specs.declared.ids.PortId.{PortId}
use Rattle.ioam_topo.specs.declared.ids.Way.{Way}
use Rattle.ioam_topo.specs.declared.ids.Way.TheVariants as way
use Rattle.ioam_topo.specs.Domain.{links, ports}
use Rattle.ioam_node.specs.Outward.{outward_of}
use Rattle.ioam_plan.proofs.stage.outward_of.Goals as goal

link_out : (domain : Domain) (w : Way) (link : LinkId) (ls : List Link) (l : Link) → w ≡ way.Link link → ls ≡ links domain
    → link.0 < length ls → l ≡ get_or ls link.0 l → Some l.out_id ≡ outward_of domain w
link_out domain w link ls l is same within at =
    let found : slice_get (links domain) link.0 ≡ Some l = ap (λ (xs : List Link). slice_get xs link.0) (sym same) ∙ slice_get_read ls (length ls) link.0 l refl within at in
    rw is (sym (ap (option_map (λ (k : Link). k.out_id)) found))

no_link : (domain : Domain) (w : Way) (link : LinkId) (ls : List Link) → w ≡ way.Link link → ls ≡ links domain → length ls ≤ link.0 → None ≡ outward_of domain w
no_link domain w link ls is same past =
    let none : slice_get (links domain) link.0 ≡ None = ap (λ (xs : List Link). slice_get xs link.0) (sym same) ∙ slice_get_past ls link.0 past in
    rw is (sym (ap (option_map (λ (k : Link). k.out_id)) none))

port_out : (domain : Domain) (w : Way) (port : PortId) (ps : List Port) (p : Port) → w ≡ way.Port port → ps ≡ ports domain
    → port.0 < length ps → p ≡ get_or ps port.0 p → Some p.id ≡ outward_of domain w
port_out domain w port ps p is same within at =
    let found : slice_get (ports domain) port.0 ≡ Some p = ap (λ (xs : List Port). slice_get xs port.0) (sym same) ∙ slice_get_read ps (length ps) port.0 p refl within at in
    rw is (sym (ap (option_map (λ (k : Port). k.id)) found))

no_port : (domain : Domain) (w : Way) (port : PortId) (ps : List Port) → w ≡ way.Port port → ps ≡ ports domain → length ps ≤ port.0 → None ≡ outward_of domain w
no_port domain w port ps is same past =
    let none : slice_get (ports domain) port.0 ≡ None = ap (λ (xs : List Port). slice_get xs port.0) (sym same) ∙ slice_get_past ps port.0 past in
    rw is (sym (ap (option_map (λ (k : Port). k.id)) none))

pub returns-in-Some : goal.returns-in-Some
returns-in-Some c =
    link_out c.args.domain.now c.args.way c.in-Link.link c.links.result.now c.in-Some.link.now c.in-Link.is c.links.ensures.value
    c.in-Some.ensures.lookup.3.0 c.in-Some.ensures.lookup.1

pub returns-in-None : goal.returns-in-None
returns-in-None c =
    no_link c.args.domain.now c.args.way c.in-Link.link c.links.result.now c.in-Link.is c.links.ensures.value
    (omega (arith, ltb-false, c.in-None.ensures.lookup))

pub returns-in-Some-get : goal.returns-in-Some-get
returns-in-Some-get c =
    port_out c.args.domain.now c.args.way c.in-Port.port c.ports.result.now c.in-Some-get.port.now c.in-Port.is c.ports.ensures.value
    c.in-Some-get.ensures.lookup.3.0 c.in-Some-get.ensures.lookup.1

pub returns-in-None-get : goal.returns-in-None-get
returns-in-None-get c =
    no_port c.args.domain.now c.args.way c.in-Port.port c.ports.result.now c.in-Port.is c.ports.ensures.value
    (omega (arith, ltb-false, c.in-None-get.ensures.lookup))
