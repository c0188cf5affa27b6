use Rattle.std.proofs.Common.{◌∙◌, ap, string_bytes}
use Rattle.std.specs.List.{list_any}
use Rattle.std.specs.Str.{bytes_eq}
use Rattle.ioam_topo.proofs.KeyLaws.{any_map}
use Rattle.ioam_topo_tables.proofs.names.Names.contains.Goals as goal

pub returns : goal.returns
returns c = c.contains.ensures ∙ any_map (bytes_eq c.args.name.now) string_bytes c.self.inside.held.keys ∙ ap (list_any (bytes_eq c.args.name.now)) c.self.view_is
