use Rattle.std.proofs.Common.{◌∙◌, ap, string_bytes}
use Rattle.std.specs.List.{position}
use Rattle.std.specs.Str.{bytes_eq}
use Rattle.ioam_topo.proofs.KeyLaws.{position_map}
use Rattle.ioam_topo_tables.proofs.names.Names.place_of.Goals as goal

pub returns-clause-value : goal.returns-clause-value
returns-clause-value c = c.get_index_of.ensures.index ∙ position_map (bytes_eq c.args.name.now) string_bytes c.self.inside.held.keys ∙ ap (position (bytes_eq c.args.name.now)) c.self.view_is
