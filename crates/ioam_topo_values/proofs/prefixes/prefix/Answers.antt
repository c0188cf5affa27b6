use Rattle.std.proofs.Common.{◌≡◌, rules}
use Rattle.toml.specs.Data.{get_member}
use Rattle.toml.specs.View.{table_view}
use Rattle.ioam_topo_values.specs.Reads.{needed}
use Rattle.ioam_topo_values.specs.Prefixes.{prefix}
use Rattle.ioam_topo_values.proofs.PrefixSpelledLaws.{key_read_prefix, read_is_prefix}
use Rattle.ioam_topo_values.proofs.prefixes.prefix.Goals as goal

pub returns-in-Some-clause-every : goal.returns-in-Some-clause-every
returns-in-Some-clause-every c s p at h =
    let is : c.prefix_in.result ≡ needed prefix (get_member c.args.key.now (table_view c.args.entry.now)) = search rules in
    key_read_prefix (get_member c.args.key.now (table_view c.args.entry.now)) c.prefix_in.result s p is at h

pub returns-in-Some-clause-sound : goal.returns-in-Some-clause-sound
returns-in-Some-clause-sound c =
    let is : c.prefix_in.result ≡ needed prefix (get_member c.args.key.now (table_view c.args.entry.now)) = search rules in
    read_is_prefix (get_member c.args.key.now (table_view c.args.entry.now)) c.prefix_in.result is
