use Rattle.std.proofs.Common.{◌≡◌, rules}
use Rattle.toml.specs.Data.{get_member}
use Rattle.toml.specs.View.{table_view}
use Rattle.ioam_topo_values.specs.Reads.{needed}
use Rattle.ioam_topo_values.specs.Addresses.{address}
use Rattle.ioam_topo_values.proofs.AddressLaws.{key_read}
use Rattle.ioam_topo_values.proofs.addresses.address.Goals as goal

pub returns-in-Ok-clause-every : goal.returns-in-Ok-clause-every
returns-in-Ok-clause-every c s n at h =
    let is : c.ok_or.result ≡ needed address (get_member c.args.key.now (table_view c.args.entry.now)) = search rules in
    key_read (get_member c.args.key.now (table_view c.args.entry.now)) c.ok_or.result s n is at h
