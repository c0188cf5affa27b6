-- The key and the item of a record that has a key.
use Rattle.std.specs.Prelude.{unwrap_or}
use Rattle.ioam_dex.specs.Record.{Record}
use Rattle.ioam_pool.specs.Entry.{Entry}
use Rattle.ioam_collect.specs.Keyed.{hops_of, item_of}
use Rattle.ioam_collect.specs.declared.key.Key.{Key}

-- its key; a number that isn't there is 0
abbrev pub key_of : Record → Key
key_of x = record { namespace = record { 0 = x.namespace }; flow = unwrap_or x.flow 0; seq = unwrap_or x.seq 0 }

-- its item
abbrev pub entry_of : Record → Entry
entry_of x = item_of (unwrap_or (hops_of x) 0) x

-- both
abbrev pub pair_of : Record → Key × Entry
pair_of x = (key_of x, entry_of x)
