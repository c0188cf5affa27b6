-- What the options of a header give, one behind the other in their order.
use Rattle.std.specs.Prelude.{ℕ, List, [], ◌++◌, ◌∷◌}
use Rattle.ioam_dex.specs.Record.{Record}
use Rattle.ioam_dex.specs.Reads.{records_octets}
use Rattle.ioam_ip.specs.Hop.{hop_options}
use Rattle.ioam_ip.specs.Options.{Item}
use Rattle.ioam_node_visit.specs.declared.note.NodeNote.{NodeNote}

-- the notes of these options
module _ (notes : ℕ → List ℕ → List NodeNote) where
  -- the notes of these options, in their order
  abbrev pub notes_in : List Item → List NodeNote
  notes_in [] = []
  notes_in (item ∷ items) = notes item.kind item.body ++ notes_in items

  -- those of a packet: of the options of the Hop-by-Hop header behind its outer header
  abbrev pub hop_notes : List ℕ → List NodeNote
  hop_notes packet = notes_in (hop_options packet)

-- the records of these options
module _ (records : ℕ → List ℕ → List Record) where
  -- the export records of these options, in their order
  abbrev pub records_in : List Item → List Record
  records_in [] = []
  records_in (item ∷ items) = records item.kind item.body ++ records_in items

  -- those of a packet, and their octets
  abbrev pub hop_records : List ℕ → List Record
  hop_records packet = records_in (hop_options packet)

  -- the octets of the export records of a packet's Hop-by-Hop options
  abbrev pub hop_exports : List ℕ → List ℕ
  hop_exports packet = records_octets (hop_records packet)
