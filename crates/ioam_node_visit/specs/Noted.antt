-- What a node notes of a packet, by the octets of the options of its Hop-by-Hop Options header.
use Rattle.std.specs.Prelude.{◌≡◌, ◌<◌, ◌≤◌, ◌⊎◌, ℕ, true, false, MatchBool, List, [], ◌∷◌, ◌++◌, length, slice_index}
use Rattle.ioam_base.specs.Octets.{u16_at}
use Rattle.ioam_clock.specs.declared.sample.Sample.{Sample}
use Rattle.ioam_ip.specs.Hop.{hop_options}
use Rattle.ioam_ip.specs.Options.{Item}
use Rattle.ioam_node.specs.declared.place.Place.{Place}
use Rattle.ioam_topo.specs.declared.domain.Domain.{Domain}
use Rattle.ioam_trace.specs.Filling.{Filling}
use Rattle.ioam_trace.specs.declared.addition.Filled.{Filled}
use Rattle.ioam_node_visit.specs.Exported.{data_of, size_of}
use Rattle.ioam_node_visit.specs.Notes.{short_note, what_done}
use Rattle.ioam_node_visit.specs.Seeing.{view_of}
use Rattle.ioam_node_visit.specs.Step.{knows}
use Rattle.ioam_node_visit.specs.declared.note.NodeNote.{NodeNote}
use Rattle.ioam_node_visit.specs.declared.note.What.{What}
use Rattle.ioam_node_visit.specs.declared.note.What.TheVariants as what

-- an option of the types of IOAM, 0x11 and 0x31
abbrev pub IsIoam : Item → Type 0
IsIoam item = (item.kind ≡ 0x11) ⊎ (item.kind ≡ 0x31)

-- an IOAM option without the reserved octet and the IOAM-Option-Type
pub record IsCut (item : Item) : Type 0 where
  pub type : IsIoam item
  pub cut : length item.body < 2

-- a pre-allocated trace that may change on the way: of type 0x31, with the IOAM-Option-Type 0
pub record IsTrace (item : Item) : Type 0 where
  pub type : item.kind ≡ 0x31
  pub begins : 2 ≤ length item.body
  pub trace : slice_index item.body 1 ≡ 0

-- a direct export: an IOAM option with the IOAM-Option-Type 4
pub record IsDirect (item : Item) : Type 0 where
  pub type : IsIoam item
  pub begins : 2 ≤ length item.body
  pub direct : slice_index item.body 1 ≡ 4

-- an option of which a node makes a note
abbrev pub GivesNote : Item → Type 0
GivesNote item = IsCut item ⊎ (IsTrace item ⊎ IsDirect item)

-- it is too short: it has no IOAM-Option-Type, or not the 8 octets of a trace's header, or not all direct export data
abbrev pub IsShort : Item → Type 0
IsShort item = IsCut item
    ⊎ ((IsTrace item × (length item.body < 10)) ⊎ (IsDirect item × (length (data_of item) < size_of (data_of item))))

module _ (domain : Domain) (readings : List (List Sample)) (place : Place) (time hops : ℕ) where
  -- what was done with the octets of a trace: nothing, where the node doesn't know the namespace; else what filling them answers
  abbrev pub IsDone : ℕ → List ℕ → What → Type 0
  IsDone space octets done = MatchBool (knows domain place.node.0 space)
      ((answer : Filled) × (new : List ℕ) × Filling octets (view_of domain readings place time hops space) new answer × (done ≡ what_done answer))
      (done ≡ what.Unknown)

  -- the note of a trace whose header is whole
  pub record NotesTrace (item : Item) (x : NodeNote) : Type 0 where
    pub trace : IsTrace item
    pub header : 10 ≤ length item.body
    pub namespace : x.namespace.0 ≡ u16_at item.body 2
    pub not_direct : x.direct ≡ false
    pub done : IsDone (u16_at item.body 2) (data_of item) x.what

  -- the note of a direct export whose data are whole
  pub record NotesDirect (item : Item) (x : NodeNote) : Type 0 where
    pub export : IsDirect item
    pub whole : size_of (data_of item) ≤ length (data_of item)
    pub namespace : x.namespace.0 ≡ u16_at (data_of item) 0
    pub is_direct : x.direct ≡ true
    pub done : MatchBool (knows domain place.node.0 (u16_at (data_of item) 0)) (x.what ≡ what.Exported) (x.what ≡ what.Unknown)

  -- the note of an option
  abbrev pub IsNote : Item → NodeNote → Type 0
  IsNote item x = (IsShort item × (x ≡ short_note)) ⊎ (NotesTrace item x ⊎ NotesDirect item x)

  -- the notes of these options: one of each that gives one, in the order of the options, and no other
  abbrev pub AreNotes : List Item → List NodeNote → Type 0
  AreNotes [] xs = xs ≡ []
  AreNotes (item ∷ items) xs = ((GivesNote item → ⊥) × AreNotes items xs)
      ⊎ ((x : NodeNote) × (rest : List NodeNote) × (xs ≡ x ∷ rest) × IsNote item x × AreNotes items rest)

  -- What was noted of a packet besides what was there: the notes of the options of its Hop-by-Hop header. No other
  -- notes are those of these options.
  pub record HasNoted (packet : List ℕ) (old new : List NodeNote) : Type 0 where
    pub notes : List NodeNote
    pub are : AreNotes (hop_options packet) notes
    pub only : (others : List NodeNote) → AreNotes (hop_options packet) others → others ≡ notes
    pub is : new ≡ old ++ notes
