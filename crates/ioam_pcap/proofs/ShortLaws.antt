-- No record of a capture has more octets than a record may have.
use Rattle.std.proofs.Common.{ℕ, ◌+◌, List, [], ◌∷◌, ◌++◌, drop, Option, Some, None, sym, subst, arith, length-take}
use Rattle.std.specs.Prelude.{All}
use Rattle.std.proofs.lemmas.List.Elements.{All-nil, All-cons, All-head, All-tail}
use Rattle.ioam_pcap.specs.declared.form.Form.{Form}
use Rattle.ioam_ip.specs.declared.layer.Layer.{Layer}
use Rattle.ioam_pcap.specs.Entries.{Entry, IsShort, captured, IsWhole, entry_at, behind, Entries}
use Rattle.ioam_pcap.specs.Ending.{Ending}
use Rattle.ioam_pcap.specs.Reads.{Reached, Reads}

whole-short : (form : Form) (octets : List ℕ) (at : ℕ) → IsWhole form octets at → IsShort (entry_at form octets at)
whole-short form octets at whole = omega (arith, whole.0, length-take (captured form octets at) (drop (at + 16) octets))

entries-short : (form : Form) (octets : List ℕ) (at : ℕ) (entries : List Entry) (rest : ℕ) → Entries form octets at entries rest → All IsShort entries
entries-short form octets at [] rest leads = All-nil IsShort
entries-short form octets at (e ∷ es) rest leads =
    All-cons IsShort e es (subst IsShort (sym leads.1) (whole-short form octets at leads.0)) (entries-short form octets (behind form octets at) es rest leads.2)

-- of the records that were reached
pub Reached-short : (octets : List ℕ) (form : Option Form) (entries : List Entry) (at : ℕ) → Reached octets form entries at → All IsShort entries
Reached-short octets None entries at reached = subst (All IsShort) (sym reached.0) (All-nil IsShort)
Reached-short octets (Some form) entries at reached = entries-short form octets 24 entries at reached.1

-- of all that are read
pub Reads-short : (octets : List ℕ) (link : Option Layer) (entries : List Entry) (ending : Ending) → Reads octets link entries ending → All IsShort entries
Reads-short octets link entries ending reads = Reached-short octets reads.form entries reads.at reads.reached

-- of the first of them
pub front-short : (front rest : List Entry) → All IsShort (front ++ rest) → All IsShort front
front-short [] rest short = All-nil IsShort
front-short (e ∷ front) rest short = All-cons IsShort e front (All-head IsShort e (front ++ rest) short)
    (front-short front rest (All-tail IsShort e (front ++ rest) short))
