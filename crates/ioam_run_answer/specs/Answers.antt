-- The exit status and the line of an answer.
use Rattle.std.specs.Prelude.{ℕ, List, ◌++◌, codes, decimal}
use Rattle.ioam_clock.specs.declared.fault.ReadWhy.{ReadWhy}
use Rattle.ioam_clock.specs.declared.fault.ReadWhy.TheVariants as read
use Rattle.ioam_clock.specs.declared.fault.ReadingsFault.{ReadingsFault}
use Rattle.ioam_dex.specs.declared.export.ExportFault.{ExportFault}
use Rattle.ioam_dex.specs.declared.export.ExportFault.TheVariants as export
use Rattle.ioam_ipfix.specs.declared.fault.IpfixFault.{IpfixFault}
use Rattle.ioam_ipfix.specs.declared.fault.IpfixFault.TheVariants as ipfix
use Rattle.ioam_part.specs.declared.fault.PartFault.{PartFault}
use Rattle.ioam_part.specs.declared.fault.PartFault.TheVariants as part
use Rattle.ioam_pcap.specs.declared.capture.CapFault.{CapFault}
use Rattle.ioam_pcap.specs.declared.capture.CapFault.TheVariants as fault
use Rattle.ioam_topo_values.specs.declared.why.Why.{Why}
use Rattle.ioam_topo_values.specs.declared.why.Why.TheVariants as why
use Rattle.ioam_topo_entries.specs.declared.fault.DomainFault.{DomainFault}
use Rattle.ioam_topo_entries.specs.declared.words.Table.{Table}
use Rattle.ioam_topo_entries.specs.declared.words.Table.TheVariants as table
use Rattle.ioam_run_answer.specs.declared.outcome.Outcome.{Outcome}
use Rattle.ioam_run_answer.specs.declared.outcome.Outcome.TheVariants.{Done, Usage, Names, Domain, Readings, Capture, Exports, Packets, Records, ReadFault, WriteFault, NoMemory, Ipfix, Part}

-- the exit status of each answer
abbrev pub status_of : Outcome → ℕ
status_of Done = 0
status_of Usage = 1
status_of (Names name) = 2
status_of (Domain fault) = 3
status_of (Readings fault) = 4
status_of (Capture name at fault) = 5
status_of (Exports at fault) = 6
status_of (Packets limit) = 7
status_of (Records limit) = 8
status_of ReadFault = 9
status_of WriteFault = 10
status_of NoMemory = 11
status_of (Ipfix at fault) = 12
status_of (Part name at fault) = 13

-- the words for what is wrong with a domain file and with readings
abbrev pub table_text : Table → List ℕ
table_text table.Top = codes "top"
table_text table.NodeTable = codes "node"
table_text table.LinkTable = codes "link"
table_text table.PortTable = codes "port"
table_text table.RouteTable = codes "route"
table_text table.DataTable = codes "data"
table_text table.FlowTable = codes "flow"
table_text table.ExtraTable = codes "extra"

-- the word for why it is wrong
abbrev pub why_text : Why → List ℕ
why_text why.Text = codes "text"
why_text why.Long = codes "long"
why_text why.Missing = codes "missing"
why_text why.Kind = codes "kind"
why_text why.Range = codes "range"
why_text why.Unknown = codes "unknown"
why_text why.Twice = codes "twice"
why_text why.TooMany = codes "too-many"

-- the word for what is wrong with a line of readings
abbrev pub read_why_text : ReadWhy → List ℕ
read_why_text read.Long = codes "long"
read_why_text read.Words = codes "words"
read_why_text read.Node = codes "node"
read_why_text read.Number = codes "number"
read_why_text read.Order = codes "order"

-- the line for a fault of a domain file: its table, its place, its key and why
abbrev pub domain_text : DomainFault → List ℕ
domain_text fault = codes "domain " ++ table_text fault.table ++ codes " " ++ decimal fault.place ++ codes " " ++ fault.field
    ++ codes " " ++ why_text fault.why

-- the line for a fault of readings: the line's number and why
abbrev pub readings_text : ReadingsFault → List ℕ
readings_text fault = codes "readings " ++ decimal fault.line ++ codes " " ++ read_why_text fault.why

-- the words for a fault of a capture, with the number that was found
abbrev pub fault_text : CapFault → List ℕ
fault_text (fault.Magic found) = codes "magic " ++ decimal found
fault_text (fault.Blocks limit) = codes "blocks " ++ decimal limit
fault_text (fault.Order found) = codes "order " ++ decimal found
fault_text (fault.Large found) = codes "large " ++ decimal found
fault_text (fault.Size found) = codes "size " ++ decimal found
fault_text (fault.Trail found) = codes "trail " ++ decimal found
fault_text (fault.Kind found) = codes "kind " ++ decimal found
fault_text (fault.Face found) = codes "face " ++ decimal found
fault_text (fault.Link found) = codes "link " ++ decimal found
fault_text (fault.Resolution found) = codes "resolution " ++ decimal found
fault_text (fault.RecordLong found) = codes "long " ++ decimal found
fault_text (fault.Time found) = codes "time " ++ decimal found
fault_text (fault.Short have) = codes "short " ++ decimal have

-- the words for a fault of an export record, with the number that was found
abbrev pub export_text : ExportFault → List ℕ
export_text (export.Version found) = codes "version " ++ decimal found
export_text (export.Length found) = codes "length " ++ decimal found
export_text (export.Element at) = codes "element " ++ decimal at
export_text (export.Short have) = codes "short " ++ decimal have

-- the words for a fault of a message, with the number that was found
abbrev pub ipfix_text : IpfixFault → List ℕ
ipfix_text (ipfix.Version found) = codes "version " ++ decimal found
ipfix_text (ipfix.Length found) = codes "length " ++ decimal found
ipfix_text (ipfix.Set found) = codes "set " ++ decimal found
ipfix_text (ipfix.Template found) = codes "template " ++ decimal found
ipfix_text (ipfix.Field at) = codes "field " ++ decimal at
ipfix_text (ipfix.Short have) = codes "short " ++ decimal have

-- the words for a fault of a part
abbrev pub part_text : PartFault → List ℕ
part_text part.Mark = codes "mark"
part_text (part.Count found) = codes "count " ++ decimal found
part_text (part.Record fault) = codes "record " ++ export_text fault
part_text part.Order = codes "order"
part_text (part.Short have) = codes "short " ++ decimal have
part_text part.Rest = codes "rest"

-- the line of each answer, as it is printed
abbrev pub line_text : Outcome → List ℕ
line_text Done = codes "done"
line_text Usage = codes "usage"
line_text (Names name) = codes "names " ++ name
line_text (Domain fault) = domain_text fault
line_text (Readings fault) = readings_text fault
line_text (Capture name at fault) = codes "capture " ++ name ++ codes " " ++ decimal at ++ codes " " ++ fault_text fault
line_text (Exports at fault) = codes "exports " ++ decimal at ++ codes " " ++ export_text fault
line_text (Packets limit) = codes "packets " ++ decimal limit
line_text (Records limit) = codes "records " ++ decimal limit
line_text (Ipfix at fault) = codes "ipfix " ++ decimal at ++ codes " " ++ ipfix_text fault
line_text (Part name at fault) = codes "part " ++ name ++ codes " " ++ decimal at ++ codes " " ++ part_text fault
line_text ReadFault = codes "read fault"
line_text WriteFault = codes "write fault"
line_text NoMemory = codes "no memory"
