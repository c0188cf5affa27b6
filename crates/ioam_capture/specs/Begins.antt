-- The reader that is made once the first four octets of a capture are there.
use Rattle.std.specs.Prelude.{◌≡◌, ℕ, List, Bool, ◌==◌, if◌then◌else◌}
use Rattle.ioam_base.specs.Octets.{u32_at}
use Rattle.ioam_pcap.specs.Reading as classic_reading
use Rattle.ioam_pcap.specs.Reader as classic
use Rattle.ioam_ng.specs.Reading as ng
use Rattle.ioam_capture.specs.declared.form.Form.{Form}
use Rattle.ioam_capture.specs.Inside.{seen, IsFew}
use Rattle.ioam_capture.specs.Reading.{Reading, Classic, Ng}

-- a capture that begins with these four octets is a pcapng: they are the type of a section block
abbrev pub is_section : List ℕ → Bool
is_section octets = u32_at octets 0 == 0x0a0d0d0a

-- readers of a form that were fed these octets, of which nothing was taken
abbrev pub begun_classic : List ℕ → classic_reading.Reading
begun_classic octets = record classic.fresh { pending = octets }

-- the reader of a pcapng that was fed these octets, of which nothing was taken
abbrev pub begun_ng : List ℕ → ng.Reading
begun_ng octets = record ng.fresh { pending = octets }

-- the reader of the form that the first four octets say
abbrev pub begun : List ℕ → Reading
begun octets = if is_section octets then Ng (begun_ng octets) else Classic (begun_classic octets)

-- the form's reader is this one
abbrev pub Begins : List ℕ → Form → Type 0
Begins octets form = (seen form ≡ begun octets) × IsFew form
