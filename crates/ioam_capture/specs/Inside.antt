-- What a reader keeps, as its callers see it.
use Rattle.std.specs.Prelude.{⊤, ◌<◌, length}
use Rattle.ioam_capture.specs.declared.form.Form.{Form}
use Rattle.ioam_capture.specs.declared.form.Form.TheVariants as form
use Rattle.ioam_capture.specs.Reading.{Reading, Front, Classic, Ng}

-- a reader as its callers see it: its first octets, before its form is known, or the reader of a form
abbrev pub seen : Form → Reading
seen (form.Front alloc held) = Front held.items
seen (form.Classic reader) = Classic reader
seen (form.Ng reader) = Ng reader

-- where the form isn't known, fewer than four octets were fed
abbrev pub IsFew : Form → Type 0
IsFew (form.Front alloc held) = length held.items < 4
IsFew (form.Classic reader) = ⊤
IsFew (form.Ng reader) = ⊤
