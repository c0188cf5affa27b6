-- A reader of a capture as its callers see it.
use Rattle.std.specs.Prelude.{ℕ, List, Option}
use Rattle.ioam_pcap.specs.declared.form.Form.{Form}

-- the form, once the head was read; the place in the capture of the first octet that was not yet
-- taken; the octets from there on that were fed; and how many octets that it took it still keeps
pub record Reading : Type 0 where
  pub form : Option Form
  pub start : ℕ
  pub pending : List ℕ
  pub given : ℕ
