-- What a node that knows of a packet what C says of it makes of the octets of a trace.
use Rattle.std.specs.Prelude.{◌≡◌, ℕ, ◌*◌, Bool, ◌==◌, ◌&&◌, ◌||◌, nat_lt, nat_le, List, take, Option}
use Rattle.std.specs.Bool.{MatchBool}
use Rattle.ioam_data.specs.View.{Seen}
use Rattle.ioam_trace.specs.Filled.{answer_of, filled}
use Rattle.ioam_trace.specs.Filling.{Filling}
use Rattle.ioam_trace.specs.declared.addition.Filled.{Filled}
use Rattle.ioam_c.specs.Part.{if_set}
use Rattle.ioam_c.specs.Status.{bad_view, filled_status}
use Rattle.ioam_c.specs.declared.view.IoamView.{IoamView}

-- the snapshot of a view, if it has one, has a schema of 24 bits and at most 45 words of data
abbrev pub is_snapshot : IoamView → Bool
is_snapshot view = (view.has_snapshot == 0) || (nat_lt view.schema 16777216 && nat_le view.opaque_words 45)

-- the numbers of a view are within their limits: the node id has 56 bits
abbrev pub is_view : IoamView → Bool
is_view view = nat_lt view.node_id 72057594037927936 && is_snapshot view

-- its snapshot: the schema, and the first words of the data
abbrev pub given_snapshot : IoamView → Option (ℕ × List ℕ)
given_snapshot view = if_set view.has_snapshot (view.schema, take (4 * view.opaque_words) view.opaque)

-- what a node knows by it
abbrev pub seen_of : IoamView → Seen
seen_of view = record {
  hops = view.hop_limit;
  id = view.node_id;
  inward = if_set view.has_ingress view.ingress;
  outward = if_set view.has_egress view.egress;
  stamp = if_set view.has_timestamp (view.seconds, view.fraction);
  delay = if_set view.has_delay view.delay;
  queue = if_set view.has_queue view.queue;
  buffer = if_set view.has_buffer view.buffer;
  short = if_set view.has_short_data view.short_data;
  wide = if_set view.has_wide_data view.wide_data;
  snapshot = given_snapshot view;
}

-- the octets become what the node makes of them, and the status says what it did; a view that exceeds its limits changes nothing
abbrev pub Fills : IoamView → List ℕ → List ℕ → ℕ → Type 0
Fills view old new status = MatchBool (is_view view)
    ((status ≡ filled_status (answer_of old (seen_of view))) × (new ≡ filled old (seen_of view)))
    ((status ≡ bad_view) × (new ≡ old))

-- the same by cases: the status is that of what the node did, and the octets are what it leaves then
abbrev pub FillsSo : Seen → List ℕ → List ℕ → ℕ → Type 0
FillsSo view old new status = (did : Filled) × Filling old view new did × (status ≡ filled_status did)
