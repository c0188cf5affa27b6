-- What may be in the element that a node adds to a trace (RFC 9197 section 4.4.2), where all that is known of the node is
-- its id, the hop limit with which it sends the packet on and the interface by which the packet came.
use Rattle.std.specs.Prelude.{◌≡◌, ◌<◌, ◌≤◌, ◌%◌, ◌⊎◌, ℕ, List, length, Some, None, IfSome}
use Rattle.ioam_data.specs.View.{Seen}

-- an opaque state snapshot (section 4.4.2.13): a schema of 24 bits, and whole words of data, as many as Length, of 8
-- bits, can count
pub record IsAnySnapshot (schema : ℕ) (octets : List ℕ) : Type 0 where
  pub schema_below : schema < 16777216
  pub in_words : length octets % 4 ≡ 0
  pub short : length octets ≤ 1020

-- A node may know this of a packet that it sends on with a hop limit: its own id, and the interface by which the packet
-- came or, as for any value that it can't tell, none. All else is free: a word is written by its lowest 32 bits, so only
-- what would change other octets has a bound.
pub record IsFree (hops id inward : ℕ) (view : Seen) : Type 0 where
  pub hops_is : view.hops ≡ hops
  pub id_is : view.id ≡ id
  pub inward_is : (view.inward ≡ Some inward) ⊎ (view.inward ≡ None)
  pub outward_below : IfSome view.outward (λ number. number < 4294967296)
  pub snapshot_fits : IfSome view.snapshot (λ given. IsAnySnapshot given.0 given.1)
