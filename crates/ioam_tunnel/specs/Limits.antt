-- What becomes of the Tunnel Encapsulation Limit of a packet that is to be enclosed (RFC 2473 section 4.1.1).
use Rattle.std.specs.Prelude.{ℕ, ◌-◌, ◌==◌, if◌then◌else◌, Option, Some, None}
use Rattle.ioam_tunnel.specs.declared.limit.Limit.{Limit}
use Rattle.ioam_tunnel.specs.declared.limit.Limit.TheVariants as limit

-- by the number that was found in the packet, and the one that is configured
abbrev pub limit_by : Option ℕ → Option ℕ → Limit
limit_by (Some number) configured = if number == 0 then limit.Refused else limit.Put (number - 1)
limit_by None (Some number) = limit.Put number
limit_by None None = limit.None
