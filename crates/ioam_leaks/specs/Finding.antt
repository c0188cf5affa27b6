-- What a packet shows of IOAM to those who receive it.
use Rattle.std.specs.Prelude.{◌≡◌, ℕ, ◌+◌, ◌<◌, ◌≤◌, ⊤, false, List, length, slice_index}
use Rattle.ioam_ip.specs.Chain.{EndsWith, IsSound, start}
use Rattle.ioam_ip.specs.declared.chain.HeadSpot.{HeadSpot}
use Rattle.ioam_leaks.specs.Shows.{Shows}
use Rattle.ioam_leaks.specs.declared.finding.Finding.{Finding}
use Rattle.ioam_leaks.specs.declared.finding.Finding.TheVariants.{Clean, Leaks, Hides}
use Rattle.ioam_leaks.specs.declared.finding.Hidden.{Hidden}
use Rattle.ioam_leaks.specs.declared.finding.Hidden.TheVariants as hidden
use Rattle.ioam_leaks.specs.declared.finding.Leak.{Leak}
use Rattle.ioam_leaks.specs.declared.finding.Leak.TheVariants as leak
use Rattle.ioam_leaks.specs.declared.option.Part.TheVariants.{Whole, Begun}

-- an options header on the chain, as far as the chain goes, has a whole IOAM option. A header that breaks the chain doesn't hide
-- what precedes it, nor what it has itself
abbrev pub Carries : List ℕ → Type 0
Carries p = Shows Whole p (start p)

-- the spot of the packet that an ICMPv6 error at this offset quotes: an IPv6 header (next header value 41) after 8 octets
-- (RFC 4443 section 3)
abbrev pub quoted : ℕ → HeadSpot
quoted at = record { value = 41; at = at + 8; behind_ip = false }

-- an ICMPv6 message at this offset is an error, whose type is below 128 (RFC 4443 section 2.1), and shows an IOAM option in the
-- packet that it quotes, at least the type of the option
pub record QuotesAt (p : List ℕ) (at : ℕ) : Type 0 where
  pub there : at + 8 ≤ length p
  pub error : slice_index p at < 128
  pub shows : Shows Begun p (quoted at)

-- the chain is whole and ends with such a message (next header value 58)
pub record Quotes (p : List ℕ) : Type 0 where
  pub at : ℕ
  pub ends : EndsWith p 58 at
  pub quotes : QuotesAt p at

-- the chain ends with this next header value
abbrev pub EndsBy : List ℕ → ℕ → Type 0
EndsBy p upper = (at : ℕ) × EndsWith p upper at

-- what can't be seen: what follows an Encapsulating Security Payload (50), an Authentication Header (51), the header of a fragment
-- that isn't the first (44), or a header that breaks the chain
abbrev pub IsHidden : List ℕ → Hidden → Type 0
IsHidden p hidden.Esp = EndsBy p 50
IsHidden p hidden.Ah = EndsBy p 51
IsHidden p hidden.Fragment = EndsBy p 44
IsHidden p hidden.Chain = IsSound p → ⊥

-- a packet shows an IOAM option on its chain, or else one that it quotes
abbrev pub IsLeaking : List ℕ → Leak → Type 0
IsLeaking p leak.Carries = Carries p
IsLeaking p leak.Quotes = (Carries p → ⊥) × Quotes p

-- what a packet shows: an IOAM option, or else that something is hidden, or else nothing
abbrev pub HasFinding : List ℕ → Finding → Type 0
HasFinding p Clean = ((how : Leak) → IsLeaking p how → ⊥) × ((why : Hidden) → IsHidden p why → ⊥)
HasFinding p (Leaks how) = IsLeaking p how
HasFinding p (Hides why) = ((how : Leak) → IsLeaking p how → ⊥) × IsHidden p why

-- and nothing else
abbrev pub OnlyFinding : List ℕ → Finding → Type 0
OnlyFinding p finding = (other : Finding) → HasFinding p other → other ≡ finding

-- the packet leaks
abbrev pub IsLeak : Finding → Type 0
IsLeak Clean = ⊥
IsLeak (Leaks how) = ⊤
IsLeak (Hides why) = ⊥
