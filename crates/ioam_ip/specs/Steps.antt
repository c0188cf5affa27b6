-- One step along the chain.
use Rattle.std.specs.Prelude.{◌≡◌, ℕ, ◌+◌, ◌≤◌, List, Option, Some, None, length, slice_range}
use Rattle.ioam_ip.specs.Chain.{said_size, CanPass, EndsAt, behind, head_at}
use Rattle.ioam_ip.specs.Options.{Item, AreOptions, IsFilled}
use Rattle.ioam_ip.specs.ChainOptions.{HeadOptions}
use Rattle.ioam_ip.specs.Scan.{IsFoundIn}
use Rattle.ioam_ip.specs.declared.scan.Findings.{Findings}
use Rattle.ioam_ip.specs.declared.chain.HeadSpot.{HeadSpot}
use Rattle.ioam_ip.specs.declared.steps.HeadStep.{HeadStep}
use Rattle.ioam_ip.specs.declared.steps.HeadStep.TheVariants.{On, Ends, Breaks}

-- what stands at a spot: a header behind which the chain goes on, its end, or a break
abbrev pub Steps : List ℕ → HeadSpot → HeadStep → Type 0
Steps p spot (On next found) =
    CanPass p spot × (next ≡ behind p spot) × ((os : List Item) × HeadOptions p (head_at p spot) os × IsFoundIn os found)
Steps p spot Ends = EndsAt p spot
Steps p spot Breaks = (CanPass p spot → ⊥) × (EndsAt p spot → ⊥)

-- an options header at a place: where it ends and what its options have, if it is whole and they
-- fill it
abbrev pub OptionsAt : List ℕ → ℕ → Option (ℕ × Findings) → Type 0
OptionsAt p at None = at + said_size p at ≤ length p → IsFilled (slice_range p at (at + said_size p at)) → ⊥
OptionsAt p at (Some (end, found)) = (end ≡ at + said_size p at) × (end ≤ length p)
    × ((os : List Item) × AreOptions (slice_range p at (at + said_size p at)) os × IsFoundIn os found)
