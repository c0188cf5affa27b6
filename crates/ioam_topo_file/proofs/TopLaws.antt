-- Laws of the file's own keys.
use Rattle.std.proofs.Common.{◌≡◌, ◌≤◌, ℕ, Bool, true, false, List, Option, Some, None, Ok, Err, codes, sym, ◌∙◌, arith}
use Rattle.toml.specs.Data.{Data, Members, get_member}
use Rattle.ioam_topo_values.specs.Reads.{optional}
use Rattle.ioam_topo_values.specs.Numbers.{number}
use Rattle.ioam_topo_entries.proofs.ReadLaws.{number_bounds}
use Rattle.std.proofs.lemmas.Bool.{cond-true, cond-false}
use Rattle.std.specs.Str.{bytes_eq}
use Rattle.ioam_topo.specs.declared.format.Format.TheVariants.{Ptp, Ntp, Posix}
use Rattle.ioam_topo_values.specs.declared.why.Why.TheVariants.{Range}
use Rattle.ioam_topo_file.specs.Top.{format_named, packets_of}

-- the format of a name, by what its comparisons answer
pub named_ptp : (s : List ℕ) (p : Bool) → p ≡ bytes_eq s (codes "ptp") → p ≡ true → Ok Ptp ≡ format_named s
named_ptp s p is_p here = sym (cond-true _ _ _ (sym is_p ∙ here))

pub named_ntp : (s : List ℕ) (p n : Bool) → p ≡ bytes_eq s (codes "ptp") → n ≡ bytes_eq s (codes "ntp")
    → p ≡ false → n ≡ true → Ok Ntp ≡ format_named s
named_ntp s p n is_p is_n not_p here = sym (cond-false _ _ _ (sym is_p ∙ not_p) ∙ cond-true _ _ _ (sym is_n ∙ here))

pub named_posix : (s : List ℕ) (p n x : Bool) → p ≡ bytes_eq s (codes "ptp") → n ≡ bytes_eq s (codes "ntp")
    → x ≡ bytes_eq s (codes "posix") → p ≡ false → n ≡ false → x ≡ true → Ok Posix ≡ format_named s
named_posix s p n x is_p is_n is_x not_p not_n here = sym (cond-false _ _ _ (sym is_p ∙ not_p)
    ∙ cond-false _ _ _ (sym is_n ∙ not_n) ∙ cond-true _ _ _ (sym is_x ∙ here))

pub named_none : (s : List ℕ) (p n x : Bool) → p ≡ bytes_eq s (codes "ptp") → n ≡ bytes_eq s (codes "ntp")
    → x ≡ bytes_eq s (codes "posix") → p ≡ false → n ≡ false → x ≡ false → Err Range ≡ format_named s
named_none s p n x is_p is_n is_x not_p not_n not_x = sym (cond-false _ _ _ (sym is_p ∙ not_p)
    ∙ cond-false _ _ _ (sym is_n ∙ not_n) ∙ cond-false _ _ _ (sym is_x ∙ not_x))

packets_read : (o : Option Data) (x : ℕ) → optional 1000000 (number 1 16777216) o ≡ Ok x → (1 ≤ x) × (x ≤ 16777216)
packets_read None x is = let same : 1000000 ≡ x = cc in (omega (arith, same), omega (arith, same))
packets_read (Some d) x is = number_bounds 1 16777216 d x is

-- the bounds of the most packets
pub packets_bounds : (t : Members) (x : ℕ) → packets_of t ≡ Ok x → (1 ≤ x) × (x ≤ 16777216)
packets_bounds t x is = packets_read (get_member (codes "packets") t) x is
