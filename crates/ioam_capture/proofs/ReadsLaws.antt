-- Octets read in one way, and go on so with others behind them.
use Rattle.std.proofs.Common.{◌≡◌, ℕ, ◌≤◌, ◌⊎◌, List, ◌++◌, length, arith, sym, ap, ◌∙◌, inl, inr, length-append}
use Rattle.std.proofs.lemmas.Bool.{cases_eq, cases_lt}
use Rattle.ioam_base.specs.Octets.{u32_at}
use Rattle.ioam_base.proofs.OctetsLaws.{u32_at-append}
use Rattle.ioam_pcap.specs.Ending.{Ending}
use Rattle.ioam_pcap.specs.Entries.{Taken}
use Rattle.ioam_capture.specs.Reads.{IsNg, Reads}
use Rattle.ioam_capture.proofs.ClassicLaws.{GoesOn, Classic-total, Classic-unique, Classic-short, Classic-later}
use Rattle.ioam_capture.proofs.NgLaws.{Ng-later}
use Rattle.ioam_ng.proofs.LaterLaws as blocks
use Rattle.ioam_ng.proofs.ReadsLaws as one_way

-- ---- the form

pub ng_or_not : (octets : List ℕ) → IsNg octets ⊎ (IsNg octets → ⊥)
ng_or_not octets = elim (cases_lt (length octets) 4) [
  | inl short ↦ inr (λ ng. omega (arith, short, ng.0))
  | inr long ↦ elim (cases_eq (u32_at octets 0) 0x0a0d0d0a) [
    | inl same ↦ inl (long, same)
    | inr other ↦ inr (λ ng. other ng.1)
  ]
]

module _ (octets more : List ℕ) where
  pub IsNg-behind : IsNg octets → IsNg (octets ++ more)
  IsNg-behind ng = (omega (arith, ng.0, length-append octets more), u32_at-append octets more 0 ng.0 ∙ ng.1)

  pub not_ng-behind : 4 ≤ length octets → (IsNg octets → ⊥) → IsNg (octets ++ more) → ⊥
  not_ng-behind long other ng = other (long, sym (u32_at-append octets more 0 long) ∙ ng.1)

-- ---- how octets read

pub Reads-total : (octets : List ℕ) → (taken : List Taken) × (ending : Ending) × Reads octets taken ending
Reads-total octets = elim (ng_or_not octets) [
  | inl ng ↦ let (taken, ending, reads) = blocks.Reads-total octets in (taken, ending, inl (ng, reads))
  | inr other ↦ let (taken, ending, reads) = Classic-total octets in (taken, ending, inr (other, reads))
]

pub Reads-unique : (octets : List ℕ) (xs ys : List Taken) (d e : Ending) → Reads octets xs d → Reads octets ys e → (xs ≡ ys) × (d ≡ e)
Reads-unique octets xs ys d e (inl x) (inl y) = one_way.Reads-unique octets xs ys d e x.1 y.1
Reads-unique octets xs ys d e (inl x) (inr y) = absurd (y.0 x.0)
Reads-unique octets xs ys d e (inr x) (inl y) = absurd (x.0 y.0)
Reads-unique octets xs ys d e (inr x) (inr y) = Classic-unique octets xs ys d e x.1 y.1

pub Reads-later : (octets more : List ℕ) (xs ys : List Taken) (d e : Ending) → Reads octets xs d → Reads (octets ++ more) ys e → GoesOn xs d ys e
Reads-later octets more xs ys d e (inl x) (inl y) = Ng-later octets more xs ys d e x.1 y.1
Reads-later octets more xs ys d e (inl x) (inr y) = absurd (y.0 (IsNg-behind octets more x.0))
Reads-later octets more xs ys d e (inr x) (inr y) = Classic-later octets more xs ys d e x.1 y.1
Reads-later octets more xs ys d e (inr x) (inl y) = elim (cases_lt (length octets) 4) [
  | inl short ↦
      let none = Classic-short octets xs d short x.1 in
      inl (none.1, (ys, ap (λ zs. zs ++ ys) (sym none.0)))
  | inr long ↦ absurd (not_ng-behind octets more long x.0 y.0)
]
