-- The options of a header, one turn after another.
use Rattle.std.proofs.Common.{◌≡◌, ℕ, zero, suc, cond, true, false, leb, ltb, ◌&&◌, ◌+◌, ◌-◌, ◌<◌, ◌≤◌, Bool, List, [], ◌∷◌, ◌++◌, length, drop, length-take, length-drop, slice_range, arith, refl, ap, ◌∙◌, Option, Some, None}
use Rattle.std.proofs.lemmas.Bool.{le-ltb, lt-ltb}
use Rattle.ioam_ip.specs.Chain.{said_size}
use Rattle.ioam_ip.specs.Hop.{has_hop, hop_end}
use Rattle.ioam_ip.specs.OptionsLeft.{options_from}
use Rattle.ioam_ip.specs.Rewriting.{options_in}
use Rattle.ioam_ip.specs.Spot.{IsNext, item_in, spot_end}
use Rattle.ioam_ip.specs.declared.next.OptionSpot.{OptionSpot}
use Rattle.ioam_explain.specs.Options.{item_rules, items_rules, options_rules, trace_count, upper_rule}
use Rattle.ioam_explain.specs.Headers.{hop_octets}
use Rattle.ioam_explain.specs.Rows.{differing, first_broken}
use Rattle.ioam_explain.specs.declared.reason.Reason.{Reason}
use Rattle.ioam_explain.specs.declared.reason.Rule.TheVariants as rule
use Rattle.ioam_explain.proofs.FirstLaws.{found, only, passed, passed_one}

module _ (knows : ℕ → Bool) (hops id inward : ℕ) (old new : List ℕ) (traces from : ℕ) where
  -- what is left of the list, from an option on
  abbrev pub left : List (Option Reason)
  left = items_rules knows hops id inward traces from old (options_from (length old) old from) new

  pub at_last : options_from (length old) old from ≡ [] → first_broken left ≡ differing rule.Padding 0 (40 + from) (drop from new) (drop from old)
  unfolding items_rules
  at_last none = ap (λ items. first_broken (items_rules knows hops id inward traces from old items new)) none
      ∙ only (differing rule.Padding 0 (40 + from) (drop from new) (drop from old))

  module _ (spot : OptionSpot) (next : IsNext old from spot) where
    abbrev pub here : List (Option Reason)
    here = item_rules knows hops id inward traces from old (item_in old spot) new

    abbrev pub rest : List (Option Reason)
    rest = items_rules knows hops id inward (traces + trace_count spot.kind (slice_range old (spot.at + 2) (spot_end spot))) (spot_end spot) old
        (options_from (length old) old (spot_end spot)) new

    end_is : spot.at + 2 + length (slice_range old (spot.at + 2) (spot_end spot)) ≡ spot_end spot
    end_is = let within : spot_end spot ≤ length old = next.within in
        omega (arith, within, length-take (spot_end spot - (spot.at + 2)) (drop (spot.at + 2) old), length-drop (spot.at + 2) old)

    turn : left ≡ here ++ rest
    unfolding items_rules
    turn = ap (λ items. items_rules knows hops id inward traces from old items new) next.first
        ∙ ap (λ n. here ++ items_rules knows hops id inward (traces + trace_count spot.kind (slice_range old (spot.at + 2) (spot_end spot))) n old
        (options_from (length old) old (spot_end spot)) new) end_is

    pub at_found : (reason : Reason) → first_broken here ≡ Some reason → first_broken left ≡ Some reason
    at_found reason is = ap first_broken turn ∙ found here rest reason is

    pub at_passed : first_broken here ≡ None → first_broken left ≡ first_broken rest
    at_passed is = ap first_broken turn ∙ passed here rest is

-- ---- the header, if there is one

module _ (knows : ℕ → Bool) (hops id inward : ℕ) (before after : List ℕ) where
  abbrev items : ℕ → List (Option Reason)
  items end = items_rules knows hops id inward 0 2 (slice_range before 40 end) (options_in (slice_range before 40 end)) (slice_range after 40 end)

  absent : (b : Bool) → b ≡ false → first_broken (cond b (upper_rule before after ∷ items (hop_end before)) []) ≡ None
  unfolding first_broken
  absent true is = absurd (cc is)
  absent false is = refl

  there : (b : Bool) → b ≡ true → upper_rule before after ≡ None
      → first_broken (cond b (upper_rule before after ∷ items (hop_end before)) []) ≡ first_broken (items (hop_end before))
  there true is upper = passed_one (upper_rule before after) (items (hop_end before)) upper
  there false is upper = absurd (cc is)

  pub no_header : hop_octets before ≡ 0 → first_broken (options_rules knows hops id inward before after) ≡ None
  unfolding options_rules
  no_header none = absent (ltb 0 (hop_octets before)) (le-ltb 0 (hop_octets before) (omega (arith, none)))

  size : (b : Bool) (n : ℕ) → 0 < cond b n 0 → cond b n 0 ≡ n
  size true n some = refl
  size false n some = absurd (omega (arith, some))

  hop_size : 0 < hop_octets before → hop_octets before ≡ said_size before 40
  unfolding hop_octets
  hop_size some = size (has_hop before && leb (hop_end before) (length before)) (said_size before 40) some

  pub some_header : (octets : ℕ) → octets ≡ hop_octets before → (octets ≡ 0 → ⊥) → upper_rule before after ≡ None
      → first_broken (options_rules knows hops id inward before after) ≡ first_broken (items (40 + octets))
  unfolding options_rules
  some_header octets is some upper =
      let more : 0 < hop_octets before = positive octets (hop_octets before) is some in
      let end : hop_end before ≡ 40 + octets = omega (arith, hop_size more, is) in
      there (ltb 0 (hop_octets before)) (lt-ltb 0 (hop_octets before) more) upper ∙ ap (λ n. first_broken (items n)) end
    where
      positive : (n m : ℕ) → n ≡ m → (n ≡ 0 → ⊥) → 0 < m
      positive zero m is some = absurd (some refl)
      positive (suc n) m is some = omega (arith, is)
