-- One turn of a loop that changes the options of a header in place.
use Rattle.std.proofs.Common.{◌≡◌, ℕ, ◌+◌, ◌-◌, ◌≤◌, List, ◌∷◌, length, drop, slice_index, slice_range, sym, ap, ◌∙◌, arith, length-take, length-drop}
use borrow.Rule.Slice.PartMut.{put_mid}
use Rattle.ioam_base.specs.Octets.{written}
use Rattle.ioam_base.proofs.WrittenLaws.{written-mid, written-front, written-behind}
use Rattle.ioam_ip.specs.OptionsLeft.{options_from}
use Rattle.ioam_ip.specs.Spot.{IsNext, spot_end, item_in}
use Rattle.ioam_ip.specs.declared.next.OptionSpot.{OptionSpot}
use Rattle.ioam_ip.specs.Rewriting.{with_step, with_steps}
use Rattle.ioam_ip.proofs.NextLaws.{options_same, suffix_same}

module _ (step : ℕ → List ℕ → List ℕ) (keeps : (kind : ℕ) (body : List ℕ) → length (step kind body) ≡ length body)
    (old now : List ℕ) (at : ℕ) (long : length now ≡ length old) (rest : drop at now ≡ drop at old)
    (spot : OptionSpot) (next : IsNext now at spot) (part : List ℕ) (is : part ≡ step spot.kind (slice_range now (spot.at + 2) (spot_end spot))) where
  abbrev start : ℕ
  start = spot.at + 2

  size_is : length part ≡ spot_end spot - start
  size_is =
      let within : spot_end spot ≤ length now = next.within in
      ap length is ∙ keeps spot.kind (slice_range now start (spot_end spot))
      ∙ omega (arith, length-take (spot_end spot - start) (drop start now), length-drop start now)

  abbrev new : List ℕ
  new = put_mid start (spot_end spot - start) now part

  pub new_is : new ≡ written now start part
  new_is = written-mid now part start (spot_end spot) (omega arith) size_is

  -- behind the option all stays
  pub rest_stays : drop (spot_end spot) new ≡ drop (spot_end spot) old
  rest_stays =
      let within : spot_end spot ≤ length now = next.within in
      let behind : at ≤ spot.at = next.behind in
      ap (λ xs. drop (spot_end spot) xs) new_is ∙ written-behind now part start (spot_end spot) (omega (arith, size_is)) (omega arith)
      ∙ suffix_same now old at (spot_end spot) (omega arith) rest

  -- the options that are left give the same
  pub steps_stay : with_steps step new (options_from (length old) old (spot_end spot)) ≡ with_steps step now (options_from (length old) old at)
  steps_stay =
      let within : spot_end spot ≤ length now = next.within in
      let behind : at ≤ spot.at = next.behind in
      let from_at : options_from (length now) now at ≡ options_from (length old) old at =
      ap (λ n. options_from n now at) long ∙ options_same (length old) now old at long rest in
      let from_end : options_from (length now) now (spot_end spot) ≡ options_from (length old) old (spot_end spot) =
      ap (λ n. options_from n now (spot_end spot)) long
      ∙ options_same (length old) now old (spot_end spot) long (suffix_same now old at (spot_end spot) (omega arith) rest) in
      ap (λ xs. with_steps step xs (options_from (length old) old (spot_end spot))) (new_is ∙ ap (λ xs. written now start xs) is)
      ∙ ap (λ os. with_steps step (with_step step now (item_in now spot)) os) (sym from_end)
      ∙ ap (λ os. with_steps step now os) (sym next.first ∙ from_at)

  -- the first of them is what stands there now
  pub first_is : options_from (length old) old at ≡ item_in now spot ∷ options_from (length old) old (spot_end spot)
  first_is =
      let within : spot_end spot ≤ length now = next.within in
      let behind : at ≤ spot.at = next.behind in
      sym (ap (λ n. options_from n now at) long ∙ options_same (length old) now old at long rest) ∙ next.first
      ∙ ap (λ os. item_in now spot ∷ os) (ap (λ n. options_from n now (spot_end spot)) long
      ∙ options_same (length old) now old (spot_end spot) long (suffix_same now old at (spot_end spot) (omega arith) rest))

  pub front_stays : 2 ≤ at → slice_index new 1 ≡ slice_index now 1
  front_stays behind =
      let after : at ≤ spot.at = next.behind in
      let within : spot_end spot ≤ length now = next.within in
      ap (λ xs. slice_index xs 1) new_is ∙ written-front now part start 1 (omega arith) (omega arith)
