-- An element that was added, by its places.
use Rattle.std.proofs.Common.{◌≡◌, ℕ, ◌+◌, ◌-◌, ◌*◌, ◌≤◌, List, take, drop, slice_range, arith, sym, ap, ◌∙◌, subst}
use Rattle.ioam_base.specs.Octets.{u16_at, written}
use Rattle.ioam_data.specs.Elements.{IsElement}
use Rattle.ioam_data.specs.Fields.{fields_of}
use Rattle.ioam_trace.specs.Filling.{with_lengths}
use Rattle.ioam_trace.specs.Head.{node_len_of, remaining_of, kind_of}
use Rattle.ioam_audit.specs.Decided.{AddsSo, between, with_element}
use Rattle.ioam_audit.specs.Lawful.{IsLawful}

module _ (hops id inward : ℕ) (old new : List ℕ) (before after : ℕ) (before_is : before ≡ remaining_of old) (after_is : after ≡ remaining_of new)
    (order : after ≤ before) where
  abbrev part : List ℕ
  part = slice_range new (8 + 4 * after) (8 + 4 * before)

  abbrev amount : ℕ
  amount = remaining_of old - remaining_of new

  part_is : slice_range new (8 + 4 * after) (8 + 4 * before) ≡ between old new
  part_is = let size : (8 + 4 * before) - (8 + 4 * after) ≡ 4 * (remaining_of old - remaining_of new) = omega (arith, before_is, after_is, order) in
      ap (λ n. take n (drop (8 + 4 * after) new)) size ∙ ap (λ n. take (4 * (remaining_of old - remaining_of new)) (drop (8 + 4 * n) new)) after_is

  whole_is : written (with_lengths old (u16_at old 2 - (before - after))) (8 + 4 * after) part ≡ with_element old amount (between old new)
  whole_is =
      let fell : before - after ≡ remaining_of old - remaining_of new = omega (arith, before_is, after_is) in
      let place : after ≡ remaining_of old - amount = omega (arith, before_is, after_is, order) in
      ap (λ n. written (with_lengths old (u16_at old 2 - n)) (8 + 4 * after) part) fell
      ∙ ap (λ n. written (with_lengths old (u16_at old 2 - amount)) (8 + 4 * n) part) place
      ∙ ap (λ xs. with_element old amount xs) part_is

  pub between-adds : (new ≡ written (with_lengths old (u16_at old 2 - (before - after))) (8 + 4 * after) part)
      × IsElement (kind_of old) (node_len_of old) part × IsLawful hops id inward (fields_of (kind_of old) (node_len_of old) part)
      → AddsSo hops id inward old new
  between-adds is = record {
    less = omega (arith, before_is, after_is, order);
    element = subst (λ xs. IsElement (kind_of old) (node_len_of old) xs) part_is is.1;
    lawful = subst (λ xs. IsLawful hops id inward (fields_of (kind_of old) (node_len_of old) xs)) part_is is.2;
    is = is.0 ∙ whole_is;
  }

  pub adds-between : AddsSo hops id inward old new
      → (new ≡ written (with_lengths old (u16_at old 2 - (before - after))) (8 + 4 * after) part)
      × IsElement (kind_of old) (node_len_of old) part × IsLawful hops id inward (fields_of (kind_of old) (node_len_of old) part)
  adds-between so = (
    so.is ∙ sym whole_is,
    subst (λ xs. IsElement (kind_of old) (node_len_of old) xs) (sym part_is) so.element,
    subst (λ xs. IsLawful hops id inward (fields_of (kind_of old) (node_len_of old) xs)) (sym part_is) so.lawful,
  )
