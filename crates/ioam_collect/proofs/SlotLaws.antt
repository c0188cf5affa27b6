-- Laws of the slots in front of a map.
use Rattle.std.proofs.Common.{◌≡◌, ℕ, false, cond, refl, ◌∙◌, ◌⊎◌, inl, inr, List, Option, None, Some}
use Rattle.std.proofs.lemmas.List.Elements.{All-weaker}
use Rattle.std.specs.BTreeMap.{BTreeMap, get}
use Rattle.std.specs.Ordering.{is_eq}
use Rattle.ioam_collect.specs.Keyed.{key_cmp}
use Rattle.ioam_collect.specs.Slots.{IsSlotOf, AreSlotsOf}
use Rattle.ioam_collect.specs.declared.key.Key.{Key}
use Rattle.ioam_collect.specs.declared.slots.Slot.{Slot}
use Rattle.ioam_collect.proofs.KeyLaws.{key_itself, key_or_not}

-- a key more, which was absent
module _ (map new : BTreeMap Key ℕ) (key : Key) (c : ℕ) (none : get key_cmp map key ≡ None)
    (updates : (q : Key) → get key_cmp new q ≡ cond (is_eq (key_cmp key q)) (Some c) (get key_cmp map q)) where
  other_slot : (q : Key) (d : ℕ) → get key_cmp map q ≡ Some d → (key ≡ q) ⊎ (is_eq (key_cmp key q) ≡ false) → get key_cmp new q ≡ Some d
  other_slot q d is (inl same) = let at : get key_cmp map q ≡ None = rw (← same) none in absurd (cc (at, is))
  other_slot q d is (inr isnt) = updates q ∙ rw isnt is

  slot_more : (slot : Option Slot) → IsSlotOf map slot → IsSlotOf new slot
  slot_more None of = tt
  slot_more (Some slot) of = other_slot slot.key slot.chain of (key_or_not key slot.key)

  pub at_more : get key_cmp new key ≡ Some c
  at_more = updates key ∙ rw (key_itself key) refl

  pub slots_more : (slots : List (Option Slot)) → AreSlotsOf map slots → AreSlotsOf new slots
  slots_more slots of = All-weaker (IsSlotOf map) (IsSlotOf new) slot_more slots of
