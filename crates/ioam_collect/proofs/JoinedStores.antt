-- What is left of two stores that are added to an empty one, one after the other.
use Rattle.std.proofs.Common.{◌≡◌, ℕ, Bool, true, false, List, [], ap, ◌∙◌, subst, None, Some}
use Rattle.ioam_pool.specs.Entry.{Entry}
use Rattle.ioam_collect.specs.Gathered.{Gathered}
use Rattle.ioam_collect.specs.Join.{pairs_in}
use Rattle.ioam_collect.specs.Joining.{Takes, JoinsStores}
use Rattle.ioam_collect.specs.declared.key.Key.{Key}
use Rattle.ioam_collect.proofs.JoiningLaws.{InOrder, added_more, has_both, past_behind, past_both, past_front}

abbrev empty_of : ℕ → Gathered
empty_of limit = record { groups = []; held = 0; limit = limit }

module _ (one other fresh next last : Gathered) (limit : ℕ) (new : fresh ≡ record { groups = []; held = 0; limit = limit }) (same : limit ≡ one.limit)
    (gs hs : List (Key × List Entry)) (ones : gs ≡ one.groups) (others : hs ≡ other.groups) (first second : Bool) where
  empty : fresh ≡ record { groups = []; held = 0; limit = one.limit }
  empty = new ∙ ap empty_of same

  at_first : (b : Bool) → first ≡ b → Takes fresh (pairs_in gs) first next → Takes fresh (pairs_in one.groups) b next
  at_first b is takes = subst (λ c. Takes fresh (pairs_in one.groups) c next) is (subst (λ g. Takes fresh (pairs_in g) first next) ones takes)

  at_second : (b : Bool) → second ≡ b → Takes next (pairs_in hs) second last → Takes next (pairs_in other.groups) b last
  at_second b is takes = subst (λ c. Takes next (pairs_in other.groups) c last) is (subst (λ g. Takes next (pairs_in g) second last) others takes)

  pub first_past : first ≡ false → Takes fresh (pairs_in gs) first next → JoinsStores one other None
  first_past is takes = past_both one other fresh next empty (past_front fresh (pairs_in one.groups) (pairs_in other.groups) (at_first false is takes))

  pub second_past : first ≡ true → second ≡ false → Takes fresh (pairs_in gs) first next → Takes next (pairs_in hs) second last → JoinsStores one other None
  second_past is never takes over =
      past_both one other fresh last empty (past_behind fresh next (pairs_in one.groups) (pairs_in other.groups) (at_first true is takes) (at_second false never over))

  pub both_taken : first ≡ true → second ≡ true → Takes fresh (pairs_in gs) first next → Takes next (pairs_in hs) second last
      → InOrder one → InOrder other → InOrder last → JoinsStores one other (Some last)
  both_taken is is_too takes more in_one in_other in_last =
      has_both one other fresh last empty in_one in_other in_last
      (added_more fresh next last (pairs_in one.groups) (pairs_in other.groups) (at_first true is takes) (at_second true is_too more))
