-- Of a list of stops one at most is the first that holds, and an answer that is right is the only one.
use Rattle.std.proofs.Common.{◌≡◌, List, [], ◌∷◌, Result, Ok, Err, MatchResult, inl, inr, sym, ◌∙◌, ap}
use Rattle.ioam_node.specs.Order.{Stop, IsFirst, NoneHolds}
use Rattle.ioam_node.specs.declared.reason.Reason.{Reason}

pub first-unique : (rows : List Stop) (one other : Reason) → IsFirst rows one → IsFirst rows other → one ≡ other
first-unique [] one other first second = absurd first
first-unique (row ∷ rows) one other (inl first) (inl second) = sym first.1 ∙ second.1
first-unique (row ∷ rows) one other (inl first) (inr second) = absurd (second.0 first.0)
first-unique (row ∷ rows) one other (inr first) (inl second) = absurd (first.0 second.0)
first-unique (row ∷ rows) one other (inr first) (inr second) = first-unique rows one other first.1 second.1

pub first-holds : (rows : List Stop) (why : Reason) → IsFirst rows why → NoneHolds rows → ⊥
first-holds [] why first none = first
first-holds (row ∷ rows) why (inl first) none = none.0 first.0
first-holds (row ∷ rows) why (inr first) none = first-holds rows why first.1 none.1

-- a packet goes on by one thing only, and only where no stop holds
module _ {A : Type 0} (G : A → Type 0) (rows : List Stop) (one : (x y : A) → G x → G y → x ≡ y) (none : (x : A) → G x → NoneHolds rows) where
  pub only_going : (r : Result A Reason) (x : A) → MatchResult r G (IsFirst rows) → G x → r ≡ Ok x
  only_going (Ok y) x is goes = ap (λ z. let r : Result A Reason = Ok z in r) (one y x is goes)
  only_going (Err s) x is goes = absurd (first-holds rows s is (none x goes))

  pub only_first : (r : Result A Reason) (s : Reason) → MatchResult r G (IsFirst rows) → IsFirst rows s → r ≡ Err s
  only_first (Ok y) s is first = absurd (first-holds rows s first (none y is))
  only_first (Err t) s is first = ap (λ z. let r : Result A Reason = Err z in r) (first-unique rows t s is first)
