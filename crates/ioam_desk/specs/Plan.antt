-- Which calls of a desk in memory fail, and how much one of them moves.
use Rattle.std.specs.Prelude.{◌==◌, ℕ, Bool, List, Result, Ok, Err}
use Rattle.std.specs.List.{list_any}
use Rattle.ioam_desk.specs.Faults.{one_more}
use Rattle.ioam_desk.specs.declared.fault.DeskFault.{DeskFault}
use Rattle.ioam_desk.specs.declared.fault.DeskFault.TheVariants.{Failed, NoMemory}

-- the number of the next call, where so many were counted: they are counted from 1
abbrev pub next_call : ℕ → ℕ
next_call made = one_more made

-- whether the call of this number is one of those that are to fail
abbrev pub is_listed : ℕ → List ℕ → Bool
is_listed call failing = list_any (λ listed. listed == call) failing

-- the calls that were counted, the numbers of those that are to fail, and the most octets that one
-- read or write moves
pub record Plan : Type 0 where
  pub calls : ℕ
  pub failing : List ℕ
  pub piece : ℕ

-- whether the next call is to fail
abbrev pub will_fail : Plan → Bool
will_fail plan = is_listed (next_call plan.calls) plan.failing

-- one call more was counted
abbrev pub with_one_call : Plan → Plan
with_one_call plan = record plan { calls = next_call plan.calls }

-- after a call, which is counted unless it had no memory
abbrev pub plan_after : {A : Type 0} → Plan → Result A DeskFault → Plan
plan_after plan (Ok _) = with_one_call plan
plan_after plan (Err Failed) = with_one_call plan
plan_after plan (Err NoMemory) = plan
