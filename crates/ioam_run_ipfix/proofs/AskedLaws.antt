-- The names and the files ask for one answer.
use Rattle.std.proofs.Common.{◌≡◌, ◌≢◌, ℕ, ◌⊎◌, Bool, IsTrue, IsSomeAnd, List, Option, Some, None, refl, sym, ap, ◌∙◌, inl, inr}
use Rattle.ioam_desk.specs.Desk.{Reading, Writing, Rose}
use Rattle.ioam_dex.proofs.ReadsLaws as dex_laws
use Rattle.ioam_ipfix.specs.Reads as ipfix
use Rattle.ioam_ipfix.proofs.ReadsLaws as ipfix_laws
use Rattle.ioam_run_answer.specs.declared.outcome.Outcome.{Outcome}
use Rattle.ioam_run_answer.specs.declared.outcome.Outcome.TheVariants as outcome
use Rattle.ioam_run_answer.proofs.AskedLaws.{Asks, Causes, exact}
use Rattle.ioam_run_answer.proofs.RanLaws.{held_map}
use Rattle.ioam_run_ipfix.specs.Exports.{IsExports, IsLong}
use Rattle.ioam_run_ipfix.specs.Messages.{IsMessages, IsCrowded, IsFull}
use Rattle.ioam_run_ipfix.specs.Promise.{IpfixAsked, IpfixCause, RecordsAsked, RecordsCause}
use Rattle.ioam_run_ipfix.proofs.ExportsLaws.{long_or_few}
use Rattle.ioam_run_ipfix.proofs.MessagesLaws.{full_or_within, crowded_or_within, full_or_crowded}

both_held : (o : Option (List ℕ)) (P Q : List ℕ → Type 0) → IsSomeAnd o P → IsSomeAnd o Q → (octets : List ℕ) × P octets × Q octets
both_held None P Q x y = absurd x
both_held (Some octets) P Q x y = (octets, x, y)

-- both can't be
never_both : (o : Option (List ℕ)) (P Q : List ℕ → Type 0) → ((octets : List ℕ) → P octets → Q octets → ⊥) → IsSomeAnd o P → IsSomeAnd o Q → ⊥
never_both o P Q never x y = let both = both_held o P Q x y in never both.0 both.1 both.2

-- ---- `ipfix`

-- the octets are more records than may be, and this limit says how many may be
abbrev Long : ℕ → List ℕ → Type 0
Long limit octets = (limit ≡ 67108864) × IsLong octets

module _ (tells : Bool) (content : Option (List ℕ)) (input out : List ℕ) where
  limit_long : (limit : ℕ) → limit ≡ 67108864 → (IsTrue tells → IsSomeAnd content IsLong) → IsTrue tells → IsSomeAnd content (Long limit)
  limit_long limit is long told = held_map content IsLong (Long limit) (λ octets so. (is, so)) (long told)

  ipfix_asks : (a : Outcome) → IpfixAsked tells content input out a → Asks tells content input out (λ limit. limit ≡ 67108864) IsExports Long a
  ipfix_asks outcome.Done x = x
  ipfix_asks (outcome.Names name) x = x
  ipfix_asks (outcome.Exports at fault) x = x
  ipfix_asks (outcome.Records limit) x = (x.0, x.1, limit_long limit x.1 x.2)
  ipfix_asks _ x = absurd x

  module _ (told : IsTrue tells) (old_in new_in : Reading) (old new : Writing) where
    ipfix_causes : (answer : Outcome) → IpfixCause tells content input out old_in new_in old new answer
        → Causes tells content input out (λ limit. limit ≡ 67108864) IsExports Long old_in new_in old new answer
    ipfix_causes outcome.Done x = x
    ipfix_causes (outcome.Names name) x = x
    ipfix_causes (outcome.Exports at fault) x = x
    ipfix_causes (outcome.Records limit) x = (x.0, x.1, limit_long limit x.1 x.2)
    ipfix_causes outcome.ReadFault x = x
    ipfix_causes outcome.WriteFault x = x
    ipfix_causes outcome.NoMemory x = x
    ipfix_causes _ x = absurd x

    -- what is asked for is answered, unless a call failed or no memory could be had
    pub ipfix-exact : (answer asked : Outcome) → IpfixCause tells content input out old_in new_in old new answer → IpfixAsked tells content input out asked
        → (Rose old_in.side.faults new_in.side.faults → ⊥) → (Rose old.side.faults new.side.faults → ⊥) → (answer ≡ asked) ⊎ (answer ≡ outcome.NoMemory)
    ipfix-exact answer asked cause asks = exact tells content input out (λ limit. limit ≡ 67108864) IsExports Long told
        (λ octets d e x y. (dex_laws.Reads-unique octets x.records y.records d e x.reads y.reads).1)
        (λ octets limit d x. long_or_few d octets x.1)
        (λ octets a b x y. x.0 ∙ sym y.0)
        old_in new_in old new answer asked (ipfix_causes answer cause) (ipfix_asks asked asks)

-- ---- `records`

-- the answer of IN that ends so
abbrev records_of : ipfix.Ending → Outcome
records_of ipfix.Whole = outcome.Done
records_of (ipfix.Faulty at fault) = outcome.Ipfix at fault

end_once : (content : Option (List ℕ)) (d e : ipfix.Ending) → IsSomeAnd content (IsMessages d) → IsSomeAnd content (IsMessages e) → d ≡ e
end_once content d e x y =
    let both = both_held content (IsMessages d) (IsMessages e) x y in
    (ipfix_laws.Reads-unique both.0 both.1.messages both.2.messages d e both.1.reads both.2.reads).1

full_or : (content : Option (List ℕ)) (d : ipfix.Ending) → IsSomeAnd content IsFull → IsSomeAnd content (IsMessages d) → ⊥
full_or content d = never_both content IsFull (IsMessages d) (λ octets. full_or_within octets d)

crowded_or : (content : Option (List ℕ)) (d : ipfix.Ending) → IsSomeAnd content IsCrowded → IsSomeAnd content (IsMessages d) → ⊥
crowded_or content d = never_both content IsCrowded (IsMessages d) (λ octets. crowded_or_within octets d)

one_limit : (content : Option (List ℕ)) → IsSomeAnd content IsFull → IsSomeAnd content IsCrowded → ⊥
one_limit content = never_both content IsFull IsCrowded full_or_crowded

module _ (tells : Bool) (content : Option (List ℕ)) (input out : List ℕ) (told : IsTrue tells) where
  -- the answers that may be asked for: IN ends so, has too many records, too many messages, or the names are equal
  abbrev Read : Outcome → Type 0
  Read a = (ending : ipfix.Ending) × (a ≡ records_of ending) × (input ≢ out) × IsSomeAnd content (IsMessages ending)

  abbrev Full : Outcome → Type 0
  Full a = (a ≡ outcome.Records 67108864) × (input ≢ out) × IsSomeAnd content IsFull

  abbrev Crowded : Outcome → Type 0
  Crowded a = (a ≡ outcome.Packets 67108865) × (input ≢ out) × IsSomeAnd content IsCrowded

  abbrev Alike : Outcome → Type 0
  Alike a = (a ≡ outcome.Names out) × (input ≡ out)

  abbrev View : Outcome → Type 0
  View a = Read a ⊎ (Full a ⊎ (Crowded a ⊎ Alike a))

  records_view : (a : Outcome) → RecordsAsked tells content input out a → View a
  records_view outcome.Done x = inl (ipfix.Whole, refl, x.0, x.1 told)
  records_view (outcome.Ipfix at fault) x = inl (ipfix.Faulty at fault, refl, x.0, x.1 told)
  records_view (outcome.Records limit) x = inr (inl (ap outcome.Records x.1, x.0, x.2 told))
  records_view (outcome.Packets limit) x = inr (inr (inl (ap outcome.Packets x.1, x.0, x.2 told)))
  records_view (outcome.Names name) x = inr (inr (inr (ap outcome.Names x.1, x.0)))
  records_view (outcome.Exports at fault) x = absurd x
  records_view outcome.Usage x = absurd x
  records_view (outcome.Domain why) x = absurd x
  records_view (outcome.Readings why) x = absurd x
  records_view (outcome.Capture name at fault) x = absurd x
  records_view (outcome.Part name at fault) x = absurd x
  records_view outcome.ReadFault x = absurd x
  records_view outcome.WriteFault x = absurd x
  records_view outcome.NoMemory x = absurd x

  records_same : (a b : Outcome) → View a → View b → a ≡ b
  records_same a b (inl x) (inl y) = x.1 ∙ ap records_of (end_once content x.0 y.0 x.3 y.3) ∙ sym y.1
  records_same a b (inl x) (inr (inl y)) = absurd (full_or content x.0 y.2 x.3)
  records_same a b (inl x) (inr (inr (inl y))) = absurd (crowded_or content x.0 y.2 x.3)
  records_same a b (inl x) (inr (inr (inr y))) = absurd (x.2 y.1)
  records_same a b (inr (inl x)) (inl y) = absurd (full_or content y.0 x.2 y.3)
  records_same a b (inr (inl x)) (inr (inl y)) = x.0 ∙ sym y.0
  records_same a b (inr (inl x)) (inr (inr (inl y))) = absurd (one_limit content x.2 y.2)
  records_same a b (inr (inl x)) (inr (inr (inr y))) = absurd (x.1 y.1)
  records_same a b (inr (inr (inl x))) (inl y) = absurd (crowded_or content y.0 x.2 y.3)
  records_same a b (inr (inr (inl x))) (inr (inl y)) = absurd (one_limit content y.2 x.2)
  records_same a b (inr (inr (inl x))) (inr (inr (inl y))) = x.0 ∙ sym y.0
  records_same a b (inr (inr (inl x))) (inr (inr (inr y))) = absurd (x.1 y.1)
  records_same a b (inr (inr (inr x))) (inl y) = absurd (y.2 x.1)
  records_same a b (inr (inr (inr x))) (inr (inl y)) = absurd (y.1 x.1)
  records_same a b (inr (inr (inr x))) (inr (inr (inl y))) = absurd (y.1 x.1)
  records_same a b (inr (inr (inr x))) (inr (inr (inr y))) = x.0 ∙ sym y.0

  pub records-unique : (a b : Outcome) → RecordsAsked tells content input out a → RecordsAsked tells content input out b → a ≡ b
  records-unique a b x y = records_same a b (records_view a x) (records_view b y)

  -- what is asked for is answered, unless a call failed or no memory could be had
  pub records-exact : (old_in new_in : Reading) (old new : Writing) (answer asked : Outcome)
      → RecordsCause tells content input out old_in new_in old new answer → RecordsAsked tells content input out asked
      → (Rose old_in.side.faults new_in.side.faults → ⊥) → (Rose old.side.faults new.side.faults → ⊥)
      → (answer ≡ asked) ⊎ (answer ≡ outcome.NoMemory)
  records-exact old_in new_in old new outcome.ReadFault asked cause asks reads writes = absurd (reads cause)
  records-exact old_in new_in old new outcome.WriteFault asked cause asks reads writes = absurd (writes cause)
  records-exact old_in new_in old new outcome.NoMemory asked cause asks reads writes = inr refl
  records-exact old_in new_in old new outcome.Done asked cause asks reads writes = inl (records-unique outcome.Done asked cause asks)
  records-exact old_in new_in old new (outcome.Names name) asked cause asks reads writes = inl (records-unique (outcome.Names name) asked cause asks)
  records-exact old_in new_in old new (outcome.Records limit) asked cause asks reads writes = inl (records-unique (outcome.Records limit) asked cause asks)
  records-exact old_in new_in old new (outcome.Ipfix at fault) asked cause asks reads writes = inl (records-unique (outcome.Ipfix at fault) asked cause asks)
  records-exact old_in new_in old new (outcome.Packets limit) asked cause asks reads writes = inl (records-unique (outcome.Packets limit) asked cause asks)
  records-exact old_in new_in old new (outcome.Exports at fault) asked cause asks reads writes = absurd cause
  records-exact old_in new_in old new outcome.Usage asked cause asks reads writes = absurd cause
  records-exact old_in new_in old new (outcome.Domain why) asked cause asks reads writes = absurd cause
  records-exact old_in new_in old new (outcome.Readings why) asked cause asks reads writes = absurd cause
  records-exact old_in new_in old new (outcome.Capture name at fault) asked cause asks reads writes = absurd cause
  records-exact old_in new_in old new (outcome.Part name at fault) asked cause asks reads writes = absurd cause
