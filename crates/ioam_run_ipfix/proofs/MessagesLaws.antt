-- Which messages stand at the front of octets.
use Rattle.std.proofs.Common.{◌≡◌, ℕ, ◌≤◌, ◌⊎◌, List, [], ◌∷◌, ◌++◌, length, length-append, refl, sym, ap, ◌∙◌, subst, inl, inr, append_assoc, append-nil, arith}
use Rattle.ioam_base.specs.Chain.{Chain, Stops}
use Rattle.ioam_dex.specs.Record.{Record}
use Rattle.ioam_ipfix.specs.declared.fault.IpfixFault.{IpfixFault}
use Rattle.ioam_ipfix.specs.Messages.{joined, MessagePasses}
use Rattle.ioam_ipfix.specs.Faults.{HasMessageFault}
use Rattle.ioam_ipfix.specs.Reads.{Ending, Whole, Faulty, IsShort, EndsAt, Reads}
use Rattle.ioam_ipfix.specs.Sets.{Spot, spot}
use Rattle.ioam_ipfix.specs.Templates.{none_known}
use Rattle.ioam_ipfix.proofs.MessageLaws.{message-functional, fault-stops, cut-stops}
use Rattle.ioam_ipfix.proofs.ReadsLaws.{nothing-stops}
use Rattle.ioam_run_ipfix.specs.Messages.{IsMessages, IsCrowded, IsFull}

pub joined-append : (xss yss : List (List Record)) → joined (xss ++ yss) ≡ joined xss ++ joined yss
joined-append [] yss = refl
joined-append (xs ∷ xss) yss = ap (λ zs. xs ++ zs) (joined-append xss yss) ∙ sym (append_assoc xs (joined xss) (joined yss))

pub joined-longer : (xss yss : List (List Record)) → length (joined xss) ≤ length (joined (xss ++ yss))
joined-longer xss yss =
    let same = ap length (joined-append xss yss) in
    let size = length-append (joined xss) (joined yss) in
    omega (arith, same, size)

-- of two lists of messages from one place on one is a front of the other
pub compare : (a : Spot) (xs : List (List Record)) (b : Spot) (ys : List (List Record)) (c : Spot) → Chain MessagePasses a xs b → Chain MessagePasses a ys c
    → ((more : List (List Record)) × (ys ≡ xs ++ more) × Chain MessagePasses b more c)
    ⊎ ((next : List Record) × (more : List (List Record)) × (xs ≡ ys ++ next ∷ more) × Chain MessagePasses c (next ∷ more) b)
compare a [] b ys c here there = inl (ys, refl, subst (λ p. Chain MessagePasses p ys c) here there)
compare a (x ∷ xs) b [] c leads here = inr (x, xs, refl, subst (λ p. Chain MessagePasses p (x ∷ xs) b) here leads)
compare a (x ∷ xs) b (y ∷ ys) c (m, first, rest) (n, other, others) =
    let same : (x ≡ y) × (m ≡ n) = message-functional a x m y n first other in
    let behind : Chain MessagePasses m ys c = subst (λ p. Chain MessagePasses p ys c) (sym same.1) others in
    elim (compare m xs b ys c rest behind) [
      | inl (more, is, leads) ↦ inl (more, ap (λ z. z ∷ ys) (sym same.0) ∙ ap (λ zs. x ∷ zs) is, leads)
      | inr (next, more, is, leads) ↦ inr (next, more, ap (λ z. z ∷ xs) same.0 ∙ ap (λ zs. y ∷ zs) is, leads)
    ]

-- up to where nothing stands all others are a front
pub stop-front : (a : Spot) (xs : List (List Record)) (b : Spot) (ys : List (List Record)) (c : Spot) → Chain MessagePasses a xs b → Stops MessagePasses b → Chain MessagePasses a ys c
    → (more : List (List Record)) × (xs ≡ ys ++ more)
stop-front a xs b ys c leads stops others = elim (compare a xs b ys c leads others) [
  | inl ([], is, rest) ↦ ([], sym (is ∙ append-nil xs) ∙ sym (append-nil ys))
  | inl (m ∷ more, is, (n, first, rest)) ↦ absurd (stops m n first)
  | inr (next, more, is, rest) ↦ (next ∷ more, is)
]

-- a list that goes on behind another has it in front of its last
behind_front : (xs ys : List (List Record)) (y m : List Record) (ms : List (List Record)) → ys ++ y ∷ [] ≡ xs ++ m ∷ ms → (more : List (List Record)) × (ys ≡ xs ++ more)
behind_front [] ys y m ms same = (ys, refl)
behind_front (x ∷ xs) [] y m ms same =
    let sizes : 1 ≡ length ((x ∷ xs) ++ m ∷ ms) = ap length same in
    let size = length-append (x ∷ xs) (m ∷ ms) in
    absurd (omega (arith, sizes, size))
behind_front (x ∷ xs) (z ∷ ys) y m ms same =
    let head : z ≡ x = cc in
    let rest = behind_front xs ys y m ms (cc) in
    (rest.0, ap (λ w. w ∷ ys) head ∙ ap (λ ws. x ∷ ws) rest.1)

faulty-stops : (rest : Spot) (f : IpfixFault) → HasMessageFault rest f ⊎ IsShort rest.octets f → Stops MessagePasses rest
faulty-stops rest f (inl bad) = fault-stops rest f bad
faulty-stops rest f (inr short) = cut-stops rest short.0

ends-stops : (at : ℕ) (rest : Spot) (d : Ending) → EndsAt at rest d → Stops MessagePasses rest
ends-stops at rest Whole none = nothing-stops rest none
ends-stops at rest (Faulty place f) ends = faulty-stops rest f ends.1

module _ (octets : List ℕ) where
  -- messages that end are all that there are
  reads-front : (ending : Ending) (messages others : List (List Record)) (rest : Spot) → Reads octets messages ending → Chain MessagePasses (spot none_known octets) others rest
      → (more : List (List Record)) × (messages ≡ others ++ more)
  reads-front ending messages others rest reads leads =
      stop-front (spot none_known octets) messages reads.rest others rest reads.leads (ends-stops _ reads.rest ending reads.ends) leads

  pub full_or_within : (ending : Ending) → IsFull octets → IsMessages ending octets → ⊥
  full_or_within ending full within =
      let front = reads-front ending within.messages full.messages full.rest within.reads full.begins in
      let longer = joined-longer full.messages front.0 in
      let same = ap (λ xss. length (joined xss)) front.1 in
      omega (arith, longer, same, full.more, within.within.few_records)

  pub crowded_or_within : (ending : Ending) → IsCrowded octets → IsMessages ending octets → ⊥
  crowded_or_within ending crowded within =
      let front = reads-front ending within.messages (crowded.messages ++ crowded.next ∷ []) crowded.rest within.reads crowded.begins in
      let size = ap length front.1 in
      let parts = length-append (crowded.messages ++ crowded.next ∷ []) front.0 in
      let most = length-append crowded.messages (crowded.next ∷ []) in
      omega (arith, size, parts, most, crowded.all, within.within.few_messages)

  pub full_or_crowded : IsFull octets → IsCrowded octets → ⊥
  full_or_crowded full crowded = elim (compare (spot none_known octets) full.messages full.rest (crowded.messages ++ crowded.next ∷ []) crowded.rest full.begins crowded.begins) [
    | inl ([], is, rest) ↦
        let size = ap length is in
        let parts = length-append full.messages [] in
        let most = length-append crowded.messages (crowded.next ∷ []) in
        omega (arith, size, parts, most, full.few, crowded.all)
    | inl (m ∷ more, is, rest) ↦
        let front = behind_front full.messages crowded.messages crowded.next m more is in
        let longer = joined-longer full.messages front.0 in
        let same = ap (λ xss. length (joined xss)) front.1 in
        omega (arith, longer, same, full.more, crowded.few)
    | inr (next, more, is, rest) ↦
        let size = ap length is in
        let parts = length-append (crowded.messages ++ crowded.next ∷ []) (next ∷ more) in
        let most = length-append crowded.messages (crowded.next ∷ []) in
        omega (arith, size, parts, most, full.few, crowded.all)
  ]
