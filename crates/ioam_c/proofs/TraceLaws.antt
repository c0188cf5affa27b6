-- The oldest element of a trace, and the trace cut before it.
use Rattle.std.proofs.Common.{◌≡◌, ℕ, ◌+◌, ◌*◌, ◌-◌, ◌<◌, ◌≤◌, List, [], ◌∷◌, ◌++◌, length, take, drop, get_or, reverse, Option, Some, None, arith, refl, sym, ap, ◌∙◌, subst}
use Rattle.std.specs.Borrow.{Bor}
use Rattle.std.specs.Option.{ForSome, MatchOption}
use Rattle.std.specs.List.{All, slice_get}
use Rattle.std.proofs.lemmas.List.Elements.{All-head}
use Rattle.std.proofs.lemmas.List.{length-drop, length-take-le, drop-take, drop-drop, take_all, reverse-append, get_or-take}
use Rattle.ioam_base.specs.Leads.{Leads}
use Rattle.ioam_trace.specs.Area.{behind, element_at, Runs, Holds}
use Rattle.ioam_data.specs.Elements.{Stands, IsElement}
use Rattle.ioam_data.specs.Fields.{fields_of}
use Rattle.ioam_trace.specs.Head.{remaining_of}
use Rattle.ioam_trace.specs.Read.{Carries, TraceOf, IsHead, used_behind}
use Rattle.ioam_trace.specs.declared.head.TraceHead.{TraceHead}
use Rattle.ioam_trace.proofs.AreaLaws.{Runs-take}
use Rattle.ioam_c.specs.Element.{shown, Places}
use Rattle.ioam_c.proofs.ElementLaws.{places}
use Rattle.ioam_c.specs.Trace.{Gives, IsOldest, octets_of}
use Rattle.ioam_c.specs.declared.element.IoamElement.{IoamElement}

module _ {Place Thing : Type 0} (CanPass : Place → Type 0) (thing : Place → Thing) (behind : Place → Place) where
  -- the last thing stands by itself
  Leads-last : (a : Place) (xs : List Thing) (x : Thing) (c : Place) → Leads CanPass thing behind a (xs ++ x ∷ []) c
      → (b : Place) × Leads CanPass thing behind a xs b × CanPass b × (x ≡ thing b) × (behind b ≡ c)
  Leads-last a [] x c leads = (a, refl, leads.0, leads.1, leads.2)
  Leads-last a (y ∷ ys) x c leads =
      let more = Leads-last (behind a) ys x c leads.2 in
      (more.0, (leads.0, leads.1, more.1), more.2, more.3, more.4)

-- the first octets of a trace begin with its header
IsHead-take : (octets : List ℕ) (head : TraceHead) (n : ℕ) → 8 ≤ n → IsHead octets head → IsHead (take n octets) head
IsHead-take octets head n long is =
    let octet : (i : ℕ) → i < 8 → get_or (take n octets) i 0 ≡ get_or octets i 0 = λ i small. let within : i < n = omega arith in rw get_or-take refl in
    let zeroth = octet 0 (omega arith) in
    let first = octet 1 (omega arith) in
    let second = octet 2 (omega arith) in
    let third = octet 3 (omega arith) in
    let fourth = octet 4 (omega arith) in
    let fifth = octet 5 (omega arith) in
    let sixth = octet 6 (omega arith) in
    let seventh = octet 7 (omega arith) in
    record {
      namespace = is.namespace ∙ (cc);
      node_len = is.node_len ∙ (cc);
      flags = is.flags ∙ (cc);
      remaining = is.remaining ∙ (cc);
      kind = is.kind ∙ (cc);
      reserved = is.reserved ∙ sym seventh;
    }

-- the oldest element of a trace is the last of its octets, and those before it are a trace that holds the others
pub record Oldest (free : ℕ) (octets : List ℕ) (head : TraceHead) (oldest : List ℕ) (others : List (List ℕ)) : Type 0 where
  pub fits : length oldest ≤ length octets
  pub is : drop (length octets - length oldest) octets ≡ oldest
  pub rest : Carries free (take (length octets - length oldest) octets) head others

module _ (free : ℕ) (octets : List ℕ) (head : TraceHead) (oldest : List ℕ) (others : List (List ℕ)) (carries : Carries free octets head (oldest ∷ others)) where
  abbrev used : List ℕ
  used = used_behind free octets

  abbrev At : Type 0
  At = (b : ℕ) × Runs head.kind head.node_len used 0 (reverse others) b × Stands head.kind head.node_len used b
      × (oldest ≡ element_at head.kind head.node_len used b) × (behind head.kind head.node_len used b ≡ length used)

  at : At
  at =
      let P : List (List ℕ) → Type 0 = λ xs. Runs head.kind head.node_len used 0 xs (length used) in
      let runs : Runs head.kind head.node_len used 0 (reverse others ++ oldest ∷ []) (length used) = subst P (reverse-append (oldest ∷ []) others) carries.holds in
      Leads-last (Stands head.kind head.node_len used) (element_at head.kind head.node_len used) (behind head.kind head.node_len used) 0 (reverse others) oldest (length used) runs

  -- it is what follows its place
  oldest_is : (here : At) → oldest ≡ drop here.0 used
  oldest_is here =
      let size = length-drop here.0 used in
      here.3 ∙ take_all (behind head.kind head.node_len used here.0 - here.0) (drop here.0 used) (omega (arith, here.4))

  cut : (here : At) → Carries free (take (8 + 4 * free + here.0) octets) head others
  cut here =
      let inside = here.2.inside in
      let long = length-drop (8 + 4 * free) octets in
      let within : 8 + 4 * free + here.0 ≤ length octets = omega (arith, carries.space, here.4) in
      let size = length-take-le (8 + 4 * free + here.0) octets within in
      let front : used_behind free (take (8 + 4 * free + here.0) octets) ≡ take here.0 used = drop-take (8 + 4 * free) here.0 octets in
      let runs = Runs-take head.kind head.node_len used 0 (reverse others) here.0 here.1 (omega (arith, here.4)) in
      let short = length-take-le here.0 used (omega (arith, here.4)) in
      let P : ℕ → Type 0 = λ n. Runs head.kind head.node_len (take here.0 used) 0 (reverse others) n in
      let Q : List ℕ → Type 0 = λ xs. Holds head.kind head.node_len xs others in
      record {
        begins = omega arith;
        is_head = IsHead-take octets head (8 + 4 * free + here.0) (omega arith) carries.is_head;
        fits = carries.fits;
        space = omega arith;
        holds = subst Q (sym front) (subst P (sym short) runs);
      }

  by : At → Oldest free octets head oldest others
  by here =
      let is = oldest_is here in
      let size : length oldest ≡ length used - here.0 = ap length is ∙ length-drop here.0 used in
      let long = length-drop (8 + 4 * free) octets in
      let place : 8 + 4 * free + here.0 ≡ length octets - length oldest = omega (arith, carries.space, here.2.inside) in
      let P : ℕ → Type 0 = λ n. drop n octets ≡ oldest in
      let Q : ℕ → Type 0 = λ n. Carries free (take n octets) head others in
      record {
        fits = omega (arith, carries.space);
        is = subst P place (sym (drop-drop here.0 (8 + 4 * free) octets) ∙ sym is);
        rest = subst Q place (cut here);
      }

  pub Oldest-Carries : Oldest free octets head oldest others
  Oldest-Carries = by at

-- ---- what a call gives

-- an element that was found is given
pub Gives-oldest : (free : ℕ) (octets : List ℕ) (head : TraceHead) (elements : List (List ℕ)) (oldest : List ℕ) (cursor : ℕ) (old : IoamElement) (next : ℕ) (new : IoamElement) (status : ℕ)
    → Carries free octets head elements → IsOldest elements (Some oldest) → IsElement head.kind head.node_len oldest
    → status ≡ 0 → next ≡ length octets - length oldest → new ≡ shown head.kind head.node_len next oldest
    → Gives free octets head elements cursor old next new status
Gives-oldest free octets head [] oldest cursor old next new status carries is whole done place value = absurd (cc is)
Gives-oldest free octets head (x ∷ xs) oldest cursor old next new status carries is whole done place value =
    let same : x ≡ oldest = cc in
    let all = Oldest-Carries free octets head x xs carries in
    let here : next ≡ length octets - length x = place ∙ ap (λ (o : List ℕ). length octets - length o) (sym same) in
    let P : ℕ → Type 0 = λ n. drop n octets ≡ x in
    let Q : ℕ → Type 0 = λ n. Carries free (take n octets) head xs in
    let value_is = value ∙ ap (λ (o : List ℕ). shown head.kind head.node_len next o) (sym same) in
    let ends : next + length x ≡ length octets = omega (arith, all.fits) in
    let last : drop next octets ≡ x = subst P (sym here) all.is in
    let R : List ℕ → Type 0 = λ o. IsElement head.kind head.node_len o in
    let S : IoamElement → Type 0 = λ e. Places octets e (fields_of head.kind head.node_len x) in
    let placed = subst S (sym value_is) (places head.kind head.node_len next octets x (subst R (sym same) whole) last) in
    (done, (ends, (last, (subst Q (sym here) all.rest, (value_is, placed)))))

some_same : {T : Type 0} (x y : T) → Some x ≡ Some y → x ≡ y
some_same x y is = cc

-- what the next call of an iterator gives is the first of what it has left
module _ (elements rest : List (List ℕ)) where
  pub found_first : (found : Option (Bor (List ℕ))) → MatchOption found ((elements ≡ []) × (rest ≡ [])) (λ x. elements ≡ x.now ∷ rest)
      → IsOldest elements (octets_of found)
  found_first None none = ap (λ (xs : List (List ℕ)). slice_get xs 0) none.0
  found_first (Some x) first = ap (λ (xs : List (List ℕ)). slice_get xs 0) first

  pub found_fits : (free : ℕ) (octets : List ℕ) (head : TraceHead) (found : Option (Bor (List ℕ))) → Carries free octets head elements
      → MatchOption found ((elements ≡ []) × (rest ≡ [])) (λ x. elements ≡ x.now ∷ rest)
      → ForSome found (λ x. length x.now ≤ length octets)
  found_fits free octets head None carries none = λ y is. absurd (cc is)
  found_fits free octets head (Some x) carries first =
      let P : List (List ℕ) → Type 0 = λ xs. Carries free octets head xs in
      let Q : Bor (List ℕ) → Type 0 = λ y. length y.now ≤ length octets in
      λ y is. subst Q (some_same x y is) (Oldest-Carries free octets head x.now rest (subst P first carries)).fits

  pub found_whole : (kind node_len : ℕ) (found : Option (Bor (List ℕ))) → All (IsElement kind node_len) elements
      → MatchOption found ((elements ≡ []) × (rest ≡ [])) (λ x. elements ≡ x.now ∷ rest)
      → ForSome found (λ x. IsElement kind node_len x.now)
  found_whole kind node_len None all none = λ y is. absurd (cc is)
  found_whole kind node_len (Some x) all first =
      let P : List (List ℕ) → Type 0 = λ xs. All (IsElement kind node_len) xs in
      let Q : Bor (List ℕ) → Type 0 = λ y. IsElement kind node_len y.now in
      λ y is. subst Q (some_same x y is) (All-head (IsElement kind node_len) x.now rest (subst P first all))

-- a pre-allocated trace has the free words that its RemainingLen says
pub by_remaining : (octets : List ℕ) (head : TraceHead) (elements : List (List ℕ)) → TraceOf octets head elements → Carries (remaining_of octets) octets head elements
by_remaining octets head elements trace =
    let P : ℕ → Type 0 = λ free. Carries free octets head elements in
    subst P trace.is_head.remaining trace

-- the octets of an element that is there
pub is_here : (octets : Bor (List ℕ)) (oldest : Option (Bor (List ℕ))) → oldest ≡ Some octets → (elements : List (List ℕ)) → IsOldest elements (octets_of oldest)
    → IsOldest elements (Some octets.now)
is_here octets oldest is elements first =
    let P : Option (Bor (List ℕ)) → Type 0 = λ o. IsOldest elements (octets_of o) in
    subst P is first
