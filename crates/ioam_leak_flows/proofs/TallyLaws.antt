-- The counts of flows, with one packet more.
use Rattle.std.proofs.Common.{◌≡◌, ◌⊎◌, inl, inr, ℕ, zero, suc, ◌+◌, ◌-◌, ◌^◌, ◌<◌, ◌≤◌, min, Bool, true, false, cond, not, ◌&&◌, List, [], ◌∷◌, ◌++◌, Some, None, length, take, filter, map, eqb, nat_lt, refl, sym, ap, ◌∙◌, subst, arith}
use Rattle.std.specs.Bool.{MatchBool, ⊤}
use Rattle.std.specs.Map.{lookup}
use Rattle.std.proofs.lemmas.Bool.Decides.{nat_tests}
use Rattle.std.proofs.lemmas.List.{append-nil, length-append, length-map, length-take-le, map-append, take_all, take-append-le}
use Rattle.std.proofs.lemmas.List.Elements.{filter-append}
use Rattle.std.proofs.Math.Nat.{min-eq_left}
use mathlib.Core.Bool.{beq}
use Rattle.indexmap.specs.IndexMap.{insert_entry}
use Rattle.ioam_leak_flows.specs.Tally.{same, distinct, count_of, counted, tally}
use Rattle.ioam_leak_flows.specs.declared.flow.Flow.{Flow}

beq_is : (a b : Bool) → beq a b ≡ true → a ≡ b
beq_is true true is = refl
beq_is true false is = absurd (cc is)
beq_is false true is = absurd (cc is)
beq_is false false is = refl

beq_itself : (a : Bool) → beq a a ≡ true
beq_itself true = refl
beq_itself false = refl

all_three : (a b c : Bool) → (a && (b && c)) ≡ true → (a ≡ true) × (b ≡ true) × (c ≡ true)
all_three true true true is = (refl, refl, refl)
all_three true true false is = absurd (cc is)
all_three true false c is = absurd (cc is)
all_three false b c is = absurd (cc is)

nat_is : (m n : ℕ) → eqb m n ≡ true → m ≡ n
nat_is m n is = grind (arith, nat_tests)

nat_itself : (n : ℕ) → eqb n n ≡ true
nat_itself n = grind (arith, nat_tests)

-- flows that are found to be one are
pub same_is : (a b : Flow) → same a b ≡ true → a ≡ b
same_is a b is =
    let three = all_three (eqb a.source b.source) (eqb a.target b.target) (beq a.quotes b.quotes) is in
    parts (nat_is a.source b.source three.0) (nat_is a.target b.target three.1) (beq_is a.quotes b.quotes three.2) where
      parts : a.source ≡ b.source → a.target ≡ b.target → a.quotes ≡ b.quotes → a ≡ b
      parts source target quotes = λ i. record { source = source i; target = target i; quotes = quotes i }

three_true : (a b c : Bool) → a ≡ true → b ≡ true → c ≡ true → (a && (b && c)) ≡ true
three_true true true true x y z = refl
three_true true true false x y z = z
three_true true false c x y z = y
three_true false b c x y z = x

pub same_itself : (a : Flow) → same a a ≡ true
same_itself a = three_true (eqb a.source a.source) (eqb a.target a.target) (beq a.quotes a.quotes) (nat_itself a.source) (nat_itself a.target) (beq_itself a.quotes)

by_case : (b : Bool) → (b ≡ true → ⊥) → b ≡ false
by_case true never = absurd (never refl)
by_case false never = refl

-- whichever comes first
same_turned : (a b : Flow) → same a b ≡ false → same b a ≡ false
same_turned a b other = by_case (same b a) (λ is. absurd (cc (other, subst (λ (f : Flow). same f b ≡ true) (same_is b a is) (same_itself b))))

-- no flow of these is this one
abbrev Lacks : Flow → List Flow → Type 0
Lacks z [] = ⊤
Lacks z (f ∷ fs) = (same z f ≡ false) × Lacks z fs

-- one of these at most is this one
abbrev Once : Flow → List Flow → Type 0
Once z [] = ⊤
Once z (f ∷ fs) = MatchBool (same z f) (Lacks z fs) (Once z fs)

once_of_lacks : (z : Flow) (fs : List Flow) → Lacks z fs → Once z fs
once_of_lacks z [] lacks = tt
once_of_lacks z (f ∷ fs) lacks = subst (λ (b : Bool). MatchBool b (Lacks z fs) (Once z fs)) (sym lacks.0) (once_of_lacks z fs lacks.1)

lacks_filter_by : (z f : Flow) (fs kept : List Flow) (b : Bool) → same z f ≡ false → Lacks z kept → Lacks z (cond b (f ∷ kept) kept)
lacks_filter_by z f fs kept true other lacks = (other, lacks)
lacks_filter_by z f fs kept false other lacks = lacks

Lacks-filter : (test : Flow → Bool) (z : Flow) (fs : List Flow) → Lacks z fs → Lacks z (filter test fs)
Lacks-filter test z [] lacks = tt
Lacks-filter test z (f ∷ fs) lacks = lacks_filter_by z f fs (filter test fs) (test f) lacks.0 (Lacks-filter test z fs lacks.1)

Lacks-take : (n : ℕ) (z : Flow) (fs : List Flow) → Lacks z fs → Lacks z (take n fs)
Lacks-take zero z fs lacks = tt
Lacks-take (suc n) z [] lacks = tt
Lacks-take (suc n) z (f ∷ fs) lacks = (lacks.0, Lacks-take n z fs lacks.1)

once_filter_by : (z f : Flow) (kept : List Flow) (b c : Bool) → same z f ≡ c → (c ≡ true → Lacks z kept) → (c ≡ false → Once z kept) → Once z (cond b (f ∷ kept) kept)
once_filter_by z f kept true true is lacks once = subst (λ (b : Bool). MatchBool b (Lacks z kept) (Once z kept)) (sym is) (lacks refl)
once_filter_by z f kept true false is lacks once = subst (λ (b : Bool). MatchBool b (Lacks z kept) (Once z kept)) (sym is) (once refl)
once_filter_by z f kept false true is lacks once = once_of_lacks z kept (lacks refl)
once_filter_by z f kept false false is lacks once = once refl

Once-filter : (test : Flow → Bool) (z : Flow) (fs : List Flow) → Once z fs → Once z (filter test fs)
Once-filter test z [] once = tt
Once-filter test z (f ∷ fs) once = once_filter_by z f (filter test fs) (test f) (same z f) refl
    (λ is. Lacks-filter test z fs (subst (λ (b : Bool). MatchBool b (Lacks z fs) (Once z fs)) is once))
    (λ is. Once-filter test z fs (subst (λ (b : Bool). MatchBool b (Lacks z fs) (Once z fs)) is once))

take_by : (n : ℕ) (z : Flow) (fs : List Flow) (b : Bool) → (Once z fs → Once z (take n fs)) → MatchBool b (Lacks z fs) (Once z fs)
    → MatchBool b (Lacks z (take n fs)) (Once z (take n fs))
take_by n z fs true rest lacks = Lacks-take n z fs lacks
take_by n z fs false rest once = rest once

Once-take : (n : ℕ) (z : Flow) (fs : List Flow) → Once z fs → Once z (take n fs)
Once-take zero z fs once = tt
Once-take (suc n) z [] once = tt
Once-take (suc n) z (f ∷ fs) once = take_by n z fs (same z f) (Once-take n z fs) once

-- what is filtered out is another flow
abbrev without : Flow → List Flow → List Flow
without f fs = filter (λ (other : Flow). not (same f other)) fs

without_by : (z f g : Flow) (fs : List Flow) (b : Bool) → same f g ≡ b → same z f ≡ false → (Lacks z (without f fs) → Lacks z fs)
    → Lacks z (cond (not b) (g ∷ without f fs) (without f fs)) → Lacks z (g ∷ fs)
without_by z f g fs true is other more rest = (subst (λ (h : Flow). same z h ≡ false) (same_is f g is) other, more rest)
without_by z f g fs false is other more rest = (rest.0, more rest.1)

lacks_without : (z f : Flow) (fs : List Flow) → same z f ≡ false → Lacks z (without f fs) → Lacks z fs
lacks_without z f [] other lacks = tt
lacks_without z f (g ∷ fs) other lacks = without_by z f g fs (same f g) refl other (lacks_without z f fs other) lacks

itself_by : (f g : Flow) (fs : List Flow) (b : Bool) → same f g ≡ b → Lacks f (without f fs) → Lacks f (cond (not b) (g ∷ without f fs) (without f fs))
itself_by f g fs true is rest = rest
itself_by f g fs false is rest = (is, rest)

lacks_itself : (f : Flow) (fs : List Flow) → Lacks f (without f fs)
lacks_itself f [] = tt
lacks_itself f (g ∷ fs) = itself_by f g fs (same f g) refl (lacks_itself f fs)

-- a flow is among the distinct ones once at most
distinct_by : (z f : Flow) (fs : List Flow) (b : Bool) → same z f ≡ b → Once z fs → MatchBool b (Lacks z (without f fs)) (Once z (without f fs))
distinct_by z f fs true is once = subst (λ (g : Flow). Lacks g (without f fs)) (sym (same_is z f is)) (lacks_itself f fs)
distinct_by z f fs false is once = Once-filter (λ (other : Flow). not (same f other)) z fs once

once_distinct : (z : Flow) (fs : List Flow) → Once z (distinct fs)
once_distinct z [] = tt
once_distinct z (f ∷ fs) = distinct_by z f (distinct fs) (same z f) refl (once_distinct z fs)

count_cons : (z f : Flow) (fs : List Flow) (b : Bool) → same z f ≡ b → count_of (f ∷ fs) z ≡ cond b (1 + count_of fs z) (count_of fs z)
count_cons z f fs true is = ap (λ (b : Bool). length (cond b (f ∷ filter (same z) fs) (filter (same z) fs))) is ∙ omega arith
count_cons z f fs false is = ap (λ (b : Bool). length (cond b (f ∷ filter (same z) fs) (filter (same z) fs))) is

-- a flow of which there is no packet isn't among them
none_by : (z f : Flow) (fs : List Flow) (b : Bool) → same z f ≡ b → count_of (f ∷ fs) z ≡ 0 → (count_of fs z ≡ 0 → Lacks z (distinct fs)) → Lacks z (distinct (f ∷ fs))
none_by z f fs true is none rest = absurd (omega (arith, none, count_cons z f fs true is))
none_by z f fs false is none rest = (is, Lacks-filter (λ (other : Flow). not (same f other)) z (distinct fs) (rest (sym (count_cons z f fs false is) ∙ none)))

lacks_none : (z : Flow) (fs : List Flow) → count_of fs z ≡ 0 → Lacks z (distinct fs)
lacks_none z [] none = tt
lacks_none z (f ∷ fs) none = none_by z f fs (same z f) refl none (lacks_none z fs)

-- and of one that isn't there is none
none_lacks : (z : Flow) (fs : List Flow) → Lacks z (distinct fs) → count_of fs z ≡ 0
none_lacks z [] lacks = refl
none_lacks z (f ∷ fs) lacks = count_cons z f fs false lacks.0 ∙ none_lacks z fs (lacks_without z f (distinct fs) lacks.0 lacks.1)

-- a packet more
push_by : (z f g : Flow) (fs : List Flow) (more : ℕ) (c : Bool) → same f g ≡ c → count_of (fs ++ z ∷ []) f ≡ count_of fs f + more
    → count_of (g ∷ (fs ++ z ∷ [])) f ≡ count_of (g ∷ fs) f + more
push_by z f g fs more true there rest = omega (arith, count_cons f g (fs ++ z ∷ []) true there, count_cons f g fs true there, rest)
push_by z f g fs more false there rest = omega (arith, count_cons f g (fs ++ z ∷ []) false there, count_cons f g fs false there, rest)

count_push : (z f : Flow) (fs : List Flow) (b : Bool) → same f z ≡ b → count_of (fs ++ z ∷ []) f ≡ count_of fs f + cond b 1 0
count_push z f [] true is = count_cons f z [] true is
count_push z f [] false is = count_cons f z [] false is
count_push z f (g ∷ fs) b is = push_by z f g fs (cond b 1 0) (same f g) refl (count_push z f fs b is)

turned : (z f : Flow) (b : Bool) → same z f ≡ b → same f z ≡ b
turned z f true is = subst (λ (g : Flow). same g z ≡ true) (same_is z f is) (same_itself z)
turned z f false is = same_turned z f is

some_not_none : (n : ℕ) → eqb (1 + n) 0 ≡ false
some_not_none n = grind (arith, nat_tests)

last : (z f : Flow) (fs : List Flow) (b : Bool) → same z f ≡ b → (c : Bool) → eqb (count_of fs z) 0 ≡ c
    → filter (λ (other : Flow). not (same f other)) (cond c (z ∷ []) []) ≡ cond (eqb (count_of (f ∷ fs) z) 0) (z ∷ []) []
last z f fs true is true c = ap (λ (b : Bool). cond (not b) (z ∷ []) []) (turned z f true is)
    ∙ sym (ap (λ (n : ℕ). cond (eqb n 0) (z ∷ []) []) (count_cons z f fs true is) ∙ ap (λ (b : Bool). cond b (z ∷ []) []) (some_not_none (count_of fs z)))
last z f fs true is false c =
    sym (ap (λ (n : ℕ). cond (eqb n 0) (z ∷ []) []) (count_cons z f fs true is) ∙ ap (λ (b : Bool). cond b (z ∷ []) []) (some_not_none (count_of fs z)))
last z f fs false is true c = ap (λ (b : Bool). cond (not b) (z ∷ []) []) (turned z f false is)
    ∙ sym (ap (λ (n : ℕ). cond (eqb n 0) (z ∷ []) []) (count_cons z f fs false is) ∙ ap (λ (b : Bool). cond b (z ∷ []) []) c)
last z f fs false is false c = sym (ap (λ (n : ℕ). cond (eqb n 0) (z ∷ []) []) (count_cons z f fs false is) ∙ ap (λ (b : Bool). cond b (z ∷ []) []) c)

distinct_push : (z : Flow) (fs : List Flow) → distinct (fs ++ z ∷ []) ≡ distinct fs ++ cond (eqb (count_of fs z) 0) (z ∷ []) []
distinct_push z [] = refl
distinct_push z (f ∷ fs) =
    ap (λ (gs : List Flow). f ∷ without f gs) (distinct_push z fs)
    ∙ ap (λ (gs : List Flow). f ∷ gs) (filter-append (λ (other : Flow). not (same f other)) (distinct fs) (cond (eqb (count_of fs z) 0) (z ∷ []) []))
    ∙ ap (λ (gs : List Flow). f ∷ (without f (distinct fs) ++ gs)) (last z f fs (same z f) refl (eqb (count_of fs z) 0) refl)

-- the counts of some flows
abbrev counts_of : List Flow → List Flow → List (Flow × ℕ)
counts_of fs ks = map (λ (flow : Flow). (flow, count_of fs flow)) ks

unchanged : (z : Flow) (fs ks : List Flow) → Lacks z ks → counts_of (fs ++ z ∷ []) ks ≡ counts_of fs ks
unchanged z fs [] lacks = refl
unchanged z fs (k ∷ ks) lacks =
    ap (λ (n : ℕ). (k, n) ∷ counts_of (fs ++ z ∷ []) ks) (count_push z k fs false (same_turned z k lacks.0) ∙ omega arith)
    ∙ ap (λ (rows : List (Flow × ℕ)). (k, count_of fs k) ∷ rows) (unchanged z fs ks lacks.1)

-- a flow is looked up
looked_by : (z k : Flow) (fs ks : List Flow) (n : ℕ) (b : Bool) → same z k ≡ b
    → (Once z ks → lookup (same z) (counts_of fs ks) ≡ Some n
    → (n ≡ count_of fs z) × (insert_entry same (counts_of fs ks) z (n + 1) ≡ counts_of (fs ++ z ∷ []) ks))
    → MatchBool b (Lacks z ks) (Once z ks)
    → cond b (Some (count_of fs k)) (lookup (same z) (counts_of fs ks)) ≡ Some n
    → (n ≡ count_of fs z)
    × (cond b ((k, n + 1) ∷ counts_of fs ks) ((k, count_of fs k) ∷ insert_entry same (counts_of fs ks) z (n + 1)) ≡ counts_of (fs ++ z ∷ []) (k ∷ ks))
looked_by z k fs ks n true is rest lacks here =
    let is_k : z ≡ k = same_is z k is in
    let n_is : count_of fs k ≡ n = cc here in (
      sym n_is ∙ ap (λ (f : Flow). count_of fs f) (sym is_k),
      ap (λ (m : ℕ). (k, m) ∷ counts_of fs ks)
          (omega (arith, n_is, count_push z k fs true (subst (λ (f : Flow). same f z ≡ true) is_k (same_itself z))))
          ∙ ap (λ (rows : List (Flow × ℕ)). (k, count_of (fs ++ z ∷ []) k) ∷ rows) (sym (unchanged z fs ks lacks)),
    )
looked_by z k fs ks n false is rest once elsewhere =
    let found = rest once elsewhere in (
      found.0,
      ap (λ (rows : List (Flow × ℕ)). (k, count_of fs k) ∷ rows) found.1
          ∙ ap (λ (m : ℕ). (k, m) ∷ counts_of (fs ++ z ∷ []) ks) (sym (count_push z k fs false (same_turned z k is) ∙ omega arith)),
    )

looked : (z : Flow) (fs ks : List Flow) (n : ℕ) → Once z ks → lookup (same z) (counts_of fs ks) ≡ Some n
    → (n ≡ count_of fs z) × (insert_entry same (counts_of fs ks) z (n + 1) ≡ counts_of (fs ++ z ∷ []) ks)
looked z fs [] n once found = absurd (cc found)
looked z fs (k ∷ ks) n once found = looked_by z k fs ks n (same z k) refl (looked z fs ks n) once found

missing_by : (z k : Flow) (fs ks : List Flow) (b : Bool) → same z k ≡ b → (lookup (same z) (counts_of fs ks) ≡ None → Lacks z ks)
    → cond b (Some (count_of fs k)) (lookup (same z) (counts_of fs ks)) ≡ None → Lacks z (k ∷ ks)
missing_by z k fs ks true is rest some = absurd (cc some)
missing_by z k fs ks false is rest none = (is, rest none)

missing : (z : Flow) (fs ks : List Flow) → lookup (same z) (counts_of fs ks) ≡ None → Lacks z ks
missing z fs [] none = tt
missing z fs (k ∷ ks) none = missing_by z k fs ks (same z k) refl (missing z fs ks) none

absent : (z : Flow) (fs ks : List Flow) (n : ℕ) → Lacks z ks → insert_entry same (counts_of fs ks) z n ≡ counts_of fs ks ++ (z, n) ∷ []
absent z fs [] n lacks = refl
absent z fs (k ∷ ks) n lacks =
    ap (λ (b : Bool). cond b ((k, n) ∷ counts_of fs ks) ((k, count_of fs k) ∷ insert_entry same (counts_of fs ks) z n)) lacks.0
    ∙ ap (λ (rows : List (Flow × ℕ)). (k, count_of fs k) ∷ rows) (absent z fs ks n lacks.1)

found_some : (z : Flow) (fs ks : List Flow) (n : ℕ) → lookup (same z) (counts_of fs ks) ≡ Some n → Lacks z ks → ⊥
found_some z fs [] n found lacks = cc found
found_some z fs (k ∷ ks) n found lacks = found_some z fs ks n
    (sym (ap (λ (b : Bool). cond b (Some (count_of fs k)) (lookup (same z) (counts_of fs ks))) lacks.0) ∙ found) lacks.1

most_by : (z f : Flow) (fs : List Flow) (b : Bool) → same z f ≡ b → count_of fs z ≤ length fs → count_of (f ∷ fs) z ≤ length (f ∷ fs)
most_by z f fs true is rest = omega (arith, count_cons z f fs true is, rest)
most_by z f fs false is rest = omega (arith, count_cons z f fs false is, rest)

count_most : (z : Flow) (fs : List Flow) → count_of fs z ≤ length fs
count_most z [] = omega arith
count_most z (f ∷ fs) = most_by z f fs (same z f) refl (count_most z fs)

either_size : (n : ℕ) → (n < 65536) ⊎ (65536 ≤ n)
either_size n = by_size (nat_lt n 65536) refl where
  by_size : (b : Bool) → nat_lt n 65536 ≡ b → (n < 65536) ⊎ (65536 ≤ n)
  by_size true below = inl (grind (arith, nat_tests))
  by_size false above = inr (grind (arith, nat_tests))

module _ (z : Flow) (fs : List Flow) (es : List (Flow × ℕ)) (are : es ≡ tally fs) where
  counted_same : (count_of fs z ≡ 0 → ⊥) → counted (fs ++ z ∷ []) ≡ counted fs
  counted_same some = ap (λ (gs : List Flow). take 65536 gs) (distinct_push z fs ∙ none (eqb (count_of fs z) 0) refl ∙ append-nil (distinct fs)) where
    none : (b : Bool) → eqb (count_of fs z) 0 ≡ b → distinct fs ++ cond b (z ∷ []) [] ≡ distinct fs ++ []
    none true zero_is = absurd (some (nat_is (count_of fs z) 0 zero_is))
    none false other = refl

  -- a flow that is counted has one packet more
  pub tally_known : (n : ℕ) → lookup (same z) es ≡ Some n → (n ≤ length fs) × (insert_entry same es z (n + 1) ≡ tally (fs ++ z ∷ []))
  tally_known n found =
      let here : lookup (same z) (counts_of fs (counted fs)) ≡ Some n = ap (lookup (same z)) (sym are) ∙ found in
      let is = looked z fs (counted fs) n (Once-take 65536 z (distinct fs) (once_distinct z fs)) here in
      let some : count_of fs z ≡ 0 → ⊥ = λ none. found_some z fs (counted fs) n here (Lacks-take 65536 z (distinct fs) (lacks_none z fs none)) in (
        omega (arith, is.0, count_most z fs),
        ap (λ (rows : List (Flow × ℕ)). insert_entry same rows z (n + 1)) are ∙ is.1 ∙ ap (counts_of (fs ++ z ∷ [])) (sym (counted_same some)),
      )

  lacked : lookup (same z) es ≡ None → Lacks z (counted fs)
  lacked none = missing z fs (counted fs) (ap (lookup (same z)) (sym are) ∙ none)

  sized : length es ≡ length (counted fs)
  sized = ap (λ (rows : List (Flow × ℕ)). length rows) are ∙ length-map (counted fs) (λ (flow : Flow). (flow, count_of fs flow))

  -- one that isn't yet is counted where there is room
  pub tally_new : lookup (same z) es ≡ None → length es < 65536 → insert_entry same es z 1 ≡ tally (fs ++ z ∷ [])
  tally_new none room =
      ap (λ (rows : List (Flow × ℕ)). insert_entry same rows z 1) are ∙ absent z fs (counted fs) 1 (lacked none)
      ∙ ap (λ (rows : List (Flow × ℕ)). rows ++ (z, 1) ∷ []) (sym (unchanged z fs (counted fs) (lacked none)))
      ∙ ap (λ (n : ℕ). counts_of (fs ++ z ∷ []) (counted fs) ++ (z, n) ∷ []) (sym one_more)
      ∙ sym (map-append (λ (flow : Flow). (flow, count_of (fs ++ z ∷ []) flow)) (counted fs) (z ∷ []))
      ∙ ap (counts_of (fs ++ z ∷ [])) (sym all_counted) where
        few : length (distinct fs) < 65536
        few = elim (either_size (length (distinct fs))) [
          | inl below ↦ below
          | inr above ↦ absurd (omega (arith, room, sized, length-take-le 65536 (distinct fs) above))
        ]

        whole : counted fs ≡ distinct fs
        whole = take_all 65536 (distinct fs) (omega (arith, few))

        no_packet : count_of fs z ≡ 0
        no_packet = none_lacks z fs (subst (λ (ks : List Flow). Lacks z ks) whole (lacked none))

        one_more : count_of (fs ++ z ∷ []) z ≡ 1
        one_more = omega (arith, count_push z z fs true (same_itself z), no_packet)

        pushed : distinct (fs ++ z ∷ []) ≡ distinct fs ++ z ∷ []
        pushed = distinct_push z fs ∙ ap (λ (n : ℕ). distinct fs ++ cond (eqb n 0) (z ∷ []) []) no_packet

        all_counted : counted (fs ++ z ∷ []) ≡ counted fs ++ z ∷ []
        all_counted = ap (take 65536) pushed ∙ take_all 65536 (distinct fs ++ z ∷ []) (omega (arith, few, length-append (distinct fs) (z ∷ [])))
            ∙ ap (λ (ks : List Flow). ks ++ z ∷ []) (sym whole)

  -- and otherwise isn't
  pub tally_full : lookup (same z) es ≡ None → 65536 ≤ length es → es ≡ tally (fs ++ z ∷ [])
  tally_full none full =
      are ∙ sym (unchanged z fs (counted fs) (lacked none)) ∙ ap (counts_of (fs ++ z ∷ [])) (sym same_counted) where
        many : 65536 ≤ length (distinct fs)
        many = elim (either_size (length (distinct fs))) [
          | inl below ↦ absurd (omega (arith, below, full, sized, ap (λ (ks : List Flow). length ks) (take_all 65536 (distinct fs) (omega (arith, below)))))
          | inr above ↦ above
        ]

        same_counted : counted (fs ++ z ∷ []) ≡ counted fs
        same_counted = ap (take 65536) (distinct_push z fs) ∙ take-append-le 65536 (distinct fs) (cond (eqb (count_of fs z) 0) (z ∷ []) []) many

-- a number that isn't the greatest has one that follows
pub one_more : (n : ℕ) → n < 2 ^ 32 → min (n + 1) (2 ^ 64 - 1) ≡ n + 1
one_more n few = min-eq_left (omega (arith, few))
