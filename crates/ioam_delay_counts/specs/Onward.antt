-- What comes before a key comes before all after that. These laws stand among the definitions, since a ghost member of an `impl` cites specs/ alone.
use Rattle.std.proofs.Common.{◌≡◌, ℕ, Bool, true, false, cond, not, ◌&&◌, List, [], ◌∷◌, Option, Some, None, refl, sym, ◌∙◌, ap, subst, arith}
use Rattle.std.specs.Prelude.{⊤, nat_lt}
use Rattle.std.proofs.lemmas.Bool.{lt-ltb, ltb-false, ltb-true}
use Rattle.ioam_delay_counts.specs.Keys.{id_of, in_turn, known_before, length_of, steps_before}
use Rattle.ioam_delay_counts.specs.Orders.{ends_before, hop_before, node_before, space_before, way_before}
use Rattle.ioam_delay_counts.specs.declared.keys.HopKey.{HopKey}
use Rattle.ioam_delay_counts.specs.declared.keys.NodeKey.{NodeKey}
use Rattle.ioam_delay_counts.specs.declared.keys.SpaceKey.{SpaceKey}
use Rattle.ioam_delay_counts.specs.declared.keys.Step.{Step}
use Rattle.ioam_delay_counts.specs.declared.keys.WayKey.{WayKey}

abbrev is_true : Bool → Type 0
is_true true = ⊤
is_true false = ⊥

never : false ≡ true → ⊥
never is = subst is_true (sym is) tt

-- what comes before something comes before all after that, and of two things one comes first
record IsOrder {X : Type 0} (before : X → X → Bool) : Type 0 where
  onward : (one other third : X) → before one other ≡ true → before other third ≡ true → before one third ≡ true
  apart : (one other : X) → before one other ≡ false → before other one ≡ false → one ≡ other

-- so it is of what is ordered in turn, where it is of the rest
in_turn_onward : {X : Type 0} (before : X → X → Bool) → IsOrder before → (a b c : X) (r s t : Bool) → (r ≡ true → s ≡ true → t ≡ true)
    → in_turn before a b r ≡ true → in_turn before b c s ≡ true → in_turn before a c t ≡ true
in_turn_onward {X} before order a b c r s t rest = by (before a b) (before b a) (before b c) (before c b) refl refl refl refl where
  at : (x y : Bool) → before a c ≡ x → before c a ≡ y → in_turn before a c t ≡ cond x true (cond y false t)
  at x y first second = ap (λ (z : Bool). cond z true (cond (before c a) false t)) first ∙ ap (λ (z : Bool). cond x true (cond z false t)) second

  by : (ab ba bc cb : Bool) → before a b ≡ ab → before b a ≡ ba → before b c ≡ bc → before c b ≡ cb
      → cond ab true (cond ba false r) ≡ true → cond bc true (cond cb false s) ≡ true → in_turn before a c t ≡ true
  by true ba true cb ab_is ba_is bc_is cb_is first second = at true _ (order.onward a b c ab_is bc_is) refl
  by true ba false true ab_is ba_is bc_is cb_is first second = absurd (never second)
  by true ba false false ab_is ba_is bc_is cb_is first second = at true _ (ap (before a) (sym (order.apart b c bc_is cb_is)) ∙ ab_is) refl
  by false true bc cb ab_is ba_is bc_is cb_is first second = absurd (never first)
  by false false true cb ab_is ba_is bc_is cb_is first second = at true _ (ap (λ (x : X). before x c) (order.apart a b ab_is ba_is) ∙ bc_is) refl
  by false false false true ab_is ba_is bc_is cb_is first second = absurd (never second)
  by false false false false ab_is ba_is bc_is cb_is first second =
      let same = order.apart a b ab_is ba_is in
      at false false (ap (λ (x : X). before x c) same ∙ bc_is) (ap (before c) same ∙ cb_is) ∙ rest first second

nat_onward : (one other third : ℕ) → nat_lt one other ≡ true → nat_lt other third ≡ true → nat_lt one third ≡ true
nat_onward one other third first second = lt-ltb one third (omega (arith, ltb-true one other first, ltb-true other third second))

nat_apart : (one other : ℕ) → nat_lt one other ≡ false → nat_lt other one ≡ false → one ≡ other
nat_apart one other first second = omega (arith, ltb-false one other first, ltb-false other one second)

known_onward : (one other third : Option ℕ) → known_before one other ≡ true → known_before other third ≡ true → known_before one third ≡ true
known_onward (Some one) (Some other) (Some third) first second = nat_onward one other third first second
known_onward (Some one) (Some other) None first second = refl
known_onward (Some one) None third first second = absurd (never second)
known_onward None other third first second = absurd (never first)

known_apart : (one other : Option ℕ) → known_before one other ≡ false → known_before other one ≡ false → one ≡ other
known_apart (Some one) (Some other) first second = ap (λ (n : ℕ). Some n) (nat_apart one other first second)
known_apart (Some one) None first second = absurd (never (sym first))
known_apart None (Some other) first second = absurd (never (sym second))
known_apart None None first second = refl

of_numbers : (a b c : ℕ) (r s t : Bool) → (r ≡ true → s ≡ true → t ≡ true) → in_turn nat_lt a b r ≡ true → in_turn nat_lt b c s ≡ true → in_turn nat_lt a c t ≡ true
of_numbers = in_turn_onward nat_lt (record { onward = nat_onward; apart = nat_apart })

of_known : (a b c : Option ℕ) (r s t : Bool) → (r ≡ true → s ≡ true → t ≡ true)
    → in_turn known_before a b r ≡ true → in_turn known_before b c s ≡ true → in_turn known_before a c t ≡ true
of_known = in_turn_onward known_before (record { onward = known_onward; apart = known_apart })

steps_onward : (r s t : Bool) (xs ys zs : List Step) → (r ≡ true → s ≡ true → t ≡ true)
    → steps_before r xs ys ≡ true → steps_before s ys zs ≡ true → steps_before t xs zs ≡ true
steps_onward r s t [] [] [] rest first second = rest first second
steps_onward r s t [] [] (z ∷ zs) rest first second = refl
steps_onward r s t [] (y ∷ ys) [] rest first second = absurd (never second)
steps_onward r s t [] (y ∷ ys) (z ∷ zs) rest first second = refl
steps_onward r s t (x ∷ xs) [] zs rest first second = absurd (never first)
steps_onward r s t (x ∷ xs) (y ∷ ys) [] rest first second = absurd (never second)
steps_onward r s t (x ∷ xs) (y ∷ ys) (z ∷ zs) rest first second =
    of_known (length_of x.past) (length_of y.past) (length_of z.past) _ _ _
    (of_known (id_of x.node) (id_of y.node) (id_of z.node) _ _ _ (steps_onward r s t xs ys zs rest)) first second

clear_onward : (one other third : Bool) → (not one && other) ≡ true → (not other && third) ≡ true → (not one && third) ≡ true
clear_onward true other third first second = absurd (never first)
clear_onward false true third first second = absurd (never second)
clear_onward false false third first second = second

ends_onward : (a b c : WayKey) → ends_before a b ≡ true → ends_before b c ≡ true → ends_before a c ≡ true
ends_onward a b c = of_known (length_of a.tail) (length_of b.tail) (length_of c.tail) _ _ _ (clear_onward a.overflow b.overflow c.overflow)

pub space_onward : (a b c : SpaceKey) → space_before a b ≡ true → space_before b c ≡ true → space_before a c ≡ true
space_onward a b c = nat_onward a.0 b.0 c.0

pub node_onward : (a b c : NodeKey) → node_before a b ≡ true → node_before b c ≡ true → node_before a c ≡ true
node_onward a b c = of_numbers a.namespace b.namespace c.namespace _ _ _ (known_onward (id_of a.node) (id_of b.node) (id_of c.node))

pub hop_onward : (a b c : HopKey) → hop_before a b ≡ true → hop_before b c ≡ true → hop_before a c ≡ true
hop_onward a b c =
    of_numbers a.namespace b.namespace c.namespace _ _ _
    (of_known (id_of a.from) (id_of b.from) (id_of c.from) _ _ _
    (of_known (id_of a.to) (id_of b.to) (id_of c.to) _ _ _ (known_onward (length_of a.past) (length_of b.past) (length_of c.past))))

pub way_onward : (a b c : WayKey) → way_before a b ≡ true → way_before b c ≡ true → way_before a c ≡ true
way_onward a b c =
    of_numbers a.namespace b.namespace c.namespace _ _ _ (steps_onward _ _ _ a.steps.items b.steps.items c.steps.items (ends_onward a b c))
