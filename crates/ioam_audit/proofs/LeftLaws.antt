-- What follows the IPv6 header, compared option by option.
use Rattle.std.proofs.Common.{◌≡◌, ◌↔◌, ◌⊎◌, inl, inr, ℕ, zero, suc, ◌+◌, ◌-◌, ◌<◌, ◌≤◌, Bool, true, false, eqb, leb, List, [], ◌∷◌, length, take, drop, slice_index, slice_range, length-take, length-drop, get_or-take, get_or-drop, arith, refl, sym, ap, ◌∙◌, subst}
use Rattle.std.specs.Prelude.{Contains, slice_index_or}
use Rattle.std.proofs.lemmas.Bool.{cases_lt}
use Rattle.std.proofs.lemmas.List.{drop-drop, drop-take, ext_get_or, take-take}
use Rattle.ioam_base.specs.Octets.{u16_at}
use Rattle.ioam_ip.specs.Options.{Item}
use Rattle.ioam_ip.specs.OptionsLeft.{options_from}
use Rattle.ioam_ip.specs.Spot.{IsNext, spot_end, item_in}
use Rattle.ioam_ip.specs.declared.next.OptionSpot.{OptionSpot}
use Rattle.ioam_node_visit.specs.Step.{knows}
use Rattle.ioam_node_visit.specs.Stepped.{Fills, trace_start, trace_end}
use Rattle.ioam_node_visit.proofs.PlacesLaws.{Lies, contains-here, contains-there, contains-none, index_behind, range_index, range_rest}
use Rattle.ioam_node_visit.proofs.TestsLaws.{false_is, false_le, true_is, true_le}
use Rattle.ioam_topo.specs.declared.domain.Domain.{Domain}
use Rattle.ioam_audit.specs.Becomes.{MayBecome}
use Rattle.ioam_audit.specs.Header.{AreLeft, MayBecomeData, option_of}

-- ---- parts of lists

module _ (a b : List ℕ) (from to : ℕ) where
  pub ranges_same : length a ≡ length b → ((i : ℕ) → from ≤ i → i < to → slice_index a i ≡ slice_index b i) → slice_range a from to ≡ slice_range b from to
  ranges_same long each = ext_get_or 0 (slice_range a from to) (slice_range b from to)
      (omega (arith, long, length-take (to - from) (drop from a), length-take (to - from) (drop from b), length-drop from a, length-drop from b))
      (λ i below.
      let inside : i < to - from = omega (arith, below, length-take (to - from) (drop from a)) in
      get_or-take (to - from) (drop from a) i 0 inside ∙ get_or-drop from a i 0 ∙ each (from + i) (omega arith) (omega (arith, inside))
      ∙ sym (get_or-take (to - from) (drop from b) i 0 inside ∙ get_or-drop from b i 0))

  pub same_ranges : slice_range a from to ≡ slice_range b from to → (i : ℕ) → from ≤ i → i < to → slice_index a i ≡ slice_index b i
  same_ranges is i after below = sym (range_index a from to i after below) ∙ ap (λ xs. slice_index xs (i - from)) is ∙ range_index b from to i after below

-- a part of a part
range_range : (xs : List ℕ) (from to a b : ℕ) → a ≤ b → from + b ≤ to → slice_range (slice_range xs from to) a b ≡ slice_range xs (from + a) (from + b)
range_range xs from to a b order within =
    let size : to - from ≡ a + (to - from - a) = omega (arith, order, within) in
    let count : b - a ≡ (from + b) - (from + a) = omega arith in
    ap (λ n. take (b - a) (drop a (take n (drop from xs)))) size
    ∙ ap (take (b - a)) (drop-take a (to - from - a) (drop from xs))
    ∙ take-take (b - a) (to - from - a) (drop a (drop from xs)) (omega (arith, order, within))
    ∙ ap (take (b - a)) (drop-drop a from xs) ∙ ap (λ n. take n (drop (from + a) xs)) count

-- ---- members of a list

module _ (P : Item → Type 0) (x : Item) (xs : List Item) where
  each : P x → ((y : Item) → Contains xs y → P y) → (y : Item) → Contains (x ∷ xs) y → P y
  each first rest y there = by_place there.0 there.1 there.2 where
    by_place : (k : ℕ) → k < length (x ∷ xs) → slice_index_or (x ∷ xs) k y ≡ y → P y
    by_place zero below is = subst P is first
    by_place (suc k) below is = rest y (k, omega (arith, below), is)

-- options that lie in a header from an offset on begin there or later
lies-behind : (head : List ℕ) (from : ℕ) (xs : List Item) → Lies head from xs → (y : Item) → Contains xs y → from ≤ y.at
lies-behind head from [] lies y there = absurd (contains-none y there)
lies-behind head from (x ∷ xs) lies y there =
    each (λ z. from ≤ z.at) x xs lies.0 (λ z among. omega (arith, lies.0, lies-behind head (x.at + 2 + length x.body) xs lies.3 z among)) y there

-- ---- whether a trace is filled

decided : (domain : Domain) (node : ℕ) (x : Item) → Fills domain node x ⊎ ¬ Fills domain node x
decided domain node x = by_tests (eqb x.kind 0x31) (eqb (slice_index x.body 1) 0) (leb 10 (length x.body)) (knows domain node (u16_at x.body 2)) refl refl refl refl
  where
    by_tests : (k t l n : Bool) → eqb x.kind 0x31 ≡ k → eqb (slice_index x.body 1) 0 ≡ t → leb 10 (length x.body) ≡ l → knows domain node (u16_at x.body 2) ≡ n
        → Fills domain node x ⊎ ¬ Fills domain node x
    by_tests false t l n ek et el en = inr (λ fills. false_is x.kind 0x31 ek fills.type)
    by_tests true false l n ek et el en = inr (λ fills. false_is (slice_index x.body 1) 0 et fills.trace)
    by_tests true true false n ek et el en = let short = false_le 10 (length x.body) el in inr (λ fills. let long = fills.header in omega (arith, short, long))
    by_tests true true true false ek et el en = inr (λ fills. absurd (cc (sym en ∙ fills.known)))
    by_tests true true true true ek et el en = inl (record { type = true_is x.kind 0x31 ek; trace = true_is (slice_index x.body 1) 0 et; header = true_le 10 (length x.body) el; known = en })

-- ---- one turn of the loop

module _ (domain : Domain) (node hops id inward : ℕ) (before after : List ℕ) (long : length after ≡ length before) where
  abbrev Left : ℕ → List Item → Type 0
  Left from options = AreLeft domain node hops id inward before after from options

  abbrev Outside : ℕ → Item → Type 0
  Outside at y = Fills domain node y → trace_start y ≤ at → at < trace_end y → ⊥

  -- behind the last option
  pub last : (from : ℕ) → Left from [] ↔ (drop from after ≡ drop from before)
  last from = (
    λ left. ext_get_or 0 (drop from after) (drop from before) (omega (arith, long, length-drop from after, length-drop from before))
        (λ i below. get_or-drop from after i 0 ∙ left.same (from + i) (omega arith) (λ y there. absurd (contains-none y there)) ∙ sym (get_or-drop from before i 0)),
    λ is. record { same = λ at behind out. index_behind after before from at is behind; traces = λ y there. absurd (contains-none y there) },
  )

  module _ (from : ℕ) (x : Item) (others : List Item) (order : from ≤ 42 + x.at) (stop : ℕ) (stop_is : stop ≡ trace_end x)
      (body_is : slice_range before (42 + x.at) stop ≡ x.body) (apart : (y : Item) → Contains others y → x.at + 2 + length x.body ≤ y.at) where
    abbrev start : ℕ
    start = 42 + x.at

    -- before the end of the option no other option's trace begins
    far : (at : ℕ) → at < stop → (y : Item) → Contains others y → Outside at y
    far at near y there fills begins ends = omega (arith, near, stop_is, apart y there, begins)

    -- the octets in front of the trace, and those of the trace
    two_of : (xs : List ℕ) → 10 ≤ length x.body → take 2 (slice_range xs start stop) ≡ slice_range xs start (start + 2)
    two_of xs ten =
        let count : 2 ≡ start + 2 - start = omega arith in
        take-take 2 (stop - start) (drop start xs) (omega (arith, stop_is, ten)) ∙ ap (λ n. take n (drop start xs)) count

    trace_of : 10 ≤ length x.body → drop 2 (slice_range after start stop) ≡ slice_range after (trace_start x) (trace_end x)
    trace_of ten =
        let begins : start + 2 ≡ trace_start x = omega arith in
        range_rest after start stop (omega (arith, stop_is, ten)) ∙ (λ i. slice_range after (begins i) (stop_is i))

    May : List ℕ → Type 0
    May new = MayBecome hops id inward (drop 2 x.body) new

    two_same : (at : ℕ) → start ≤ at → at < start + 2 → Outside at x
    two_same at behind near fills begins ends = omega (arith, near, begins)

    pub opens : Left from (x ∷ others)
        → (slice_range after from start ≡ slice_range before from start) × MayBecomeData domain node hops id inward x (slice_range after start stop) × Left stop others
    opens left = (
      ranges_same after before from start long (λ at behind near.
          left.same at behind (each (Outside at) x others (λ fills begins ends. omega (arith, near, begins)) (far at (omega (arith, near, stop_is))))),
      record {
        stays = λ never. ranges_same after before start stop long (λ at behind near.
            left.same at (omega (arith, order, behind)) (each (Outside at) x others (λ fills begins ends. never fills) (far at near))) ∙ body_is;
        trace = λ fills.
            let ten : 10 ≤ length x.body = fills.header in (
              two_of after ten
                  ∙ ranges_same after before start (start + 2) long (λ at behind near.
                  left.same at (omega (arith, order, behind)) (each (Outside at) x others (two_same at behind near) (far at (omega (arith, near, stop_is, ten)))))
                  ∙ sym (two_of before ten) ∙ ap (take 2) body_is,
              subst (MayBecome hops id inward (drop 2 x.body)) (sym (trace_of ten)) (left.traces x (contains-here x others) fills),
            );
      },
      record {
        same = λ at behind out. left.same at (omega (arith, order, behind, stop_is))
            (each (Outside at) x others (λ fills begins ends. omega (arith, behind, stop_is, ends)) out);
        traces = λ y there. left.traces y (contains-there x y others there);
      },
    )

    pub closes : slice_range after from start ≡ slice_range before from start → MayBecomeData domain node hops id inward x (slice_range after start stop) → Left stop others
        → Left from (x ∷ others)
    closes gap may rest = record {
      same = λ at behind out. elim (cases_lt at start) [
        | inl early ↦ same_ranges after before from start gap at behind early
        | inr late ↦ elim (cases_lt at stop) [
          | inl near ↦ inside at late near (out x (contains-here x others)) (decided domain node x)
          | inr past ↦ rest.same at past (λ y there. out y (contains-there x y others there))
        ]
      ];
      traces = each (λ y. Fills domain node y → MayBecome hops id inward (drop 2 y.body) (slice_range after (trace_start y) (trace_end y))) x others
          (λ fills. subst (MayBecome hops id inward (drop 2 x.body)) (trace_of fills.header) (may.trace fills).1) rest.traces;
    }
      where
        inside : (at : ℕ) → start ≤ at → at < stop → Outside at x → Fills domain node x ⊎ ¬ Fills domain node x → slice_index after at ≡ slice_index before at
        inside at late near out (inr never) = same_ranges after before start stop (may.stays never ∙ sym body_is) at late near
        inside at late near out (inl fills) =
            let ten : 10 ≤ length x.body = fills.header in
            elim (cases_lt at (start + 2)) [
              | inl early ↦ same_ranges after before start (start + 2)
                  (sym (two_of after ten) ∙ (may.trace fills).0 ∙ sym (ap (take 2) body_is) ∙ two_of before ten) at late early
              | inr in_trace ↦ absurd (out fills (omega (arith, in_trace)) (omega (arith, near, stop_is)))
            ]

  -- ---- the next option of the header

  module _ (end from at : ℕ) (fits : end ≤ length before) (forty : 40 ≤ end) (order : from ≤ 40 + at) (spot : OptionSpot) where
    abbrev head : List ℕ
    head = slice_range before 40 end

    abbrev others : List Item
    others = options_from (length head) head (spot_end spot)

    abbrev part : List ℕ → List ℕ
    part xs = slice_range xs (42 + spot.at) (42 + spot.at + spot.size)

    abbrev Agrees : Type 0
    Agrees = (slice_range after from (42 + spot.at) ≡ slice_range before from (42 + spot.at))
        × MayBecomeData domain node hops id inward (option_of spot (part before)) (part after)

    module _ (next : IsNext head at spot) (lies : Lies head at (options_from (length head) head at)) where
      head_long : length head ≡ end - 40
      head_long = omega (arith, fits, forty, length-take (end - 40) (drop 40 before), length-drop 40 before)

      data_is : part before ≡ slice_range head (spot.at + 2) (spot_end spot)
      data_is =
          let within : spot_end spot ≤ length head = next.within in
          let a : 40 + (spot.at + 2) ≡ 42 + spot.at = omega arith in
          let b : 40 + spot_end spot ≡ 42 + spot.at + spot.size = omega arith in
          sym (range_range before 40 end (spot.at + 2) (spot_end spot) (omega arith) (omega (arith, within, head_long))
          ∙ (λ i. slice_range before (a i) (b i)))

      size : length (slice_range head (spot.at + 2) (spot_end spot)) ≡ spot.size
      size = let within : spot_end spot ≤ length head = next.within in
          omega (arith, within, length-take (spot_end spot - (spot.at + 2)) (drop (spot.at + 2) head), length-drop (spot.at + 2) head)

      lie : Lies head at (item_in head spot ∷ others)
      lie = subst (Lies head at) next.first lies

      stop_is : 42 + spot.at + spot.size ≡ trace_end (item_in head spot)
      stop_is = omega (arith, size)

      early : from ≤ 42 + spot.at
      early = let behind : at ≤ spot.at = next.behind in omega (arith, order, behind)

      apart : (y : Item) → Contains others y → spot.at + 2 + length (slice_range head (spot.at + 2) (spot_end spot)) ≤ y.at
      apart = lies-behind head (spot.at + 2 + length (slice_range head (spot.at + 2) (spot_end spot))) others lie.3

      pub lies-next : Lies head (spot_end spot) others
      lies-next = let is : spot.at + 2 + length (slice_range head (spot.at + 2) (spot_end spot)) ≡ spot_end spot = omega (arith, size) in
          subst (λ n. Lies head n others) is lie.3

      pub turn-opens : Left from (options_from (length head) head at) → Agrees × Left (40 + spot_end spot) others
      turn-opens left =
          let to : 42 + spot.at + spot.size ≡ 40 + spot_end spot = omega arith in
          let parts = opens from (item_in head spot) others early (42 + spot.at + spot.size) stop_is data_is apart (subst (Left from) next.first left) in (
            (parts.0, subst (λ xs. MayBecomeData domain node hops id inward (option_of spot xs) (part after)) (sym data_is) parts.1),
            subst (λ n. Left n others) to parts.2,
          )

      pub turn-closes : Agrees → Left (40 + spot_end spot) others → Left from (options_from (length head) head at)
      turn-closes agrees left =
          let to : 40 + spot_end spot ≡ 42 + spot.at + spot.size = omega arith in
          subst (Left from) (sym next.first) (closes from (item_in head spot) others early (42 + spot.at + spot.size) stop_is data_is apart agrees.0
          (subst (λ xs. MayBecomeData domain node hops id inward (option_of spot xs) (part after)) data_is agrees.1) (subst (λ n. Left n others) to left))
