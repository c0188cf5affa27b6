-- Laws of options headers that are laid out.
use Rattle.std.proofs.Common.{◌≡◌, ℕ, zero, suc, ◌+◌, ◌-◌, ◌/◌, ◌<◌, ◌≤◌, List, [], ◌∷◌, ◌++◌, Bool, true, false, cond, eqb, ltb, length, take, drop, filter, replicate, slice_index, slice_set, get_or, refl, sym, ap, ◌∙◌, subst, arith, append_assoc, length-append, length-take, length-drop, get_or-take, get_or-drop}
use Rattle.std.proofs.lemmas.List.{ext_get_or, get_or-append-add, get_or_at, get_or_append_left, append-nil, length-set, get_or-set_other, length-replicate, take_all, drop_at, drop-drop}
use Rattle.std.proofs.lemmas.List.Elements.{filter-append}
use Rattle.std.proofs.lemmas.Bool.Decides.{nat_tests}
use Rattle.ioam_base.specs.Leads.{Leads}
use Rattle.ioam_base.proofs.LeadsLaws.{Leads-push, Leads-append}
use Rattle.ioam_ip.specs.Options.{Item, OptionFits, option_end, option_size, item_at, body_at, ItemsUpTo, AreOptions, is_option}
use Rattle.ioam_ip.specs.Layout.{padding, gap_before, with_option, padded, finished}
use Rattle.ioam_ip.proofs.OptionsLaws.{option_size-pos}

-- the second begins with the first, but for its first two octets
record Agree (a b : List ℕ) : Type 0 where
  shorter : length a ≤ length b
  same : (i : ℕ) → 2 ≤ i → i < length a → slice_index a i ≡ slice_index b i

two_octets : (pad1 : Bool) (n : ℕ) → pad1 ≡ false → cond pad1 1 (n + 2) ≡ n + 2
two_octets true n other = absurd (cc other)
two_octets false n other = refl

same_size : (pad1 : Bool) (m n : ℕ) → (pad1 ≡ false → m ≡ n) → cond pad1 1 (m + 2) ≡ cond pad1 1 (n + 2)
same_size true m n is = refl
same_size false m n is = ap (λ n. n + 2) (is refl)

same_data : (pad1 : Bool) (xs ys : List ℕ) → (pad1 ≡ false → xs ≡ ys) → cond pad1 [] xs ≡ cond pad1 [] ys
same_data true xs ys is = refl
same_data false xs ys is = is refl

module _ (a b : List ℕ) (agree : Agree a b) (at : ℕ) (behind : 2 ≤ at) (fits : OptionFits a at) where
  kind_same : slice_index a at ≡ slice_index b at
  kind_same = agree.same at behind (omega (arith, fits, option_size-pos a at))

  long : eqb (slice_index a at) 0 ≡ false → at + (slice_index a (at + 1) + 2) ≤ length a
  long other = omega (arith, fits, two_octets (eqb (slice_index a at) 0) (slice_index a (at + 1)) other)

  size_same : eqb (slice_index a at) 0 ≡ false → slice_index a (at + 1) ≡ slice_index b (at + 1)
  size_same other = agree.same (at + 1) (omega arith) (omega (arith, long other))

  end_same : option_end a at ≡ option_end b at
  end_same = ap (λ n. at + n) (same_size (eqb (slice_index a at) 0) (slice_index a (at + 1)) (slice_index b (at + 1)) size_same
      ∙ ap (λ k. cond (eqb k 0) 1 (slice_index b (at + 1) + 2)) kind_same)

  octet_same : (n i : ℕ) → at + (n + 2) ≤ length a → i < n
      → get_or (take n (drop (at + 2) a)) i 0 ≡ get_or (take n (drop (at + 2) b)) i 0
  octet_same n i within below =
      get_or-take n (drop (at + 2) a) i 0 below ∙ get_or-drop (at + 2) a i 0
      ∙ agree.same (at + 2 + i) (omega arith) (omega arith)
      ∙ sym (get_or-drop (at + 2) b i 0) ∙ sym (get_or-take n (drop (at + 2) b) i 0 below)

  length_part : (n : ℕ) (c : List ℕ) → at + (n + 2) ≤ length c → length (take n (drop (at + 2) c)) ≡ n
  length_part n c within = omega (arith, length-take n (drop (at + 2) c), length-drop (at + 2) c)

  part_same : (n : ℕ) → at + (n + 2) ≤ length a → take n (drop (at + 2) a) ≡ take n (drop (at + 2) b)
  part_same n within =
      let here : length (take n (drop (at + 2) a)) ≡ n = length_part n a within in
      ext_get_or 0 (take n (drop (at + 2) a)) (take n (drop (at + 2) b))
      (here ∙ sym (length_part n b (omega (arith, within, agree.shorter))))
      (λ i below. octet_same n i within (omega (arith, here)))

  body_same : body_at a at ≡ body_at b at
  body_same =
      same_data (eqb (slice_index a at) 0) (take (slice_index a (at + 1)) (drop (at + 2) a)) (take (slice_index b (at + 1)) (drop (at + 2) b))
      (λ other. part_same (slice_index a (at + 1)) (long other) ∙ ap (λ n. take n (drop (at + 2) b)) (size_same other))
      ∙ ap (λ k. cond (eqb k 0) [] (take (slice_index b (at + 1)) (drop (at + 2) b))) kind_same

  item_same : item_at a at ≡ item_at b at
  item_same = λ i. record { kind = kind_same i; at = at; body = body_same i }

  fits_same : OptionFits b at
  fits_same = omega (arith, fits, end_same, agree.shorter)

-- the options of the first stand in the second too
carried : (a b : List ℕ) → Agree a b → (at : ℕ) (items : List Item) (end : ℕ) → 2 ≤ at
    → Leads (OptionFits a) (item_at a) (option_end a) at items end
    → Leads (OptionFits b) (item_at b) (option_end b) at items end
carried a b agree at [] end behind here = here
carried a b agree at (x ∷ xs) end behind leads =
    let P : ℕ → Type 0 = λ next. Leads (OptionFits b) (item_at b) (option_end b) next xs end in (
      fits_same a b agree at behind leads.0,
      leads.1 ∙ item_same a b agree at behind leads.0,
      subst P (end_same a b agree at behind leads.0) (carried a b agree (option_end a at) xs end (omega (arith, behind)) leads.2),
    )

-- paddings and where they end
record Padded (head : List ℕ) (at count : ℕ) : Type 0 where
  pads : List Item
  stand : Leads (OptionFits head) (item_at head) (option_end head) at pads (at + count)
  none : filter is_option pads ≡ []

length-padding : (n : ℕ) → length (padding n) ≡ n
length-padding zero = refl
length-padding (suc zero) = refl
length-padding (suc (suc n)) = ap (λ m. suc (suc m)) (length-replicate n 0)

-- the octets behind a front
octet_behind : (a xs : List ℕ) (i : ℕ) → slice_index (a ++ xs) (length a + i) ≡ slice_index xs i
octet_behind a xs i = get_or-append-add a xs i 0

first_behind : (a xs : List ℕ) (x : ℕ) → slice_index (a ++ x ∷ xs) (length a) ≡ x
first_behind a xs x = get_or_at a x xs 0 (length a) refl

no_option : (option : Bool) (item : Item) → option ≡ false → cond option (item ∷ []) [] ≡ []
no_option true item padding = absurd (cc padding)
no_option false item padding = refl

low_kind : (kind : ℕ) → kind ≤ 1 → ltb 1 kind ≡ false
low_kind kind low = grind (arith, nat_tests)

pads_at : (head a c : List ℕ) (n : ℕ) → head ≡ a ++ (padding n ++ c) → Padded head (length a) n
pads_at head a c zero is = record { pads = []; stand = omega arith; none = refl }
pads_at head a c (suc zero) is =
    let kind : slice_index head (length a) ≡ 0 = ap (λ head. slice_index head (length a)) is ∙ first_behind a c 0 in
    let one : option_size head (length a) ≡ 1 = ap (λ k. cond (eqb k 0) 1 (slice_index head (length a + 1) + 2)) kind in
    let long : length head ≡ length a + (1 + length c) = omega (arith, ap length is, length-append a (0 ∷ c)) in
    record {
      pads = item_at head (length a) ∷ [];
      stand = (omega (arith, one, long), refl, omega (arith, one));
      none = no_option (ltb 1 (slice_index head (length a))) (item_at head (length a)) (low_kind (slice_index head (length a)) (omega (arith, kind)));
    }
pads_at head a c (suc (suc n)) is =
    let kind : slice_index head (length a) ≡ 1 = ap (λ head. slice_index head (length a)) is ∙ first_behind a (n ∷ (replicate n 0 ++ c)) 1 in
    let count : slice_index head (length a + 1) ≡ n = ap (λ head. slice_index head (length a + 1)) is ∙ octet_behind a (1 ∷ n ∷ (replicate n 0 ++ c)) 1 in
    let more : option_size head (length a) ≡ slice_index head (length a + 1) + 2 = ap (λ k. cond (eqb k 0) 1 (slice_index head (length a + 1) + 2)) kind in
    let long : length head ≡ length a + (suc (suc n) + length c) =
    omega (arith, ap length is, length-append a (padding (suc (suc n)) ++ c), length-append (padding (suc (suc n))) c, length-padding (suc (suc n))) in
    record {
      pads = item_at head (length a) ∷ [];
      stand = (omega (arith, more, count, long), refl, omega (arith, more, count));
      none = no_option (ltb 1 (slice_index head (length a))) (item_at head (length a)) (low_kind (slice_index head (length a)) (omega (arith, kind)));
    }

-- a longer header has the options of its front
front_agrees : (a c : List ℕ) → Agree a (a ++ c)
front_agrees a c = record { shorter = omega (arith, length-append a c); same = λ i behind below. sym (get_or_append_left a c 0 i below) }

-- padding adds no option
pub AreOptions-padding : (laid : List ℕ) (n : ℕ) (os : List Item) → 2 ≤ length laid → AreOptions laid os → AreOptions (laid ++ padding n) os
AreOptions-padding laid n os behind are =
    let head : List ℕ = laid ++ padding n in
    let padded_at : Padded head (length laid) n = pads_at head laid [] n (ap (λ xs. laid ++ xs) (sym (append-nil (padding n)))) in
    let long : length laid + n ≡ length head = omega (arith, length-append laid (padding n), length-padding n) in
    let front = carried laid head (front_agrees laid (padding n)) 2 are.items (length laid) (omega arith) are.fill in
    let P : ℕ → Type 0 = λ end. ItemsUpTo head (are.items ++ padded_at.pads) end in
    record {
      items = are.items ++ padded_at.pads;
      fill = subst P long (Leads-append (OptionFits head) (item_at head) (option_end head) 2 are.items (length laid) padded_at.pads (length laid + n) front padded_at.stand);
      options = are.options ∙ sym (append-nil (filter is_option are.items)) ∙ ap (λ xs. filter is_option are.items ++ xs) (sym padded_at.none)
          ∙ sym (filter-append is_option are.items padded_at.pads);
    }

an_option : (option : Bool) (item : Item) → option ≡ true → cond option (item ∷ []) [] ≡ item ∷ []
an_option true item is = refl
an_option false item is = absurd (cc is)

high_kind : (kind : ℕ) → 1 < kind → (ltb 1 kind ≡ true) × (eqb kind 0 ≡ false)
high_kind kind high = (grind (arith, nat_tests), grind (arith, nat_tests))

other_data : (pad1 : Bool) (xs : List ℕ) → pad1 ≡ false → cond pad1 [] xs ≡ xs
other_data true xs other = absurd (cc other)
other_data false xs other = refl

-- an option at the end is one more
pub AreOptions-push : (laid body : List ℕ) (kind : ℕ) (os : List Item) → 2 ≤ length laid → 1 < kind → AreOptions laid os
    → AreOptions (laid ++ (kind ∷ length body ∷ body)) (os ++ record { kind = kind; at = length laid; body = body } ∷ [])
AreOptions-push laid body kind os behind high are =
    let tail : List ℕ = kind ∷ length body ∷ body in
    let head : List ℕ = laid ++ tail in
    let at : ℕ = length laid in
    let kind_is : slice_index head at ≡ kind = first_behind laid (length body ∷ body) kind in
    let size_is : slice_index head (at + 1) ≡ length body = octet_behind laid tail 1 in
    let other : eqb (slice_index head at) 0 ≡ false = ap (λ k. eqb k 0) kind_is ∙ (high_kind kind high).1 in
    let size : option_size head at ≡ slice_index head (at + 1) + 2 = two_octets (eqb (slice_index head at) 0) (slice_index head (at + 1)) other in
    let long : length head ≡ at + (length body + 2) = omega (arith, length-append laid tail) in
    let rest : drop (at + 2) head ≡ body = sym (drop-drop 2 at head) ∙ ap (λ xs. drop 2 xs) (drop_at laid tail at refl) in
    let data_is : body_at head at ≡ body = other_data (eqb (slice_index head at) 0) (take (slice_index head (at + 1)) (drop (at + 2) head)) other
    ∙ ap (λ n. take n (drop (at + 2) head)) size_is ∙ ap (λ xs. take (length body) xs) rest ∙ take_all (length body) body (omega arith) in
    let item : item_at head at ≡ record { kind = kind; at = at; body = body } = λ i. record { kind = kind_is i; at = at; body = data_is i } in
    let fits : OptionFits head at = omega (arith, size, size_is, long) in
    let ends : option_end head at ≡ length head = omega (arith, size, size_is, long) in
    let front = carried laid head (front_agrees laid tail) 2 are.items at (omega arith) are.fill in
    let P : ℕ → Type 0 = λ end. ItemsUpTo head (are.items ++ item_at head at ∷ []) end in
    record {
      items = are.items ++ item_at head at ∷ [];
      fill = subst P ends (Leads-push (OptionFits head) (item_at head) (option_end head) 2 are.items at front fits);
      options = ap (λ xs. xs ++ record { kind = kind; at = at; body = body } ∷ []) are.options
          ∙ ap (λ item. filter is_option are.items ++ item ∷ []) (sym item)
          ∙ ap (λ xs. filter is_option are.items ++ xs) (sym (an_option (ltb 1 (slice_index head at)) (item_at head at) (ap (λ k. ltb 1 k) kind_is ∙ (high_kind kind high).0)))
          ∙ sym (filter-append is_option are.items (item_at head at ∷ []));
    }

-- an option with its padding
pub AreOptions-with : (laid body : List ℕ) (kind : ℕ) (os : List Item) → 2 ≤ length laid → 1 < kind → AreOptions laid os
    → AreOptions (with_option laid kind body)
    (os ++ record { kind = kind; at = length laid + gap_before (length laid) kind; body = body } ∷ [])
AreOptions-with laid body kind os behind high are =
    let gap : ℕ = gap_before (length laid) kind in
    let long : length (laid ++ padding gap) ≡ length laid + gap = omega (arith, length-append laid (padding gap), length-padding gap) in
    let pushed = AreOptions-push (laid ++ padding gap) body kind os (omega (arith, long)) high (AreOptions-padding laid gap os behind are) in
    let P : ℕ → List ℕ → Type 0 = λ at head. AreOptions head (os ++ record { kind = kind; at = at; body = body } ∷ []) in
    let Q : ℕ → Type 0 = λ at. P at ((laid ++ padding gap) ++ (kind ∷ length body ∷ body)) in
    let R : List ℕ → Type 0 = λ head. P (length laid + gap) head in
    subst R (append_assoc laid (padding gap) (kind ∷ length body ∷ body)) (subst Q long pushed)

-- the length octet is part of no option
pub AreOptions-set : (laid : List ℕ) (octet : ℕ) (os : List Item) → AreOptions laid os → AreOptions (slice_set laid 1 octet) os
AreOptions-set laid octet os are =
    let long : length (slice_set laid 1 octet) ≡ length laid = length-set laid 1 octet in
    let agree : Agree laid (slice_set laid 1 octet) = record {
      shorter = omega (arith, long);
      same = λ i behind below. sym (get_or-set_other laid 1 i octet 0 (omega arith));
    } in
    let P : ℕ → Type 0 = λ end. ItemsUpTo (slice_set laid 1 octet) are.items end in
    record {
      items = are.items;
      fill = subst P (sym long) (carried laid (slice_set laid 1 octet) agree 2 are.items (length laid) (omega arith) are.fill);
      options = are.options;
    }

-- the whole header has the options that were added
pub AreOptions-finished : (laid : List ℕ) (os : List Item) → 2 ≤ length laid → AreOptions laid os → AreOptions (finished laid) os
AreOptions-finished laid os behind are =
    AreOptions-set (laid ++ padding (padded (length laid) - length laid)) (padded (length laid) / 8 - 1) os
    (AreOptions-padding laid (padded (length laid) - length laid) os behind are)
