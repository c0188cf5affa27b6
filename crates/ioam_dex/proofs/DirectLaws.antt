-- Laws of direct export data.
use Rattle.std.proofs.Common.{◌≡◌, ℕ, ◌+◌, ◌<◌, ◌≤◌, Bool, true, false, cond, nat_lt, List, ◌∷◌, ◌++◌, length, drop, get_or, Option, Some, None, Result, Ok, Err, arith, refl, sym, ap, ◌∙◌, append_assoc}
use Rattle.std.specs.Option.{is_some, IfSome}
use Rattle.std.proofs.lemmas.Bool.Decides.{nat_tests}
use Rattle.ioam_base.specs.Octets.{IsOctets, u16_at, u24_at}
use Rattle.ioam_base.specs.Words.{two_octets, three_octets, four_octets_if}
use Rattle.ioam_base.proofs.WordsLaws.{octet-at, two-at, three-at, two_octets-same, three_octets-same, four_octets_if-same}
use Rattle.ioam_dex.specs.Numbers.{has_flow, has_seq, four_where, numbers_size, u32_where}
use Rattle.ioam_dex.specs.declared.direct.Direct.{Direct}
use Rattle.ioam_dex.specs.declared.direct.DirectFault.{DirectFault}
use Rattle.ioam_dex.specs.declared.direct.DirectFault.TheVariants.{Short}
use Rattle.ioam_dex.specs.Direct.{HasItsNumbers, IsDirect, direct_octets, wanted, Begins, ReadsAgain, direct_at, read_of}
use Rattle.ioam_dex.proofs.NumbersLaws.{four_where-at, u32_where-is_some}

-- the octets in groups of one field each, with what follows
fields_of : (n k a b rest : List ℕ) (flags ext reserved : ℕ)
    → (n ++ (flags ∷ ext ∷ (k ++ (reserved ∷ (a ++ b))))) ++ rest ≡ n ++ (flags ∷ ext ∷ (k ++ (reserved ∷ (a ++ (b ++ rest)))))
fields_of n k a b rest flags ext reserved = simp append_assoc

-- octets that have a value whole begin with it
pub Begins-direct_at : (octets : List ℕ) → IsOctets octets → 8 + numbers_size (get_or octets 3 0) ≤ length octets → Begins (direct_at octets) octets
Begins-direct_at octets small fits =
    let ext = get_or octets 3 0 in
    let flow = has_flow ext in
    let seq = has_seq ext in
    let behind = 8 + four_where flow in
    record {
      numbers = record { flow = u32_where-is_some octets 8 flow; seq = u32_where-is_some octets behind seq };
      reserved = get_or octets 7 0;
      rest = drop (behind + four_where seq) octets;
      is = two-at octets 0 small (omega arith)
          ∙ ap (λ r. two_octets (u16_at octets 0) ++ r) (octet-at octets 2 (omega arith)
          ∙ ap (λ r. get_or octets 2 0 ∷ r) (octet-at octets 3 (omega arith)
          ∙ ap (λ r. get_or octets 3 0 ∷ r) (three-at octets 4 small (omega arith)
          ∙ ap (λ r. three_octets (u24_at octets 4) ++ r) (octet-at octets 7 (omega arith)
          ∙ ap (λ r. get_or octets 7 0 ∷ r) (four_where-at octets 8 flow small (omega arith)
          ∙ ap (λ r. four_octets_if (u32_where flow octets 8) ++ r) (four_where-at octets behind seq small (omega arith)))))))
          ∙ sym (fields_of (two_octets (u16_at octets 0)) (three_octets (u24_at octets 4)) (four_octets_if (u32_where flow octets 8)) (four_octets_if (u32_where seq octets behind))
          (drop (behind + four_where seq) octets) (get_or octets 2 0) ext (get_or octets 7 0));
    }

-- a value by its fields
direct_by : (d e : Direct) → d.namespace.0 ≡ e.namespace.0 → d.flags ≡ e.flags → d.ext ≡ e.ext → d.kind ≡ e.kind → d.flow ≡ e.flow → d.seq ≡ e.seq → d ≡ e
direct_by d e n f x k a b =
    let namespace : d.namespace ≡ e.namespace = ap (λ m. record { 0 = m }) n in
    let same : ◌≡◌ {A = Direct}
    (record { namespace = d.namespace; flags = d.flags; ext = d.ext; kind = d.kind; flow = d.flow; seq = d.seq })
    (record { namespace = e.namespace; flags = e.flags; ext = e.ext; kind = e.kind; flow = e.flow; seq = e.seq }) = cc in
    same

-- octets begin with one value
pub direct_octets-same : (d e : Direct) (m n : ℕ) (r s : List ℕ) → IsDirect d → IsDirect e → HasItsNumbers d → HasItsNumbers e
    → direct_octets d m ++ r ≡ direct_octets e n ++ s → (d ≡ e) × (r ≡ s)
direct_octets-same d e m n r s in_d in_e has_d has_e same =
    let whole =
    sym (fields_of (two_octets d.namespace.0) (three_octets d.kind) (four_octets_if d.flow) (four_octets_if d.seq) r d.flags d.ext m)
    ∙ same ∙ fields_of (two_octets e.namespace.0) (three_octets e.kind) (four_octets_if e.flow) (four_octets_if e.seq) s e.flags e.ext n in
    let namespace = two_octets-same d.namespace.0 e.namespace.0 _ _ in_d.namespace_below in_e.namespace_below whole in
    let flags : d.flags ≡ e.flags = ap (λ xs. get_or xs 0 0) namespace.1 in
    let ext : d.ext ≡ e.ext = ap (λ xs. get_or xs 1 0) namespace.1 in
    let kind = three_octets-same d.kind e.kind _ _ in_d.kind_below in_e.kind_below (ap (drop 2) namespace.1) in
    let flow = four_octets_if-same d.flow e.flow _ _ (has_d.flow ∙ ap has_flow ext ∙ sym has_e.flow) in_d.flow_below in_e.flow_below (ap (drop 1) kind.1) in
    let seq = four_octets_if-same d.seq e.seq r s (has_d.seq ∙ ap has_seq ext ∙ sym has_e.seq) in_d.seq_below in_e.seq_below flow.1 in
    (direct_by d e namespace.0 flags ext kind.0 flow.0 seq.0, seq.1)

-- what is read of octets of a value is that value
pub ReadsAgain-Begins : (octets : List ℕ) (read : Direct) → IsDirect read → Begins read octets → ReadsAgain octets (Ok read)
ReadsAgain-Begins octets read in_read begins = λ direct reserved rest in_direct has_direct is.
    (direct_octets-same read direct begins.reserved reserved begins.rest rest in_read in_direct begins.numbers has_direct (sym begins.is ∙ is)).0

-- ---- what was written is read, as a function of the octets

module _ (a b c e f g h i : ℕ) (flow seq : Option ℕ) where
  abbrev eight_and : List ℕ
  eight_and = a ∷ b ∷ c ∷ e ∷ f ∷ g ∷ h ∷ i ∷ (four_octets_if flow ++ four_octets_if seq)

number_first : (a b c e f g h i : ℕ) (flow seq : Option ℕ) (there : Bool) → is_some flow ≡ there → IfSome flow (λ number. number < 4294967296)
    → u32_where there (eight_and a b c e f g h i flow seq) 8 ≡ flow
number_first a b c e f g h i None seq true is below = absurd (cc is)
number_first a b c e f g h i None seq false is below = refl
number_first a b c e f g h i (Some n) seq false is below = absurd (cc is)
number_first a b c e f g h i (Some n) seq true is below = ap Some (omega (arith, below))

number_second : (a b c e f g h i : ℕ) (flow seq : Option ℕ) (one other : Bool) → is_some flow ≡ one → is_some seq ≡ other
    → IfSome seq (λ number. number < 4294967296) → u32_where other (eight_and a b c e f g h i flow seq) (8 + four_where one) ≡ seq
number_second a b c e f g h i None seq true other is also below = absurd (cc is)
number_second a b c e f g h i None None false true is also below = absurd (cc also)
number_second a b c e f g h i None None false false is also below = refl
number_second a b c e f g h i None (Some n) false true is also below = ap Some (omega (arith, below))
number_second a b c e f g h i None (Some n) false false is also below = absurd (cc also)
number_second a b c e f g h i (Some m) seq false other is also below = absurd (cc is)
number_second a b c e f g h i (Some m) None true true is also below = absurd (cc also)
number_second a b c e f g h i (Some m) None true false is also below = refl
number_second a b c e f g h i (Some m) (Some n) true true is also below = ap Some (omega (arith, below))
number_second a b c e f g h i (Some m) (Some n) true false is also below = absurd (cc also)

length_numbers : (flow seq : Option ℕ) (one other : Bool) → is_some flow ≡ one → is_some seq ≡ other
    → length (four_octets_if flow ++ four_octets_if seq) ≡ four_where one + four_where other
length_numbers None seq true other is also = absurd (cc is)
length_numbers None None false true is also = absurd (cc also)
length_numbers None None false false is also = refl
length_numbers None (Some n) false true is also = refl
length_numbers None (Some n) false false is also = absurd (cc also)
length_numbers (Some m) seq false other is also = absurd (cc is)
length_numbers (Some m) None true true is also = absurd (cc also)
length_numbers (Some m) None true false is also = refl
length_numbers (Some m) (Some n) true true is also = refl
length_numbers (Some m) (Some n) true false is also = absurd (cc also)

not_less : (long wanted : ℕ) (result other : Result Direct DirectFault) → wanted ≤ long → cond (nat_lt long wanted) other result ≡ result
not_less long wanted result other fits = by_test (nat_lt long wanted) refl where
  by_test : (b : Bool) → nat_lt long wanted ≡ b → cond b other result ≡ result
  by_test true is = absurd (grind (arith, nat_tests))
  by_test false is = refl

not_few : (long some : ℕ) → 8 ≤ long → cond (nat_lt long 8) 8 some ≡ some
not_few long some fits = by_test (nat_lt long 8) refl where
  by_test : (b : Bool) → nat_lt long 8 ≡ b → cond b 8 some ≡ some
  by_test true is = absurd (grind (arith, nat_tests))
  by_test false is = refl

module _ (d : Direct) (is : IsDirect d) (has : HasItsNumbers d) where
  abbrev written : List ℕ
  written = direct_octets d 0

  abbrev octet : ℕ → ℕ
  octet i = get_or written i 0

  direct_at-octets : direct_at written ≡ d
  direct_at-octets = direct_by (direct_at written) d (omega (arith, is.namespace_below)) refl refl (omega (arith, is.kind_below))
      (number_first (octet 0) (octet 1) (octet 2) (octet 3) (octet 4) (octet 5) (octet 6) (octet 7) d.flow d.seq (has_flow d.ext) has.flow is.flow_below)
      (number_second (octet 0) (octet 1) (octet 2) (octet 3) (octet 4) (octet 5) (octet 6) (octet 7) d.flow d.seq (has_flow d.ext) (has_seq d.ext) has.flow has.seq is.seq_below)

  -- octets of a value are read as that value
  pub read_of-octets : read_of written ≡ Ok d
  read_of-octets =
      let numbers = length_numbers d.flow d.seq (has_flow d.ext) (has_seq d.ext) has.flow has.seq in
      let long : length written ≡ 8 + numbers_size d.ext = omega (arith, numbers) in
      let wants : wanted written ≡ 8 + numbers_size d.ext = not_few (length written) (8 + numbers_size d.ext) (omega (arith, long)) in
      not_less (length written) (wanted written) (Ok (direct_at written)) (Err (Short (length written) (wanted written))) (omega (arith, long, wants))
      ∙ ap Ok direct_at-octets
