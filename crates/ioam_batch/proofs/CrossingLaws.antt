-- Laws of crossings: how the octets of one more visit are parted from those of the visits before, and found again.
use Rattle.std.proofs.Common.{◌≡◌, ℕ, zero, suc, ◌+◌, ◌*◌, ◌<◌, ◌≤◌, Bool, true, false, if◌then◌else◌, List, [], ◌∷◌, ◌++◌, length, get_or, map, take, drop, Option, Some, None, is_some, slice_get, refl, sym, ap, ◌∙◌, length-drop, length-take, drop-drop, arith, add-zero, zero-add, true≢false}
use Rattle.std.specs.Prelude.{IfSome, MatchOption, unwrap_or}
use Rattle.std.proofs.lemmas.List.{get_or-drop, take-append-drop, take_at, take_more, take-append-le, drop-append-le}
use Rattle.ioam_base.specs.Octets.{written}
use Rattle.ioam_batch.specs.Crossings.{filled, joined, parted, sent_if}

pub filled-append : (size : ℕ) (xs ys : List Bool) → filled size (xs ++ ys) ≡ filled size xs + filled size ys
filled-append size [] ys = omega arith
filled-append size (x ∷ xs) ys = omega (arith, filled-append size xs ys)

pub length-parted : (size : ℕ) (taps : List Bool) (octets : List ℕ) → length (parted size taps octets) ≡ length taps
length-parted size [] octets = refl
length-parted size (true ∷ taps) octets = ap suc (length-parted size taps (drop size octets))
length-parted size (false ∷ taps) octets = ap suc (length-parted size taps octets)

none-left : (octets : List ℕ) → length octets ≡ 0 → octets ≡ []
none-left [] none = refl
none-left (x ∷ xs) none = absurd (omega (arith, none))

pub parted-true : (size : ℕ) (taps : List Bool) (octets more rest : List ℕ) → length octets ≡ filled size taps → length more ≡ size
    → parted size (taps ++ true ∷ []) (octets ++ (more ++ rest)) ≡ parted size taps octets ++ Some more ∷ []
parted-true size [] octets more rest are sized =
    ap (λ xs. Some (take size (xs ++ (more ++ rest))) ∷ []) (none-left octets are) ∙ ap (λ xs. Some xs ∷ []) (take_at more rest size sized)
parted-true size (true ∷ taps) octets more rest are sized =
    let long : size ≤ length octets = omega (arith, are) in
    let left : length (drop size octets) ≡ filled size taps = omega (arith, are, length-drop size octets) in
    ap (λ xs. Some xs ∷ parted size (taps ++ true ∷ []) (drop size (octets ++ (more ++ rest)))) (take-append-le size octets (more ++ rest) long)
    ∙ ap (λ xs. Some (take size octets) ∷ parted size (taps ++ true ∷ []) xs) (drop-append-le size octets (more ++ rest) long)
    ∙ ap (λ xs. Some (take size octets) ∷ xs) (parted-true size taps (drop size octets) more rest left sized)
parted-true size (false ∷ taps) octets more rest are sized = ap (λ xs. None ∷ xs) (parted-true size taps octets more rest (omega (arith, are)) sized)

-- octets behind those of all visits are none of them
pub parted-front : (size : ℕ) (taps : List Bool) (octets rest : List ℕ) → length octets ≡ filled size taps
    → parted size taps (octets ++ rest) ≡ parted size taps octets
parted-front size [] octets rest are = refl
parted-front size (true ∷ taps) octets rest are =
    let long : size ≤ length octets = omega (arith, are) in
    let left : length (drop size octets) ≡ filled size taps = omega (arith, are, length-drop size octets) in
    ap (λ xs. Some xs ∷ parted size taps (drop size (octets ++ rest))) (take-append-le size octets rest long)
    ∙ ap (λ xs. Some (take size octets) ∷ parted size taps xs) (drop-append-le size octets rest long)
    ∙ ap (λ xs. Some (take size octets) ∷ xs) (parted-front size taps (drop size octets) rest left)
parted-front size (false ∷ taps) octets rest are = ap (λ xs. None ∷ xs) (parted-front size taps octets rest (omega (arith, are)))

-- the octets of one visit more, written behind those of the visits before
pub parted-written : (size : ℕ) (taps : List Bool) (octets more : List ℕ) (at : ℕ) → at ≡ filled size taps → at ≤ length octets → length more ≡ size
    → parted size (taps ++ true ∷ []) (written octets at more) ≡ parted size taps octets ++ Some more ∷ []
parted-written size taps octets more at is within sized =
    let front : length (take at octets) ≡ filled size taps = omega (arith, is, within, length-take at octets) in
    parted-true size taps (take at octets) more (drop (at + length more) octets) front sized
    ∙ ap (λ xs. xs ++ Some more ∷ []) (sym (parted-front size taps (take at octets) (drop at octets) front)
    ∙ ap (λ xs. parted size taps xs) (take-append-drop at octets))

pub parted-false : (size : ℕ) (taps : List Bool) (octets : List ℕ) → parted size (taps ++ false ∷ []) octets ≡ parted size taps octets ++ None ∷ []
parted-false size [] octets = refl
parted-false size (true ∷ taps) octets = ap (λ xs. Some (take size octets) ∷ xs) (parted-false size taps (drop size octets))
parted-false size (false ∷ taps) octets = ap (λ xs. None ∷ xs) (parted-false size taps octets)

-- the next visit, behind so many that are done
pub next-tap : (taps : List Bool) (done : ℕ) (tap : Bool) → 0 < length (drop done taps) → get_or (drop done taps) 0 false ≡ tap
    → take (done + 1) taps ≡ take done taps ++ tap ∷ []
next-tap taps done tap some is =
    let first : get_or (drop done taps) 0 false ≡ get_or taps done false = get_or-drop done taps 0 false ∙ ap (λ k. get_or taps k false) (add-zero done) in
    take_more taps done false (omega (arith, some, length-drop done taps)) ∙ ap (λ t. take done taps ++ t ∷ []) (sym first ∙ is)

pub filled-next : (size : ℕ) (taps : List Bool) (done : ℕ) (tap : Bool) → 0 < length (drop done taps) → get_or (drop done taps) 0 false ≡ tap
    → filled size (take (done + 1) taps) ≡ filled size (take done taps) + filled size (tap ∷ [])
filled-next size taps done tap some is = ap (filled size) (next-tap taps done tap some is) ∙ filled-append size (take done taps) (tap ∷ [])

pub filled-tap : (size : ℕ) (taps : List Bool) (done : ℕ) → 0 < length (drop done taps) → get_or (drop done taps) 0 false ≡ true
    → filled size (take (done + 1) taps) ≡ filled size (take done taps) + size
filled-tap size taps done some is = omega (arith, filled-next size taps done true some is)

pub filled-none : (size : ℕ) (taps : List Bool) (done : ℕ) → 0 < length (drop done taps) → get_or (drop done taps) 0 false ≡ false
    → filled size (take (done + 1) taps) ≡ filled size (take done taps)
filled-none size taps done some is = omega (arith, filled-next size taps done false some is)

pub filled-front : (size : ℕ) (taps : List Bool) (done : ℕ) → filled size (take done taps) ≤ filled size taps
filled-front size taps done =
    omega (arith, filled-append size (take done taps) (drop done taps), ap (filled size) (take-append-drop done taps))

one-few : (size : ℕ) (tap : Bool) → size ≤ 131072 → (if tap then size else 0) ≤ 131072
one-few size true few = few
one-few size false few = omega arith

pub filled-most : (size : ℕ) (taps : List Bool) → size ≤ 131072 → filled size taps ≤ 131072 * length taps
filled-most size [] few = omega arith
filled-most size (tap ∷ taps) few = omega (arith, one-few size tap few, filled-most size taps few)

-- ---- which visits send on links with a tap

taps-parted : (size : ℕ) (taps : List Bool) (octets : List ℕ) → map is_some (parted size taps octets) ≡ taps
taps-parted size [] octets = refl
taps-parted size (true ∷ taps) octets = ap (λ ts. true ∷ ts) (taps-parted size taps (drop size octets))
taps-parted size (false ∷ taps) octets = ap (λ ts. false ∷ ts) (taps-parted size taps octets)

-- those that are kept of all visits
pub taps-all : (size : ℕ) (taps : List Bool) (done : ℕ) (octets : List ℕ) → map is_some (parted size (take done taps) octets) ++ drop done taps ≡ taps
taps-all size taps done octets = ap (λ ts. ts ++ drop done taps) (taps-parted size (take done taps) octets) ∙ take-append-drop done taps

some_sent : (taps : List Bool) (i : ℕ) → is_some (joined (slice_get (map (λ tap. sent_if tap []) taps) i)) ≡ get_or taps i false
some_sent [] i = refl
some_sent (true ∷ ts) zero = refl
some_sent (false ∷ ts) zero = refl
some_sent (t ∷ ts) (suc i) = some_sent ts i

-- something is kept of a visit exactly where it sends on one
pub some-at : (past : List (Option (List ℕ))) (ahead : List Bool) (i : ℕ)
    → is_some (joined (slice_get (past ++ map (λ tap. sent_if tap []) ahead) i)) ≡ get_or (map is_some past ++ ahead) i false
some-at [] ahead i = some_sent ahead i
some-at (found ∷ past) ahead zero = refl
some-at (found ∷ past) ahead (suc i) = some-at past ahead i

-- before its visits nothing is
pub none-before : (taps : List Bool) (i : ℕ) (octets : List ℕ) → joined (slice_get (map (λ tap. sent_if tap []) taps) i) ≡ Some octets → octets ≡ []
none-before [] i octets is = absurd (cc is)
none-before (true ∷ ts) zero octets is = ap (λ o. unwrap_or o octets) (sym is)
none-before (false ∷ ts) zero octets is = absurd (cc is)
none-before (t ∷ ts) (suc i) octets is = none-before ts i octets is

-- ---- what a visit sent, so many of them being done

module _ (size : ℕ) where
  abbrev pub all-of : List Bool → ℕ → List ℕ → List (Option (List ℕ))
  all-of taps done octets = parted size (take done taps) octets ++ map (λ tap. sent_if tap []) (drop done taps)

  pub at-past : (taps : List Bool) (done : ℕ) (octets : List ℕ) (at : ℕ) → length taps ≤ at → joined (slice_get (all-of taps done octets) at) ≡ None
  at-past [] zero octets at past = refl
  at-past [] (suc done) octets at past = refl
  at-past (t ∷ ts) done octets zero past = absurd (omega (arith, past))
  at-past (t ∷ ts) zero octets (suc at) past = at-past ts zero octets at (omega (arith, past))
  at-past (true ∷ ts) (suc done) octets (suc at) past = at-past ts done (drop size octets) at (omega (arith, past))
  at-past (false ∷ ts) (suc done) octets (suc at) past = at-past ts done octets at (omega (arith, past))

  pub at-none : (taps : List Bool) (done : ℕ) (octets : List ℕ) (at : ℕ) → get_or taps at false ≡ false → joined (slice_get (all-of taps done octets) at) ≡ None
  at-none [] zero octets at is = refl
  at-none [] (suc done) octets at is = refl
  at-none (true ∷ ts) done octets zero is = absurd (true≢false is)
  at-none (false ∷ ts) zero octets zero is = refl
  at-none (false ∷ ts) (suc done) octets zero is = refl
  at-none (t ∷ ts) zero octets (suc at) is = at-none ts zero octets at is
  at-none (true ∷ ts) (suc done) octets (suc at) is = at-none ts done (drop size octets) at is
  at-none (false ∷ ts) (suc done) octets (suc at) is = at-none ts done octets at is

  pub at-ahead : (taps : List Bool) (done : ℕ) (octets : List ℕ) (at : ℕ) → done ≤ at → get_or taps at false ≡ true
      → joined (slice_get (all-of taps done octets) at) ≡ Some []
  at-ahead [] done octets at ahead is = absurd (true≢false (sym is))
  at-ahead (true ∷ ts) zero octets zero ahead is = refl
  at-ahead (false ∷ ts) zero octets zero ahead is = absurd (true≢false (sym is))
  at-ahead (t ∷ ts) (suc done) octets zero ahead is = absurd (omega (arith, ahead))
  at-ahead (t ∷ ts) zero octets (suc at) ahead is = at-ahead ts zero octets at (omega arith) is
  at-ahead (true ∷ ts) (suc done) octets (suc at) ahead is = at-ahead ts done (drop size octets) at (omega (arith, ahead)) is
  at-ahead (false ∷ ts) (suc done) octets (suc at) ahead is = at-ahead ts done octets at (omega (arith, ahead)) is

  pub at-done : (taps : List Bool) (done : ℕ) (octets : List ℕ) (at : ℕ) → at < done → get_or taps at false ≡ true
      → joined (slice_get (all-of taps done octets) at) ≡ Some (take size (drop (filled size (take at taps)) octets))
  at-done [] done octets at before is = absurd (true≢false (sym is))
  at-done (t ∷ ts) zero octets at before is = absurd (omega (arith, before))
  at-done (true ∷ ts) (suc done) octets zero before is = refl
  at-done (true ∷ ts) (suc done) octets (suc at) before is =
      at-done ts done (drop size octets) at (omega (arith, before)) is
      ∙ ap (λ xs. Some (take size xs)) (drop-drop (filled size (take at ts)) size octets)
  at-done (false ∷ ts) (suc done) octets zero before is = absurd (true≢false (sym is))
  at-done (false ∷ ts) (suc done) octets (suc at) before is =
      at-done ts done octets at (omega (arith, before)) is ∙ ap (λ k. Some (take size (drop k octets))) (sym (zero-add (filled size (take at ts))))

  pub fits-done : (taps : List Bool) (done at : ℕ) → at < done → get_or taps at false ≡ true
      → filled size (take at taps) + size ≤ filled size (take done taps)
  fits-done [] done at before is = absurd (true≢false (sym is))
  fits-done (t ∷ ts) zero at before is = absurd (omega (arith, before))
  fits-done (true ∷ ts) (suc done) zero before is = omega arith
  fits-done (false ∷ ts) (suc done) zero before is = absurd (true≢false (sym is))
  fits-done (t ∷ ts) (suc done) (suc at) before is = omega (arith, fits-done ts done at (omega (arith, before)) is)

-- ---- what is answered of a visit

module _ {X : Type 0} (octets_of : X → List ℕ) where
  -- octets are answered exactly where some are kept
  pub some-said : (result : Option X) (kept : Option (List ℕ)) → MatchOption result (kept ≡ None) (λ x. kept ≡ Some (octets_of x))
      → is_some result ≡ is_some kept
  some-said None kept said = sym (ap is_some said)
  some-said (Some x) kept said = sym (ap is_some said)

  -- before any visit they are none
  pub none-said : (result : Option X) (past : List (Option (List ℕ))) (ahead : List Bool) (i : ℕ) → past ≡ []
      → MatchOption result (joined (slice_get (past ++ map (λ tap. sent_if tap []) ahead) i) ≡ None)
      (λ x. joined (slice_get (past ++ map (λ tap. sent_if tap []) ahead) i) ≡ Some (octets_of x))
      → IfSome result (λ x. octets_of x ≡ [])
  none-said None past ahead i none said = tt
  none-said (Some x) past ahead i none said = none-before ahead i (octets_of x)
      (ap (λ ps. joined (slice_get (ps ++ map (λ tap. sent_if tap []) ahead) i)) (sym none) ∙ said)
