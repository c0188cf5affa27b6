-- What a node of ours does is legal.
use Rattle.std.proofs.Common.{◌≡◌, inl, inr, ℕ, ◌+◌, ◌/◌, ◌≤◌, Bool, true, cond, eqb, leb, ltb, ◌&&◌, List, arith, refl, sym, ap, ◌∙◌}
use Rattle.std.proofs.lemmas.Bool.{cases_lt, and_parts}
use Rattle.std.proofs.lemmas.Bool.Decides.{nat_tests}
use Rattle.ioam_data.specs.Kind.{words, undefined, fits_type, can_add}
use Rattle.ioam_data.specs.View.{Seen}
use Rattle.ioam_trace.specs.Head.{node_len_of, kind_of}
use Rattle.ioam_audit.specs.Becomes.{may_add, with_check, MayBecome}
use Rattle.ioam_audit.specs.Decided.{with_element}
use Rattle.ioam_audit.specs.Free.{IsFree}
use Rattle.ioam_trace.specs.Filling.{IsSuited, Filling, IsSuitedBy, FillingBy}
use Rattle.ioam_trace.specs.declared.addition.Filled.{Filled}
use Rattle.ioam_trace.specs.declared.addition.Filled.TheVariants.{Added, Overflowed, AlreadyOver, Unsuited}
use Rattle.ioam_data.specs.Written.{element_of}
use Rattle.ioam_audit.proofs.CheckLaws.{checked-added, checked-ones}

looser : (u w n : ℕ) (some : Bool) → (cond (eqb u 0) (eqb n w) (leb (w + u) n) && some) ≡ true → (cond (eqb u 0) (eqb n w) (leb w n) && some) ≡ true
looser u w n some can = grind (arith, nat_tests, and_parts)

no_stricter : (u w n : ℕ) (some : Bool) → u ≤ 0 → (cond (eqb u 0) (eqb n w) (leb w n) && some) ≡ true → (cond (eqb u 0) (eqb n w) (leb (w + u) n) && some) ≡ true
no_stricter u w n some none may = grind (arith, nat_tests, and_parts)

fit_of : (old : List ℕ) → IsSuited old → IsSuitedBy may_add old
unfolding can_add fits_type
fit_of old suited = record {
  in_words = suited.in_words;
  space = suited.space;
  can = looser (undefined (kind_of old)) (words (kind_of old)) (node_len_of old) (ltb 0 (kind_of old / 2)) suited.can;
}

suited_of : (old : List ℕ) → undefined (kind_of old) ≤ 0 → IsSuitedBy may_add old → IsSuited old
unfolding can_add fits_type
suited_of old none fit = record {
  in_words = fit.in_words;
  space = fit.space;
  can = no_stricter (undefined (kind_of old)) (words (kind_of old)) (node_len_of old) (ltb 0 (kind_of old / 2)) none fit.can;
}

module _ (hops id inward : ℕ) (old new : List ℕ) (view : Seen) (free : IsFree hops id inward view) where
  fill : (answer : Filled) → FillingBy may_add old view new answer → new ≡ with_check old answer new 4294967295 → MayBecome hops id inward old new
  fill answer fills is = inr (record { view = view; answer = answer; filled = new; check = 4294967295; free = free; fills = fills; is = is })

  pub filling-legal : (answer : Filled) → Filling old view new answer → MayBecome hops id inward old new
  filling-legal AlreadyOver f = fill AlreadyOver f refl
  filling-legal Unsuited f = elim (cases_lt 0 (undefined (kind_of old))) [
    | inl some ↦ inl (some, f.1)
    | inr none ↦ fill Unsuited (λ begins. let clear = f.0 begins in (clear.0, λ fit. clear.1 (suited_of old none fit)), f.1) refl
  ]
  filling-legal Overflowed f = fill Overflowed (f.0, fit_of old f.1, f.2, f.3) refl
  filling-legal (Added amount) f =
      let element = element_of (kind_of old) (node_len_of old) view in
      fill (Added amount) (f.0, fit_of old f.1, f.2, f.3, f.4)
      (f.4 ∙ ap (λ xs. with_element old amount xs) (sym (checked-ones (kind_of old) (node_len_of old) view))
      ∙ sym (checked-added old amount view 4294967295 (fit_of old f.1).space) ∙ ap (λ xs. with_check old (Added amount) xs 4294967295) (sym f.4))
