-- What data of two octets or more says is what its Option-Type says.
use Rattle.std.proofs.Common.{◌≡◌, ℕ, Bool, false, List, length, drop, Result, sym, subst, codes}
use Rattle.std.specs.Prelude.{nat_lt, slice_index}
use Rattle.std.specs.Bool.{MatchBool}
use Rattle.ioam_data.specs.OptionType.{option_type}
use Rattle.ioam_report_options.specs.Appends.{Appends}
use Rattle.ioam_report_options.specs.OptionText.{SaysBy, Says, Fronted}
use Rattle.ioam_report_options.proofs.AppendsLaws.{Appends-map}

typed_says : (body rest : List ℕ) (value : ℕ) (said : List ℕ) → nat_lt (length body) 2 ≡ false → value ≡ slice_index body 1 → rest ≡ drop 2 body
    → SaysBy (option_type value) value rest said → Says body said
typed_says body rest value said long is_value is_rest says =
    let ByRest : List ℕ → Type 0 = λ octets. SaysBy (option_type value) value octets said in
    let ByValue : ℕ → Type 0 = λ number. SaysBy (option_type number) number (drop 2 body) said in
    let ByLength : Bool → Type 0 = λ short. MatchBool short (said ≡ codes "short\n") (SaysBy (option_type (slice_index body 1)) (slice_index body 1) (drop 2 body) said) in
    subst ByLength (sym long) (subst ByValue is_value (subst ByRest is_rest says))

pub says_typed : {T E : Type 0} (body rest : List ℕ) (value kind at : ℕ) (r : Result T E) (old new : List ℕ) → nat_lt (length body) 2 ≡ false
    → value ≡ slice_index body 1 → rest ≡ drop 2 body → Appends r (Fronted kind at (SaysBy (option_type value) value rest)) old new
    → Appends r (Fronted kind at (Says body)) old new
says_typed body rest value kind at r old new long is_value is_rest appends =
    Appends-map r (Fronted kind at (SaysBy (option_type value) value rest)) (Fronted kind at (Says body)) old new appends
    (λ text told. (told.0, typed_says body rest value told.0 long is_value is_rest told.1, told.2))
