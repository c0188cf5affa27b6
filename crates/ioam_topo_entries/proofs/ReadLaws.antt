-- Laws of what is true of values that were read.
use Rattle.std.proofs.Common.{◌≡◌, ◌≤◌, ℕ, Bool, true, false, nat_le, ◌&&◌, cond, ℤ, pos, negsuc, Option, Some, None, is_some, Result, Ok, Err, refl, ap, sym, ◌∙◌, arith}
use Rattle.std.specs.Option.{ForSome}
use Rattle.std.proofs.lemmas.Bool.Decides.{nat_tests}
use Rattle.toml.specs.Data.{Data}
use Rattle.ioam_topo_values.specs.declared.why.Why.{Why}
use Rattle.ioam_topo_values.specs.declared.why.Why.TheVariants.{Range}
use Rattle.ioam_topo_values.specs.Reads.{◌▷◌, maybe, needed}
use Rattle.ioam_topo_values.specs.Pairs.{beside}
use Rattle.ioam_topo_values.specs.Numbers.{number, whole, within}
use Rattle.ioam_topo_values.specs.Types.{passing}

tested : (b : Bool) (n x : ℕ) → cond b (Ok n) (Err Range) ≡ Ok x → (b ≡ true) × (n ≡ x)
tested true n x is = (refl, cc)
tested false n x is = cc

within_bounds : (low high : ℕ) (z : ℤ) (x : ℕ) → within low high z ≡ Ok x → (low ≤ x) × (x ≤ high)
within_bounds low high (pos n) x is =
    let both : ((nat_le low n && nat_le n high) ≡ true) × (n ≡ x) = tested (nat_le low n && nat_le n high) n x is in
    let least : low ≤ n = grind (arith, nat_tests, both.0) in
    let most : n ≤ high = grind (arith, nat_tests, both.0) in (omega (arith, least, both.1), omega (arith, most, both.1))
within_bounds low high (negsuc n) x is = cc

bounded : (low high : ℕ) (r : Result ℤ Why) (x : ℕ) → r ▷ within low high ≡ Ok x → (low ≤ x) × (x ≤ high)
bounded low high (Ok z) x is = within_bounds low high z x is
bounded low high (Err why) x is = cc

pub number_bounds : (low high : ℕ) (d : Data) (x : ℕ) → number low high d ≡ Ok x → (low ≤ x) × (x ≤ high)
number_bounds low high d x is = bounded low high (whole d) x is

-- a number that is needed is within its bounds
pub needed_bounds : (low high : ℕ) (o : Option Data) (x : ℕ) → needed (number low high) o ≡ Ok x → (low ≤ x) × (x ≤ high)
needed_bounds low high None x is = cc
needed_bounds low high (Some d) x is = number_bounds low high d x is

-- a number that passed a test
pub passed : (test : ℕ → Bool) (r : Result ℕ Why) (x : ℕ) → r ▷ passing test ≡ Ok x → test x ≡ true
passed test (Ok n) x is = let both : (test n ≡ true) × (n ≡ x) = tested (test n) n x is in ap test (sym both.1) ∙ both.0
passed test (Err why) x is = cc

-- and was that number before
pub passed_from : (test : ℕ → Bool) (r : Result ℕ Why) (x : ℕ) → r ▷ passing test ≡ Ok x → r ≡ Ok x
passed_from test (Ok n) x is = ap Ok (tested (test n) n x is).1
passed_from test (Err why) x is = cc

pub beside_off : {A : Type 0} (other : Bool) (r : Result (Option A) Why) (x : Option A) → r ▷ beside other ≡ Ok x → r ≡ Ok x
beside_off true (Ok None) x is = cc
beside_off false (Ok None) x is = is
beside_off other (Ok (Some y)) x is = is
beside_off other (Err why) x is = cc

read_some : {A : Type 0} (r : Result A Why) (x : Option A) (n : A) → r ▷ (λ y. Ok (Some y)) ≡ Ok x → x ≡ Some n → r ≡ Ok n
read_some (Ok y) x n is some = cc
read_some (Err why) x n is some = cc

-- what is true of each value of a kind is true of one that may be absent
pub maybe_for : {A : Type 0} (kind : Data → Result A Why) (P : A → Type 0) → ((d : Data) (n : A) → kind d ≡ Ok n → P n)
    → (o : Option Data) (x : Option A) → maybe kind o ≡ Ok x → ForSome x P
maybe_for kind P each None x is = λ n some. absurd (cc)
maybe_for kind P each (Some d) x is = λ n some. each d n (read_some (kind d) x n is some)

some_there : {A : Type 0} (r : Result A Why) (x : Option A) → r ▷ (λ y. Ok (Some y)) ≡ Ok x → is_some x ≡ true
some_there (Ok y) x is = let same : x ≡ Some y = cc in rw same
some_there (Err why) x is = cc

maybe_there : {A : Type 0} (kind : Data → Result A Why) (o : Option Data) (x : Option A) → maybe kind o ≡ Ok x → is_some x ≡ is_some o
maybe_there kind None x is = let same : x ≡ None = cc in rw same
maybe_there kind (Some d) x is = some_there (kind d) x is

needed_there : {A : Type 0} (other : Bool) (r : Result (Option A) Why) (x : Option A) → r ▷ beside other ≡ Ok x → other ≡ true → is_some x ≡ true
needed_there true (Ok None) x is on = cc
needed_there false (Ok None) x is on = cc
needed_there other (Ok (Some y)) x is on = let same : x ≡ Some y = cc in rw same
needed_there other (Err why) x is on = cc

-- of two keys that go together both are there or none
pub paired : {A B : Type 0} (first : Data → Result A Why) (second : Data → Result B Why) (other : Bool) (o p : Option Data) (x : Option A) (y : Option B)
    → (is_some p ≡ true → other ≡ true) → maybe first o ▷ beside other ≡ Ok x → maybe second p ▷ beside (is_some o) ≡ Ok y → is_some y ≡ is_some x
paired first second other o (Some e) x y on is also =
    maybe_there second (Some e) y (beside_off (is_some o) (maybe second (Some e)) y also) ∙ sym (needed_there other (maybe first o) x is (on refl))
paired first second other (Some d) None x y on is also =
    needed_there true (maybe second None) y also refl ∙ sym (maybe_there first (Some d) x (beside_off other (maybe first (Some d)) x is))
paired first second other None None x y on is also =
    maybe_there second None y (beside_off false (maybe second None) y also) ∙ sym (maybe_there first None x (beside_off other (maybe first None) x is))
