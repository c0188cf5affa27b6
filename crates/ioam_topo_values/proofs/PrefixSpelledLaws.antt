-- A prefix reads as what its text spells, both ways, in the words of RFC 4291 section 2.3.
use Rattle.std.proofs.Common.{◌≡◌, ℕ, suc, ◌+◌, ◌≤◌, true, false, not, nat_lt, eqb, cond, List, [], ◌∷◌, ◌++◌, length, get_or, take, drop, Option, Some, None, Result, Ok, Err, IfOk, refl, ap, ap₂, sym, subst, ◌∙◌, arith, eqb-true, ne_eqb, true≢false, length-append}
use Rattle.std.specs.List.{position_or_len}
use Rattle.std.proofs.Math.Seq.{take-append_seam, drop-append-add, split_at}
use Rattle.std.proofs.lemmas.Bool.{and_parts}
use Rattle.std.proofs.lemmas.Bool.Decides.{nat_tests}
use Rattle.std.proofs.lemmas.List.Quantifiers.{position-Some}
use Rattle.toml.specs.Data.{Data, string}
use Rattle.ioam_base.proofs.DecimalLaws.{decimal_iff}
use Rattle.ioam_topo.specs.declared.prefix.Prefix.{Prefix}
use Rattle.ioam_topo.specs.Prefixes.{masked, IsPrefix}
use Rattle.ioam_topo.proofs.PrefixLaws.{masked_is}
use Rattle.ioam_topo_values.specs.declared.why.Why.{Why}
use Rattle.ioam_topo_values.specs.Reads.{◌▷◌, needed}
use Rattle.ioam_topo_values.specs.Texts.{text}
use Rattle.ioam_topo_values.specs.Addresses.{is_address_octet, is_plain, address_of, ranged}
use Rattle.ioam_topo_values.specs.Prefixes.{length_of, prefix_of, parted, slash_at, prefix, IsLength, SpellsPrefix}
use Rattle.ioam_topo_values.proofs.AddressLaws.{address_spells, spells_address}

-- every text that is a prefix length reads as it
length_reads : (s : List ℕ) (n : ℕ) → IsLength s n → length_of s ≡ Some n
length_reads s n h = (decimal_iff 129 s n (omega arith)).1 (omega (arith, h.0), h.1)

-- what reads as a prefix length is its digits
length_is : (s : List ℕ) (n : ℕ) → length_of s ≡ Some n → IsLength s n
length_is s n is = let h = (decimal_iff 129 s n (omega arith)).0 is in (omega (arith, h.0), h.1)

-- the first `/` behind an address
no_slash : (b : ℕ) → is_address_octet b ≡ true → eqb b 47 ≡ false
no_slash b h = ne_eqb b 47 (λ same. true≢false (sym h ∙ ap is_address_octet same))

first_slash : (s t : List ℕ) → is_plain s ≡ true → position_or_len (λ b. eqb b 47) (s ++ 47 ∷ t) ≡ length s
first_slash [] t h = refl
first_slash (b ∷ bs) t h = let each = and_parts (is_address_octet b) (is_plain bs) h in
    ap (λ x. cond (not x) (1 + position_or_len (λ b. eqb b 47) (bs ++ 47 ∷ t)) 0) (no_slash b each.0) ∙ ap (λ k. 1 + k) (first_slash bs t each.1) ∙ omega arith

-- it stands at the address's end
slash_behind : (s t : List ℕ) → is_plain s ≡ true → slash_at (s ++ 47 ∷ t) ≡ Some (length s)
slash_behind s t h = let at = first_slash s t h in
    let inside : nat_lt (position_or_len (λ b. eqb b 47) (s ++ 47 ∷ t)) (length (s ++ 47 ∷ t)) ≡ true = grind (arith, nat_tests, at, length-append s (47 ∷ t)) in
    ap (λ x. cond x (Some (position_or_len (λ b. eqb b 47) (s ++ 47 ∷ t))) None) inside ∙ ap Some at

-- a text whose first `/` stands at a place
slash_splits : (s : List ℕ) (i : ℕ) → slash_at s ≡ Some i → s ≡ take i s ++ 47 ∷ drop (i + 1) s
slash_splits s i is = let found = position-Some (λ b. eqb b 47) s i 0 is in
    let next : suc i ≡ i + 1 = omega arith in
    split_at s i 0 found.0 ∙ ap₂ (λ (b k : ℕ). take i s ++ b ∷ drop k s) (eqb-true (get_or s i 0) 47 found.1) next

abbrev bits_and : ℕ → ℕ → Prefix
bits_and bits length = record { bits = bits; length = length }

prefix_by : (s before behind : List ℕ) (p : Prefix) (a b : Option ℕ) → s ≡ before ++ 47 ∷ behind → address_of before ≡ a → length_of behind ≡ b
    → prefix_of a b ≡ Some p → SpellsPrefix s p
prefix_by s before behind p None b slash at also is = absurd (cc)
prefix_by s before behind p (Some bits) None slash at also is = absurd (cc)
prefix_by s before behind p (Some bits) (Some n) slash at also is =
    let same : bits_and (masked n bits) n ≡ p = cc in
    let long : n ≡ p.length = ap (λ (q : Prefix). q.length) same in
    record {
      before = before;
      bits = bits;
      behind = behind;
      slash = slash;
      spells = address_spells before bits at;
      is_length = subst (IsLength behind) long (length_is behind n also);
      is = sym (ap (λ (q : Prefix). q.bits) same) ∙ ap (λ k. masked k bits) long;
    }

parted_spells : (s : List ℕ) (p : Prefix) (o : Option ℕ) → slash_at s ≡ o → parted o s ≡ Some p → SpellsPrefix s p
parted_spells s p None at is = absurd (cc)
parted_spells s p (Some i) at is = prefix_by s (take i s) (drop (i + 1) s) p (address_of (take i s)) (length_of (drop (i + 1) s)) (slash_splits s i at) refl refl is

-- every text that spells a prefix reads as it
pub spells_prefix : (s : List ℕ) (p : Prefix) → SpellsPrefix s p → parted (slash_at s) s ≡ Some p
spells_prefix s p h =
    let n : ℕ = length h.before in
    let place : slash_at s ≡ Some n = ap slash_at h.slash ∙ slash_behind h.before h.behind h.spells.plain in
    let ahead : take n s ≡ h.before = ap (take n) h.slash ∙ take-append_seam h.before (47 ∷ h.behind) in
    let past : drop (n + 1) s ≡ h.behind = ap (drop (n + 1)) h.slash ∙ drop-append-add h.before (47 ∷ h.behind) 1 in
    ap (λ o. parted o s) place ∙ ap₂ prefix_of (ap address_of ahead ∙ spells_address h.before h.bits h.spells) (ap length_of past ∙ length_reads h.behind p.length h.is_length)
    ∙ ap (λ (bits : ℕ). Some (bits_and bits p.length)) (sym h.is)

ranged_prefix : (o : Option Prefix) (p : Prefix) → ranged o ≡ Ok p → o ≡ Some p
ranged_prefix None p is = cc
ranged_prefix (Some x) p is = cc

-- the text at a key spells the prefix that was read there
pub key_spells_prefix : (o : Option Data) (r : Result Prefix Why) (s : List ℕ) → r ≡ needed prefix o → o ≡ Some (string s) → (p : Prefix) → r ≡ Ok p → SpellsPrefix s p
key_spells_prefix o r s reads at p is = parted_spells s p (slash_at s) refl (ranged_prefix (parted (slash_at s) s) p (sym (ap (needed prefix) at) ∙ sym reads ∙ is))

-- the text at a key reads as the prefix that it spells
pub key_read_prefix : (o : Option Data) (r : Result Prefix Why) (s : List ℕ) (p : Prefix) → r ≡ needed prefix o → o ≡ Some (string s) → SpellsPrefix s p → r ≡ Ok p
key_read_prefix o r s p reads at h = reads ∙ ap (needed prefix) at ∙ ap ranged (spells_prefix s p h)

prefix_is : (a b : Option ℕ) (p : Prefix) → ((n : ℕ) → b ≡ Some n → n ≤ 128) → prefix_of a b ≡ Some p → IsPrefix p
prefix_is (Some bits) (Some n) p short is = let same : bits_and (masked n bits) n ≡ p = cc in subst IsPrefix same (masked_is n bits (short n refl))
prefix_is (Some bits) None p short is = absurd (cc)
prefix_is None b p short is = absurd (cc)

parted_is : (s : List ℕ) (o : Option ℕ) (p : Prefix) → parted o s ≡ Some p → IsPrefix p
parted_is s None p is = absurd (cc)
parted_is s (Some i) p is = prefix_is (address_of (take i s)) (length_of (drop (i + 1) s)) p (λ n long. (length_is (drop (i + 1) s) n long).0) is

text_is : (r : Result (List ℕ) Why) (p : Prefix) → r ▷ (λ s. ranged (parted (slash_at s) s)) ≡ Ok p → IsPrefix p
text_is (Ok s) p is = parted_is s (slash_at s) p (ranged_prefix (parted (slash_at s) s) p is)
text_is (Err why) p is = absurd (cc)

-- what reads as a prefix is one
pub key_is_prefix : (o : Option Data) (p : Prefix) → needed prefix o ≡ Ok p → IsPrefix p
key_is_prefix None p is = absurd (cc)
key_is_prefix (Some d) p is = text_is (text d) p is

pub read_is_prefix : (o : Option Data) (r : Result Prefix Why) → r ≡ needed prefix o → IfOk r IsPrefix
read_is_prefix o (Ok p) reads = key_is_prefix o p (sym reads)
read_is_prefix o (Err why) reads = tt
