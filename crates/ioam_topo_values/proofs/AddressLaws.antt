-- What reads as an address spells it, and what spells one reads as it.
use Rattle.std.proofs.Common.{◌≡◌, ℕ, Bool, true, false, cond, List, [], ◌∷◌, Option, Some, None, option_map, Result, Ok, refl, ap, sym, subst, ◌∙◌, append-nil, length, ne_eqb, arith}
use Rattle.std.proofs.lemmas.Option.{none-some}
use Rattle.std.proofs.NetLemmas.Ipv6.{read_ipv6_complete, read_ipv6_sound, EndsGroups-nil}
use Rattle.std.specs.declared.net.ipv6_addr.Ipv6Addr.{Ipv6Addr}
use Rattle.std.specs.Net.Grammar.{IsColonHex, IsIpv6Text}
use Rattle.std.specs.Net.Reader.{read_ipv6, whole_value}
use Rattle.toml.specs.Data.{Data, string}
use Rattle.ioam_topo_values.specs.declared.why.Why.{Why}
use Rattle.ioam_topo_values.specs.Reads.{needed}
use Rattle.ioam_topo_values.specs.Addresses.{is_plain, number_of, address_of, ranged, address, Spells}

-- what is in std's grammar is read whole
whole_text : (s gs : List ℕ) → IsColonHex s gs → whole_value (read_ipv6 s) ≡ Some gs
whole_text s gs h = ap whole_value (ap read_ipv6 (sym (append-nil s)) ∙ read_ipv6_complete s gs [] h EndsGroups-nil)

by_rest : (s gs hs rest : List ℕ) → read_ipv6 s ≡ Some (hs, rest) → whole_value (Some (hs, rest)) ≡ Some gs → IsColonHex s gs
by_rest s gs hs [] at is = let sound = read_ipv6_sound s hs [] at in
    let same : hs ≡ gs = cc in
    subst (IsColonHex s) same (subst (λ t. IsColonHex t hs) (sym (sound.1 ∙ append-nil sound.0)) sound.2)
by_rest s gs hs (b ∷ rest) at is = absurd (none-some gs (rw (ne_eqb (length (b ∷ rest)) 0 (omega arith)) at is))

-- what is read whole is in std's grammar
whole_is : (s gs : List ℕ) (r : Option (List ℕ × List ℕ)) → read_ipv6 s ≡ r → whole_value r ≡ Some gs → IsColonHex s gs
whole_is s gs None at is = absurd (cc)
whole_is s gs (Some p) at is = by_rest s gs p.0 p.1 at is

-- what is not in std's grammar is not read whole
pub no_text : (s : List ℕ) → ((a : Ipv6Addr) → ¬ (IsIpv6Text s a)) → whole_value (read_ipv6 s) ≡ None
no_text s never = by_read (whole_value (read_ipv6 s)) refl where
  by_read : (o : Option (List ℕ)) → whole_value (read_ipv6 s) ≡ o → o ≡ None
  by_read None at = refl
  by_read (Some gs) at = absurd (never (record { segments = gs }) (whole_is s gs (read_ipv6 s) refl at))

-- every text that spells an address reads as it
pub spells_address : (s : List ℕ) (n : ℕ) → Spells s n → address_of s ≡ Some n
spells_address s n h = rw (h.plain, whole_text s h.address.segments h.spells) (ap Some (sym h.is))

-- what a text reads as it spells
pub address_spells : (s : List ℕ) (n : ℕ) → address_of s ≡ Some n → Spells s n
address_spells s n is = by_plain (is_plain s) (whole_value (read_ipv6 s)) refl refl is where
  by_plain : (t : Bool) (o : Option (List ℕ)) → is_plain s ≡ t → whole_value (read_ipv6 s) ≡ o → cond t (option_map number_of o) None ≡ Some n → Spells s n
  by_plain false o plain at is = absurd (cc)
  by_plain true None plain at is = absurd (cc)
  by_plain true (Some gs) plain at is = record {
    address = record { segments = gs };
    plain = plain;
    spells = whole_is s gs (read_ipv6 s) refl at;
    is = cc;
  }

ranged_some : (o : Option ℕ) (n : ℕ) → ranged o ≡ Ok n → o ≡ Some n
ranged_some None n is = cc
ranged_some (Some x) n is = cc

-- the text at a key spells the address that was read there
pub key_spells : (o : Option Data) (r : Result ℕ Why) (s : List ℕ) → r ≡ needed address o → o ≡ Some (string s) → (n : ℕ) → r ≡ Ok n → Spells s n
key_spells o r s reads at n is = address_spells s n (ranged_some (address_of s) n (sym (ap (needed address) at) ∙ sym reads ∙ is))

-- the text at a key reads as the address that it spells
pub key_read : (o : Option Data) (r : Result ℕ Why) (s : List ℕ) (n : ℕ) → r ≡ needed address o → o ≡ Some (string s) → Spells s n → r ≡ Ok n
key_read o r s n reads at h = reads ∙ ap (needed address) at ∙ ap ranged (spells_address s n h)
