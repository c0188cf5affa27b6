-- The fields of an element of a free view are lawful.
use Rattle.std.proofs.Common.{◌≡◌, ◌⊎◌, inl, inr, ℕ, ◌+◌, ◌*◌, ◌-◌, ◌/◌, ◌%◌, ◌<◌, ◌≤◌, Bool, true, false, cond, List, arith, refl, sym, ap, ◌∙◌, subst, Option, Some, None}
use Rattle.std.specs.Prelude.{IfSome, nat_lt}
use Rattle.std.proofs.lemmas.List.Elements.{All-replicate}
use Rattle.std.proofs.lemmas.Bool.Decides.{nat_tests}
use Rattle.ioam_data.specs.Fields.{Held, named, fields_of}
use Rattle.ioam_data.specs.Kind.{has, words}
use Rattle.ioam_data.specs.Shape.{parted}
use Rattle.ioam_data.specs.Table.{table}
use Rattle.ioam_data.specs.View.{Seen}
use Rattle.ioam_data.specs.Written.{element_of, or_ones, narrow_face, narrow_id, delay_of}
use Rattle.ioam_data.proofs.FieldLaws.{narrow_id_below, narrow_face_below}
use Rattle.ioam_data.proofs.TableLaws.{kept_by}
use Rattle.ioam_audit.specs.Free.{IsFree}
use Rattle.ioam_audit.specs.Lawful.{ComesBy, IsLawful}
use Rattle.ioam_audit.proofs.CheckLaws.{checked, checked_by, fields_of-checked, ones}

-- these octets are the element of some free view, but for the checksum complement
pub record MayAdd (kind node_len hops id inward : ℕ) (octets : List ℕ) : Type 0 where
  pub view : Seen
  pub check : ℕ
  pub free : IsFree hops id inward view
  pub is : octets ≡ checked kind (element_of kind node_len view) check

-- ---- a field that is there

one_there : (b : Bool) (number : ℕ) (P : ℕ → Type 0) → P number → IfSome (cond b (Some number) None) P
one_there true number P p = p
one_there false number P p = tt

two_there : (b : Bool) (unit number : ℕ) (P : ℕ × ℕ → Type 0) → P (number / unit, number % unit) → IfSome (parted unit (cond b (Some number) None)) P
two_there true unit number P p = p
two_there false unit number P p = tt

delay_lawful : (delay : Option ℕ) → (delay_of delay % 4294967296 ≤ 2147483648) ⊎ (delay_of delay % 4294967296 ≡ 4294967295)
delay_lawful None = inr refl
delay_lawful (Some delay) = inl (most delay)
  where
    most : (delay : ℕ) → cond (nat_lt 2147483647 delay) 2147483648 delay % 4294967296 ≤ 2147483648
    most delay = let below : cond (nat_lt 2147483647 delay) 2147483648 delay ≤ 2147483648 = grind (arith, nat_tests) in omega (arith, below)

out_same : (outward : Option ℕ) → IfSome outward (λ number. number < 4294967296) → narrow_face outward ≡ narrow_face (Some (or_ones outward % 4294967296))
out_same None below = refl
out_same (Some face) below = let same : face ≡ face % 4294967296 = omega (arith, below) in ap (λ n. narrow_face (Some n)) same

module _ (kind node_len hops id inward : ℕ) (hops_below : hops < 256) (id_below : id < 72057594037927936) (inward_below : inward < 4294967296)
    (view : Seen) (check : ℕ) (free : IsFree hops id inward view) where
  -- the numbers of the rows of bits 0, 1, 8 and 9
  abbrev n0 : ℕ
  n0 = (view.hops * 16777216 + narrow_id view.id) % 4294967296

  abbrev n1 : ℕ
  n1 = (narrow_face view.inward * 65536 + narrow_face view.outward) % 4294967296

  abbrev n8 : ℕ
  n8 = (view.hops * 72057594037927936 + view.id) % 18446744073709551616

  abbrev n9 : ℕ
  n9 = (or_ones view.inward * 4294967296 + or_ones view.outward % 4294967296) % 18446744073709551616

  hop_node : (n0 / 16777216 ≡ hops) × (n0 % 16777216 ≡ narrow_id id)
  hop_node =
      let same = ap narrow_id free.id_is in
      let below = narrow_id_below id in
      (omega (arith, free.hops_is, same, below, hops_below), omega (arith, free.hops_is, same, below, hops_below))

  wide_hop_node : (n8 / 72057594037927936 ≡ hops) × (n8 % 72057594037927936 ≡ id)
  wide_hop_node = (omega (arith, free.hops_is, free.id_is, hops_below, id_below), omega (arith, free.hops_is, free.id_is, hops_below, id_below))

  faces : (n1 / 65536 ≡ narrow_face view.inward) × (n1 % 65536 ≡ narrow_face view.outward)
  faces =
      let first = narrow_face_below view.inward in
      let second = narrow_face_below view.outward in
      (omega (arith, first, second), omega (arith, first, second))

  wide_first : or_ones view.inward < 4294967296 → n9 / 4294967296 ≡ or_ones view.inward
  wide_first below = omega (arith, below)

  goes : n1 % 65536 ≡ narrow_face (Some (n9 % 4294967296))
  goes =
      let wide : n9 % 4294967296 ≡ or_ones view.outward % 4294967296 = omega arith in
      faces.1 ∙ out_same view.outward free.outward_below ∙ ap (λ n. narrow_face (Some n)) (sym wide)

  -- the fields, whatever snapshot follows them
  abbrev read : Option (ℕ × List ℕ) → Held
  read snapshot = named (kept_by (checked_by check table) kind view) (ones kind node_len view check) snapshot

  came_by : (snapshot : Option (ℕ × List ℕ)) (face : Option ℕ) → view.inward ≡ face → or_ones face < 4294967296
      → ComesBy (narrow_face face) (or_ones face) (read snapshot)
  unfolding table
  came_by snapshot face is below = record {
    faces = two_there (has kind 1) 65536 n1 (λ pair. pair.0 ≡ narrow_face face) (faces.0 ∙ ap narrow_face is);
    wide_faces = two_there (has kind 9) 4294967296 n9 (λ pair. pair.0 ≡ or_ones face) (wide_first (omega (arith, ap or_ones is, below)) ∙ ap or_ones is);
  }

  came : (snapshot : Option (ℕ × List ℕ)) → ComesBy (narrow_face (Some inward)) inward (read snapshot) ⊎ ComesBy 65535 4294967295 (read snapshot)
  came snapshot = elim free.inward_is as (λ _. ComesBy (narrow_face (Some inward)) inward (read snapshot) ⊎ ComesBy 65535 4294967295 (read snapshot)) [
    | inl is ↦ inl (came_by snapshot (Some inward) is inward_below)
    | inr is ↦ inr (came_by snapshot None is (omega arith))
  ]

  read-lawful : (snapshot : Option (ℕ × List ℕ)) → IsLawful hops id inward (read snapshot)
  unfolding table
  read-lawful snapshot = record {
    hop_node = two_there (has kind 0) 16777216 n0 (λ pair. (pair.0 ≡ hops) × (pair.1 ≡ narrow_id id)) hop_node;
    wide_hop_node = two_there (has kind 8) 72057594037927936 n8 (λ pair. (pair.0 ≡ hops) × (pair.1 ≡ id)) wide_hop_node;
    came = came snapshot;
    goes = two_there (has kind 1) 65536 n1 (λ pair. IfSome (read snapshot).wide_faces (λ wide. pair.1 ≡ narrow_face (Some wide.1)))
        (two_there (has kind 9) 4294967296 n9 (λ wide. n1 % 65536 ≡ narrow_face (Some wide.1)) goes);
    delay = one_there (has kind 4) (delay_of view.delay % 4294967296) (λ delay. (delay ≤ 2147483648) ⊎ (delay ≡ 4294967295)) (delay_lawful view.delay);
    filler = All-replicate (λ octet. octet ≡ 255) (4 * (node_len - words kind)) 255 refl;
  }

pub lawful : (kind node_len hops id inward : ℕ) (octets : List ℕ) → hops < 256 → id < 72057594037927936 → inward < 4294967296
    → MayAdd kind node_len hops id inward octets → IsLawful hops id inward (fields_of kind node_len octets)
lawful kind node_len hops id inward octets hops_below id_below inward_below may =
    subst (IsLawful hops id inward) (sym (fields_of-checked kind node_len may.view may.check octets may.is))
    (read-lawful kind node_len hops id inward hops_below id_below inward_below may.view may.check may.free (fields_of kind node_len octets).snapshot)
