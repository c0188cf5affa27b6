-- Laws of templates: each reads in one way, and a set of them has templates and padding, or is faulty.
use Rattle.std.proofs.Common.{◌≡◌, ℕ, ◌+◌, ◌-◌, ◌<◌, ◌≤◌, Bool, List, [], ◌∷◌, ◌++◌, length, refl, sym, ap, ◌∙◌, subst, arith, inl, inr}
use Rattle.std.specs.Prelude.{flat_map, set, true, false}
use Rattle.std.proofs.lemmas.List.{append_cancel_left}
use Rattle.ioam_base.specs.Octets.{u16_at}
use Rattle.ioam_base.specs.Words.{two_octets}
use Rattle.ioam_base.proofs.WordsLaws.{two_octets-same}
use Rattle.ioam_ipfix.specs.declared.fault.IpfixFault.{IpfixFault}
use Rattle.ioam_base.specs.Chain.{Stops, IsFunctional}
use Rattle.ioam_ipfix.specs.Templates.{tells_visit, tells_flow, tells_seq, only, fields_with, fields, field_octets, template_octets, with_templates}
use Rattle.ioam_ipfix.specs.Data.{weight}
use Rattle.ioam_ipfix.specs.Sets.{IsPadding, TemplatePasses, HasTemplates}
use Rattle.ioam_ipfix.specs.Faults.{IsStuckTemplate, HasStuckTemplate}
use Rattle.ioam_base.proofs.ChainLaws.{Chain-unique}

-- octets begin with one template
pub template-same : (m n : ℕ) (r s : List ℕ) → m < 65536 → n < 65536 → template_octets m ++ r ≡ template_octets n ++ s → (m ≡ n) × (r ≡ s)
template-same m n r s p q same =
    let ids = two_octets-same m n ((two_octets (length (fields m)) ++ flat_map field_octets (fields m)) ++ r)
    ((two_octets (length (fields n)) ++ flat_map field_octets (fields n)) ++ s) p q same in
    let moved : template_octets m ++ r ≡ template_octets m ++ s = same ∙ ap (λ i. template_octets i ++ s) (sym ids.0) in
    (ids.0, append_cancel_left (template_octets m) r s moved)

pub template-functional : IsFunctional TemplatePasses
template-functional a x b y c one other =
    let p = one.0.1 in
    let q = other.0.1 in
    template-same x y b c (omega (arith, p)) (omega (arith, q)) (sym one.1 ∙ other.1)

-- a template has its first four octets, and these say which
pub template-head : (a : List ℕ) (id : ℕ) (b : List ℕ) → TemplatePasses a id b → (4 ≤ length a) × (u16_at a 0 ≡ id)
template-head a id b pass =
    let P : List ℕ → Type 0 = λ o. (4 ≤ length o) × (u16_at o 0 ≡ id) in
    let small = pass.0.1 in
    subst P (sym pass.1) (omega arith, omega (arith, small))

pub padding-stops : (rest : List ℕ) → IsPadding 4 rest → Stops TemplatePasses rest
padding-stops rest padding id b pass =
    let few = padding.0 in
    let many = (template-head rest id b pass).0 in
    omega (arith, few, many)

pub stuck_template-stops : (rest : List ℕ) (f : IpfixFault) → IsStuckTemplate rest f → Stops TemplatePasses rest
stuck_template-stops rest f (inl short) id b pass =
    let few = short.0 in
    let many = (template-head rest id b pass).0 in
    omega (arith, few, many)
stuck_template-stops rest f (inr other) id b pass = other.1 id b pass

stuck_template-unique : (rest : List ℕ) (f g : IpfixFault) → IsStuckTemplate rest f → IsStuckTemplate rest g → f ≡ g
stuck_template-unique rest f g (inl x) (inl y) = x.2 ∙ sym y.2
stuck_template-unique rest f g (inl x) (inr y) = let few = x.0 in let many = y.0 in absurd (omega (arith, few, many))
stuck_template-unique rest f g (inr x) (inl y) = let few = y.0 in let many = x.0 in absurd (omega (arith, few, many))
stuck_template-unique rest f g (inr x) (inr y) = x.2 ∙ sym y.2

padding-not-stuck : (rest : List ℕ) (f : IpfixFault) → IsPadding 4 rest → IsStuckTemplate rest f → ⊥
padding-not-stuck rest f padding (inl short) = short.1 padding
padding-not-stuck rest f padding (inr other) = let few = padding.0 in let many = other.0 in omega (arith, few, many)

pub templates-unique : (content ids others : List ℕ) → HasTemplates content ids → HasTemplates content others → ids ≡ others
templates-unique content ids others one other =
    (Chain-unique TemplatePasses template-functional content ids one.0 others other.0
    one.1 (padding-stops one.0 one.2) other.1 (padding-stops other.0 other.2)).0

pub templates-not-stuck : (content ids : List ℕ) (f : IpfixFault) → HasTemplates content ids → HasStuckTemplate content f → ⊥
templates-not-stuck content ids f one (others, rest, leads, stuck) =
    let same = Chain-unique TemplatePasses template-functional content ids one.0 others rest
    one.1 (padding-stops one.0 one.2) leads (stuck_template-stops rest f stuck) in
    padding-not-stuck rest f (subst (λ r. IsPadding 4 r) same.1 one.2) stuck

pub stuck_templates-unique : (content : List ℕ) (f g : IpfixFault) → HasStuckTemplate content f → HasStuckTemplate content g → f ≡ g
stuck_templates-unique content f g (ids, rest, leads, stuck) (others, more, led, also) =
    let same = Chain-unique TemplatePasses template-functional content ids rest others more
    leads (stuck_template-stops rest f stuck) led (stuck_template-stops more g also) in
    stuck_template-unique more f g (subst (λ r. IsStuckTemplate r f) same.1 stuck) also

-- one template more is known
pub with_templates-push : (ids : List ℕ) (id : ℕ) (known : List Bool) → with_templates known (ids ++ id ∷ []) ≡ with_templates (with_templates known ids) (id ∷ [])
with_templates-push [] id known = refl
with_templates-push (x ∷ ids) id known = with_templates-push ids id (set known (x - 256) true)

-- ---- a template as it is built

pub fields_count : (visit flow seq : Bool) → 5 + weight visit 2 + weight flow 1 + weight seq 1 ≡ length (fields_with visit flow seq)
fields_count false false false = refl
fields_count false false true = refl
fields_count false true false = refl
fields_count false true true = refl
fields_count true false false = refl
fields_count true false true = refl
fields_count true true false = refl
fields_count true true true = refl

abbrev pub built : ℕ → ℕ → Bool → Bool → Bool → List ℕ
built id count visit flow seq = ((((((([] ++ (two_octets id ++ two_octets count)) ++ field_octets (1, 2)) ++ field_octets (2, 1)) ++ field_octets (3, 1)) ++ field_octets (4, 3))
    ++ flat_map field_octets (only visit ((5, 8) ∷ (6, 4) ∷ []))) ++ flat_map field_octets (only flow ((7, 4) ∷ []))) ++ flat_map field_octets (only seq ((8, 4) ∷ [])) ++ field_octets (9, 65535)

built-by : (id : ℕ) (visit flow seq : Bool) → built id (length (fields_with visit flow seq)) visit flow seq
    ≡ two_octets id ++ (two_octets (length (fields_with visit flow seq)) ++ flat_map field_octets (fields_with visit flow seq))
built-by id false false false = refl
built-by id false false true = refl
built-by id false true false = refl
built-by id false true true = refl
built-by id true false false = refl
built-by id true false true = refl
built-by id true true false = refl
built-by id true true true = refl

pub template_built : (id count : ℕ) (visit flow seq : Bool) → visit ≡ tells_visit id → flow ≡ tells_flow id → seq ≡ tells_seq id → count ≡ length (fields_with visit flow seq)
    → built id count visit flow seq ≡ template_octets id
template_built id count visit flow seq v f s is =
    ap (λ n. built id n visit flow seq) is ∙ built-by id visit flow seq
    ∙ (λ i. two_octets id ++ (two_octets (length (fields_with (v i) (f i) (s i))) ++ flat_map field_octets (fields_with (v i) (f i) (s i))))
