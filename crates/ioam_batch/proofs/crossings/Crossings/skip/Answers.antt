use Rattle.std.proofs.Common.{◌≡◌, ◌<◌, ◌++◌, ◌∷◌, ◌+◌, [], List, Bool, false, None, drop, take, get_or, length, sym, ap, ◌∙◌, length-drop, arith}
use Rattle.ioam_batch.specs.Crossings.{Crossed, parted, taps_of}
use Rattle.ioam_batch.proofs.CrossingLaws.{filled-none, next-tap, parted-false, taps-all}
use Rattle.ioam_batch.proofs.crossings.Crossings.skip.Goals as goal

pub invariant_of-self : goal.invariant_of-self
invariant_of-self c =
    let i = c.self.inside in
    let invariant = c.self.invariant in
    let ahead : c.args.self.now.ahead ≡ drop i.done i.taps.items = sym (ap (λ (v : Crossed). v.ahead) c.self.view_is) in
    let some : 0 < length (drop i.done i.taps.items) = omega (arith, c.requires.left, ap length ahead) in
    let next : get_or (drop i.done i.taps.items) 0 false ≡ false = sym (ap (λ (xs : List Bool). get_or xs 0 false) ahead) ∙ c.requires.none in (
      invariant.0,
      invariant.1,
      omega (arith, some, length-drop i.done i.taps.items),
      invariant.3,
      invariant.4 ∙ sym (filled-none i.size i.taps.items i.done some next),
    )

pub returns-clause-past : goal.returns-clause-past
returns-clause-past c =
    let i = c.self.inside in
    let ahead : c.args.self.now.ahead ≡ drop i.done i.taps.items = sym (ap (λ (v : Crossed). v.ahead) c.self.view_is) in
    let past : c.args.self.now.past ≡ parted i.size (take i.done i.taps.items) i.octets.items = sym (ap (λ (v : Crossed). v.past) c.self.view_is) in
    let some : 0 < length (drop i.done i.taps.items) = omega (arith, c.requires.left, ap length ahead) in
    let next : get_or (drop i.done i.taps.items) 0 false ≡ false = sym (ap (λ (xs : List Bool). get_or xs 0 false) ahead) ∙ c.requires.none in
    ap (λ ts. parted i.size ts i.octets.items) (next-tap i.taps.items i.done false some next)
    ∙ parted-false i.size (take i.done i.taps.items) i.octets.items ∙ ap (λ xs. xs ++ None ∷ []) (sym past)

pub returns-clause-taps : goal.returns-clause-taps
returns-clause-taps c =
    let i = c.self.inside in
    taps-all i.size i.taps.items (i.done + 1) i.octets.items ∙ sym (taps-all i.size i.taps.items i.done i.octets.items) ∙ ap taps_of c.self.view_is
