-- An iterator that shows the list of what it has left goes on by an item.
use Rattle.std.proofs.Common.{◌≡◌, ◌<◌, List, ◌∷◌, length, Some, ap, arith, rules}
use Rattle.std.specs.Iterator.{MakesProgress, item_count}

pub goes-first : {S A B : Type 0} (view : A → B) (rest : S → List B) (can : S → Type 0) (s t : S) (x : A)
    → rest s ≡ view x ∷ rest t → can t → MakesProgress can (item_count rest) s (Some x) t
goes-first view rest can s t x is may =
    let shorter : length (rest t) < length (rest s) = omega (arith, ap length is) in
    record { on = λ ends. (may, ends, shorter); keeps = may; rests = λ ends. search rules }
