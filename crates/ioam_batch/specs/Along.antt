-- What comes of things one behind the other, each by those in front of it.
use Rattle.std.specs.Prelude.{List, [], ◌∷◌, ◌++◌}

-- of these, behind those that are done
module _ {A B : Type 0} (f : List A → A → List B) where
  -- what comes of each of these things, behind those that are done
  abbrev pub along : List A → List A → List B
  along done [] = []
  along done (x ∷ xs) = f done x ++ along (done ++ x ∷ []) xs
