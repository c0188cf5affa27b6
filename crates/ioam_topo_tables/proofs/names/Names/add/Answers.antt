use Rattle.std.proofs.Common.{◌≡◌, ◌∙◌, ap, [], ◌∷◌, ◌++◌, false, List, ℕ, subst, sym}
use Rattle.std.specs.List.{list_any}
use Rattle.std.specs.Str.{bytes_eq}
use Rattle.ioam_topo_tables.proofs.NameLaws.{added}
use Rattle.ioam_topo_tables.proofs.names.Names.add.Goals as goal

pub returns : goal.returns
returns c =
    let P : List (List ℕ) → Type 0 = λ l. list_any (bytes_eq c.args.name.now) l ≡ false in
    added c.self.inside.held.keys c.insert_full.new.self.keys c.in_ok-name.name c.args.name.now c.in_ok-name.ensures.ok
    (subst P (sym c.self.view_is) c.requires) c.in_ok-insert_full.ensures.keys
    ∙ ap (λ l. l ++ c.args.name.now ∷ []) c.self.view_is
