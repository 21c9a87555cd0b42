use Rattle.std.proofs.Common.{◌≡◌, ◌∙◌, sym, ◌∷◌, ◌++◌}
use Rattle.proto_decls.specs.Text.{joined}
use Rattle.proto_decls.proofs.ApartNames.{behind_two, fails_at_once, joined_some}
use Rattle.proto_decls.proofs.full_name.NameParts.strip_from.Goals as goal

pub returns-in-Some : goal.returns-in-Some
returns-in-Some c =
    let s = c.args.self.scope.now in
    let l = c.args.self.last.now in
    let whole : joined s l ≡ s ++ 46 ∷ l = joined_some s l (sym c.is_empty.ensures ∙ c.if-is_empty.false) in
    rw whole (behind_two c.args.text.now s (46 ∷ l) c.strip_dotted.result c.in-Some.ensures.0 (rw c.in-Some.ensures.1 at c.strip_dotted.ensures))

pub returns-in-None : goal.returns-in-None
returns-in-None c =
    let s = c.args.self.scope.now in
    let l = c.args.self.last.now in
    let whole : joined s l ≡ s ++ 46 ∷ l = joined_some s l (sym c.is_empty.ensures ∙ c.if-is_empty.false) in
    rw whole (fails_at_once c.args.text.now s (46 ∷ l) c.in-None.ensures)
