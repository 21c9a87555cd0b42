use Rattle.std.proofs.Common.{◌≡◌, ◌∙◌, ◌∷◌, [], List, ℕ, false, Option, None, Some, String, ap, is_some, map, string_bytes, refl, sym}
use Rattle.std.specs.declared.alloc.Global.{Global}
use Rattle.std.proofs.lemmas.Bool.{false≢true}
use Rattle.work_update.proofs.Updates.{arrival_of, one_only}
use Rattle.work_update.proofs.update.arrival.Goals as goal

no_number : (o : Option ℕ) → false ≡ is_some o → o ≡ None
no_number None is = refl
no_number (Some n) is = absurd (false≢true is)

pub returns : goal.returns
returns c =
    let changes : List (String Global) = c.args.changes.now in
    let path = c.as_str-path.result.now in
    let alone : map string_bytes changes ≡ path ∷ [] = one_only changes c.index-changes-0.result c.if-changes-ne1.false ∙ ap (λ p. p ∷ []) (sym (c.as_str-path.ensures.value ∙ ap string_bytes c.index-changes-0.is)) in
    arrival_of (λ p. p.now) c.piece.result c.args.earlier.now c.args.board.now (map string_bytes changes) path alone (sym c.number_of.ensures ∙ no_number c.number_of.result c.if-is_some.ensures) (c.is_imported.ensures.0 c.if-is_imported.false)
    c.piece.ensures.piece c.piece.ensures.current
