-- The texts of edits, byte for byte.
use Rattle.std.proofs.Common.{◌≡◌, true, false, ℕ, List, [], ◌∷◌, ◌++◌, map, refl, sym, ap, ◌∙◌, append_assoc, codes}
use Rattle.std.specs.List.{join_with_byte}
use Rattle.json.specs.Print.{quoted}
use Rattle.doc_text.specs.declared.position.Range.{Range}
use Rattle.serde_json.specs.Data.{Data, Members, string, object, member, no_members}
use Rattle.serde_json.specs.Written.{compact_text, members_text}
use Rattle.serde_json.proofs.OnLiterals.{serde_json_on_literals}
use Rattle.lsp_rpc.specs.Diagnostic.{range_value}
use Rattle.lsp_rpc.specs.WorkspaceEdit.{Changes, merged, edit_value, edits_value, changes_members}
use Rattle.lsp_rpc.specs.Laws.{edit_text, change_text, WorkspaceEditText}
use Rattle.lsp_rpc.proofs.SymbolTexts.{range_is, array_is}

edit_spelled : (text range : Data) → compact_text (object (member (codes "newText") text (member (codes "range") range no_members)))
    ≡ codes "{\"newText\":" ++ compact_text text ++ codes ",\"range\":" ++ compact_text range ++ codes "}"
unfolding serde_json_on_literals
edit_spelled text range = simp append_assoc

edit_is : (text : List ℕ) (r : Range) → compact_text (edit_value text r) ≡ edit_text text r
edit_is text r =
    edit_spelled (string text) (range_value r)
    ∙ ap (λ s. codes "{\"newText\":" ++ quoted text ++ codes ",\"range\":" ++ s ++ codes "}") (range_is r)

keyed : (key edits rest : List ℕ) → key ++ 58 ∷ ((codes "[" ++ edits ++ codes "]") ++ rest) ≡ (key ++ codes ":[" ++ edits ++ codes "]") ++ rest
unfolding serde_json_on_literals
keyed key edits rest = simp append_assoc

change_is : (text : List ℕ) (c : List ℕ × List Range) (rest : List ℕ) → quoted c.0 ++ 58 ∷ (compact_text (edits_value text c.1) ++ rest) ≡ change_text text c ++ rest
change_is text c rest =
    ap (λ s. quoted c.0 ++ 58 ∷ (s ++ rest)) (array_is (edit_value text) (edit_text text) (edit_is text) c.1)
    ∙ keyed (quoted c.0) (join_with_byte 44 (map (edit_text text) c.1)) rest

later_members : (text x : List ℕ) (cs : Changes) → x ++ members_text true (changes_members text cs) ≡ join_with_byte 44 (x ∷ map (change_text text) cs) ++ 125 ∷ []
later_members text x [] = refl
later_members text x (c ∷ cs) =
    ap (λ s. x ++ 44 ∷ s) (change_is text c (members_text true (changes_members text cs)) ∙ later_members text (change_text text c) cs)
    ∙ sym (append_assoc x (44 ∷ join_with_byte 44 (change_text text c ∷ map (change_text text) cs)) (125 ∷ []))

joined_members : (text : List ℕ) (cs : Changes) → members_text false (changes_members text cs) ≡ join_with_byte 44 (map (change_text text) cs) ++ 125 ∷ []
joined_members text [] = refl
joined_members text (c ∷ cs) = change_is text c (members_text true (changes_members text cs)) ∙ later_members text (change_text text c) cs

changes_spelled : (ms : Members) → compact_text (object (member (codes "changes") (object ms) no_members)) ≡ codes "{\"changes\":{" ++ (members_text false ms ++ codes "}")
unfolding serde_json_on_literals
changes_spelled ms = refl

pub workspace_edit_text : WorkspaceEditText
workspace_edit_text text documents =
    let texts : List (List ℕ) = map (change_text text) (merged documents) in
    changes_spelled (changes_members text (merged documents))
    ∙ ap (λ s. codes "{\"changes\":{" ++ (s ++ codes "}")) (joined_members text (merged documents))
    ∙ ap (λ s. codes "{\"changes\":{" ++ s) (append_assoc (join_with_byte 44 texts) (125 ∷ []) (codes "}"))
