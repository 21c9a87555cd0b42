-- Diagnostics and their ranges.
use Rattle.std.proofs.Common.{◌≡◌, ℕ, ◌+◌, ◌<◌, List, [], ◌∷◌, ◌++◌, length, take, get_or, map, sym, ap, ap₂, ◌∙◌}
use Rattle.std.proofs.lemmas.List.{get_or-map, map-append, take_more}
use Rattle.doc_text.specs.declared.encoding.Encoding.{Encoding}
use Rattle.doc_text.specs.declared.position.Range.{Range}
use Rattle.proto_decls.specs.declared.diagnostic.Diag.{Diag}
use Rattle.lsp_rpc.specs.Diagnostic.{DiagnosticData}
use Rattle.lsp_answers.specs.Diagnostics.{diag_range, diagnostic_at, diagnostic_in}

-- one more diagnostic
pub placed-more : (e : Encoding) (text : List ℕ) (ds : List Diag) (ranges : List Range) (before after : List DiagnosticData) (i : ℕ) (d : Diag) (r : Range) → i < length ds
    → ranges ≡ map (diag_range e text) ds → before ≡ map (diagnostic_at e text) (take i ds)
    → after ≡ before ++ diagnostic_in (get_or ranges i r) (get_or ds i d).message ∷ [] → after ≡ map (diagnostic_at e text) (take (i + 1) ds)
placed-more e text ds ranges before after i d r lt rs b a =
    let here = get_or ds i d in
    let range : get_or ranges i r ≡ diag_range e text here = ap (λ l. get_or l i r) rs ∙ get_or-map (diag_range e text) ds i d r lt in
    a ∙ ap₂ (λ l x. l ++ diagnostic_in x here.message ∷ []) b range
    ∙ sym (map-append (diagnostic_at e text) (take i ds) (here ∷ [])) ∙ ap (map (diagnostic_at e text)) (sym (take_more ds i d lt))
