-- The tokens of lists of values.
use Rattle.std.proofs.Common.{◌≡◌, List, [], ◌∷◌, ◌++◌, map, flat_map, refl, ap, sym, ◌∙◌, append_assoc}
use Rattle.std.proofs.lemmas.List.{map-append}
use Rattle.std.proofs.lemmas.Grind.{flat_map-append}
use Rattle.json.specs.Token.{end_array}
use Rattle.json.specs.Tree.{json_tokens, items_tokens}
use Rattle.serde_json.specs.Data.{Data}
use Rattle.serde_json.specs.View.{items_of}
use Rattle.serde_json.specs.Written.{outline, items_outline}
use Rattle.lsp_rpc.specs.Writing.{values_tokens}

-- with the closing bracket
pub values-closed : (ds : List Data) → values_tokens ds ++ end_array ∷ [] ≡ items_tokens (items_outline (items_of ds))
values-closed [] = refl
values-closed (d ∷ ds) = append_assoc (json_tokens (outline d)) (values_tokens ds) (end_array ∷ []) ∙ ap (λ ts. json_tokens (outline d) ++ ts) (values-closed ds)

pub values-append : (ds es : List Data) → values_tokens (ds ++ es) ≡ values_tokens ds ++ values_tokens es
values-append ds es = flat_map-append (λ d. json_tokens (outline d)) ds es

-- the values of one part after the other
pub values-parts : {A B : Type 0} (f : B → Data) (part : A → List B) (xs : List A) → flat_map (λ x. values_tokens (map f (part x))) xs ≡ values_tokens (map f (flat_map part xs))
values-parts f part [] = refl
values-parts f part (x ∷ xs) =
    ap (λ ts. values_tokens (map f (part x)) ++ ts) (values-parts f part xs)
    ∙ sym (values-append (map f (part x)) (map f (flat_map part xs)))
    ∙ ap values_tokens (sym (map-append f (part x) (flat_map part xs)))
