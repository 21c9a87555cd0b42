-- The text of a document of SARIF.
use Rattle.std.proofs.Common.{◌≡◌, ℕ, List, [], ◌∷◌, ◌++◌, true, false, map, flat_map, refl, sym, ap, ap₂, ◌∙◌, append_assoc, codes}
use Rattle.std.proofs.lemmas.Grind.{flat_map-append}
use Rattle.serde_json.specs.Data.{Data, Items, string, array, item, no_items, object, member, no_members}
use Rattle.serde_json.specs.View.{items_of}
use Rattle.serde_json.specs.Written.{compact_text, items_text}
use Rattle.serde_json.proofs.OnLiterals.{serde_json_on_literals}
use Rattle.proto_decls.specs.declared.diagnostic.Diag.{Diag}
use Rattle.check_lines.specs.Lines.{ListedFileData, line_as, without_first, opening, document, sarif_text}
use Rattle.check_lines.specs.Sarif.{result_of, driver_value, document_value}
use Rattle.check_lines.specs.declared.format.Format.TheVariants.{Sarif}

-- a result behind a comma
abbrev pub behind_comma : Data → List ℕ
behind_comma r = codes "," ++ compact_text r

line_is : (file : ListedFileData) (d : Diag) → line_as Sarif file d ≡ behind_comma (result_of file d)
unfolding sarif_text
line_is file d = refl

-- the lines of a file are its results
pub written-results : (file : ListedFileData) (ds : List Diag) → flat_map (line_as Sarif file) ds ≡ flat_map behind_comma (map (result_of file) ds)
written-results file [] = refl
written-results file (d ∷ ds) = ap₂ ◌++◌ (line_is file d) (written-results file ds)

-- the lines of all files are theirs
pub all-results : {A : Type 0} (lines : A → List ℕ) (found : A → List Data) (same : (x : A) → lines x ≡ flat_map behind_comma (found x)) (xs : List A)
    → flat_map lines xs ≡ flat_map behind_comma (flat_map found xs)
all-results lines found same [] = refl
all-results lines found same (x ∷ xs) = ap₂ ◌++◌ (same x) (all-results lines found same xs) ∙ sym (flat_map-append behind_comma (found x) (flat_map found xs))

later_items : (rs : List Data) → flat_map behind_comma rs ++ codes "]" ≡ items_text true (items_of rs)
later_items [] = refl
later_items (r ∷ rs) =
    append_assoc (behind_comma r) (flat_map behind_comma rs) (codes "]") ∙ ap (λ l. behind_comma r ++ l) (later_items rs) ∙ append_assoc (codes ",") (compact_text r) (items_text true (items_of rs))

all_items : (rs : List Data) → without_first (flat_map behind_comma rs) ++ codes "]" ≡ items_text false (items_of rs)
all_items [] = refl
all_items (r ∷ rs) = append_assoc (compact_text r) (flat_map behind_comma rs) (codes "]") ∙ ap (λ l. compact_text r ++ l) (later_items rs)

document_spelled : (items : Items)
    → compact_text
    (object (member (codes "version") (string (codes "2.1.0"))
    (member (codes "$schema") (string (codes "https://json.schemastore.org/sarif-2.1.0.json"))
    (member (codes "runs") (array (item
    (object (member (codes "tool") driver_value
    (member (codes "columnKind") (string (codes "utf16CodeUnits"))
    (member (codes "results") (array items) no_members)))) no_items)) no_members))))
    ≡ opening Sarif ++ (items_text false items ++ codes "}]}")
unfolding serde_json_on_literals
document_spelled items = simp append_assoc

closed : (before items end last : List ℕ) → before ++ items ++ (codes "]" ++ (end ++ last)) ≡ before ++ ((items ++ codes "]") ++ (end ++ last))
closed before items end last = simp append_assoc

ended : (before items end last : List ℕ) → before ++ (items ++ (end ++ last)) ≡ (before ++ (items ++ end)) ++ last
ended before items end last = simp append_assoc

-- the document of these results
pub document-results : (rs : List Data) → document Sarif (flat_map behind_comma rs) ≡ compact_text (document_value rs) ++ codes "\n"
document-results rs =
    closed (opening Sarif) (without_first (flat_map behind_comma rs)) (codes "}]}") (codes "\n")
    ∙ ap (λ items. opening Sarif ++ (items ++ (codes "}]}" ++ codes "\n"))) (all_items rs)
    ∙ ended (opening Sarif) (items_text false (items_of rs)) (codes "}]}") (codes "\n")
    ∙ ap (λ text. text ++ codes "\n") (sym (document_spelled (items_of rs)))
