-- The lines of the diagnostics of a file, the numbers that a JSON writer takes, and the text that it wrote.
use Rattle.std.proofs.Common.{◌≡◌, ℕ, ◌+◌, ◌<◌, ◌^◌, List, [], ◌∷◌, ◌++◌, length, take, get_or, decimal, refl, sym, ap, subst, arith, ◌∙◌, ⊎_elim, append_assoc, append-nil, flat_map}
use Rattle.std.specs.Fmt.{digits}
use Rattle.std.proofs.lemmas.Bool.{cases_lt}
use Rattle.std.proofs.lemmas.List.{take_more}
use Rattle.std.proofs.lemmas.Grind.{flat_map-append}
use Rattle.proto_decls.specs.declared.diagnostic.Diag.{Diag}
use Rattle.json.specs.Print.{IsNumber, print}
use Rattle.json.specs.Tree.{json_tokens}
use Rattle.json.specs.Word.{after_number}
use Rattle.json.specs.Written.{Written}
use Rattle.json.proofs.Printed.Decimals.{IsNumber-decimal}
use Rattle.serde_json.specs.Data.{Data}
use Rattle.serde_json.specs.Written.{outline, compact_text}
use Rattle.serde_json.proofs.Texts.{print-outline}
use Rattle.lsp_rpc.specs.Writing.{Appends}
use Rattle.check_lines.specs.Lines.{ListedFileData, line_as, written}

-- what is written of one more item of a list
pub more-written : {A : Type 0} (f : A → List ℕ) (xs : List A) (old before after : List ℕ) (i : ℕ) (d : A) → i < length xs
    → before ≡ old ++ flat_map f (take i xs) → after ≡ before ++ f (get_or xs i d) → after ≡ old ++ flat_map f (take (i + 1) xs)
more-written f xs old before after i d lt b a =
    let here = get_or xs i d in
    let done = flat_map f (take i xs) in
    let one : done ++ f here ≡ flat_map f (take (i + 1) xs) =
    ap (λ l. done ++ l) (sym (append-nil (f here))) ∙ sym (flat_map-append f (take i xs) (here ∷ [])) ∙ ap (flat_map f) (sym (take_more xs i d lt)) in
    a ∙ ap (λ l. l ++ f here) b ∙ append_assoc old done (f here) ∙ ap (λ l. old ++ l) one

-- the line of one more diagnostic
pub written-more : (file now : ListedFileData) (ds : List Diag) (old before after : List ℕ) (i : ℕ) (d : Diag) → i < length ds → now ≡ file
    → before ≡ old ++ written file (take i ds) → after ≡ before ++ line_as now.format now (get_or ds i d) → after ≡ old ++ written file (take (i + 1) ds)
written-more file now ds old before after i d lt same b a =
    more-written (line_as file.format file) ds old before after i d lt b (a ∙ ap (λ (f : ListedFileData). before ++ line_as f.format f (get_or ds i d)) same)

-- ---- JSON

-- the number after one of 64 bits
largest : IsNumber (decimal (2 ^ 64))
unfolding after_number digits
largest = refl

pub IsNumber-next : (n : ℕ) → n < 2 ^ 64 → IsNumber (decimal (n + 1))
IsNumber-next n h = ⊎_elim (λ lt. IsNumber-decimal (n + 1) lt) (λ ge. subst (λ m. IsNumber (decimal m)) (omega (arith, ge, h)) largest) (cases_lt (n + 1) (2 ^ 64))

-- a value was written behind a text
pub behind : {new : Written} (old : Written) (d : Data) (text : List ℕ) → old.before ≡ text → old.tokens ≡ [] → Appends old (json_tokens (outline d)) new → new.before ++ print new.tokens ≡ text ++ compact_text d
behind old d text b none w = rw (w.before, b, w.tokens, none) (ap (λ l. text ++ l) (print-outline d))
