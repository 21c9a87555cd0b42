-- What the params of `initialize` say of an editor.
use Rattle.std.proofs.Common.{◌≡◌, ◌≢◌, ◌⊎◌, inl, inr, ⊎_elim, ℕ, List, [], ◌∷◌, ◌++◌, map, Bool, true, false, cond, not, Option, Some, None, filter_map, slice_index_or, unwrap_or, option_map, codes, bytes_eq, refl, sym, ap, ◌∙◌}
use Rattle.std.specs.List.{find, cons_option}
use Rattle.std.proofs.lemmas.List.Elements.{All-nil, All-cons, All-head, All-tail}
use Rattle.std.proofs.lemmas.Slice.Eq.{bytes_eq-Decides}
use Rattle.serde_json.specs.Data.{Data, Items, null, boolean, number, string, array, object}
use Rattle.serde_json.specs.Find.{get}
use Rattle.serde_json.specs.View.{view, items_of, items_view}
use Rattle.serde_json.specs.declared.value.Value.{Value}
use Rattle.doc_text.specs.declared.encoding.Encoding.{Encoding}
use Rattle.doc_text.specs.declared.encoding.Encoding.TheVariants.{Utf16, Utf8, Utf32}
use Rattle.lsp_rpc.specs.Body.{is_null, member_or_null, list_of}
use Rattle.lsp_rpc.specs.Encoding.{encoding_name, encoding_named}
use Rattle.lsp_rpc.specs.ClientCapabilities.{capabilities_of, position_encodings, encoding_in, first_encoding, pulls_diagnostics}
use Rattle.lsp_rpc.specs.Laws.{NamesAnEncoding, NoneIsNamed, IsNamedFirst, TheFirstEncodingCounts, DeclaresDiagnostics, PullingIsDeclared}

list_of-items_of : (ds : List Data) → list_of (items_of ds) ≡ ds
list_of-items_of [] = refl
list_of-items_of (d ∷ ds) = ap (λ es. d ∷ es) (list_of-items_of ds)

-- the items of an array, as the code sees them
pub items_in-view : (o : Option Items) (vs : List Value) → Some (items_view vs) ≡ o → map view vs ≡ unwrap_or (option_map list_of o) []
items_in-view o vs is = rw (sym is) (sym (list_of-items_of (map view vs)))

-- ---- the names of encodings

found_at : {X : Type 0} (b : Bool) (test : X → Bool) (y x : X) (xs : List X) → test y ≡ b → cond b (Some y) (find test xs) ≡ Some x → (find test xs ≡ Some x → test x ≡ true) → test x ≡ true
found_at true test y x xs is h later = let same : y ≡ x = cc in ap test (sym same) ∙ is
found_at false test y x xs is h later = later h

-- what is found passes
found : {X : Type 0} (test : X → Bool) (x : X) (xs : List X) → find test xs ≡ Some x → test x ≡ true
found test x [] h = cc
found test x (y ∷ ys) h = found_at (test y) test y x ys refl h (found test x ys)

has_name : (name : List ℕ) (e : Encoding) → encoding_named name ≡ Some e → name ≡ encoding_name e
has_name name e h = (bytes_eq-Decides name (encoding_name e)).0 (found (λ e. bytes_eq name (encoding_name e)) e (Utf16 ∷ Utf8 ∷ Utf32 ∷ []) h)

is_name : (entry : Data) (e : Encoding) → encoding_in entry ≡ Some e → entry ≡ string (encoding_name e)
is_name null e h = cc
is_name (boolean b) e h = cc
is_name (number n) e h = cc
is_name (string s) e h = ap string (has_name s e h)
is_name (array ds) e h = cc
is_name (object ms) e h = cc

of_name : (e : Encoding) → encoding_in (string (encoding_name e)) ≡ Some e
of_name Utf16 = refl
of_name Utf8 = refl
of_name Utf32 = refl

no_name : (entry : Data) → encoding_in entry ≡ None → ¬ NamesAnEncoding entry
no_name entry none named =
    let some : encoding_in entry ≡ Some named.0 = ap encoding_in named.1 ∙ of_name named.0 in
    cc

passed_over_at : (o : Option Encoding) (entry : Data) → encoding_in entry ≡ o → ¬ NamesAnEncoding entry → o ≡ None
passed_over_at None entry is unnamed = refl
passed_over_at (Some e) entry is unnamed = absurd (unnamed (e, is_name entry e is))

passed_over : (entry : Data) → ¬ NamesAnEncoding entry → encoding_in entry ≡ None
passed_over entry unnamed = passed_over_at (encoding_in entry) entry refl unnamed

-- ---- the first of a list

abbrev Chosen : List Data → Encoding → Type 0
Chosen entries e = IsNamedFirst entries e ⊎ (NoneIsNamed entries × (e ≡ Utf16))

named_later : (entry : Data) (entries : List Data) (e : Encoding) → ¬ NamesAnEncoding entry → IsNamedFirst entries e → IsNamedFirst (entry ∷ entries) e
named_later entry entries e unnamed first =
    record { before = entry ∷ first.before; after = first.after; listed = ap (λ ds. entry ∷ ds) first.listed; first = All-cons (λ d. ¬ NamesAnEncoding d) entry first.before unnamed first.first }

chosen_later : (entry : Data) (entries : List Data) (e : Encoding) → ¬ NamesAnEncoding entry → Chosen entries e → Chosen (entry ∷ entries) e
chosen_later entry entries e unnamed chosen =
    ⊎_elim (λ first. inl (named_later entry entries e unnamed first))
    (λ none. inr (All-cons (λ d. ¬ NamesAnEncoding d) entry entries unnamed none.0, none.1)) chosen

chosen_at : (o : Option Encoding) (entry : Data) (entries : List Data) (e : Encoding) → encoding_in entry ≡ o
    → slice_index_or (cons_option o (filter_map encoding_in entries)) 0 Utf16 ≡ e → (first_encoding entries ≡ e → Chosen entries e) → Chosen (entry ∷ entries) e
chosen_at None entry entries e is h later = chosen_later entry entries e (no_name entry is) (later h)
chosen_at (Some f) entry entries e is h later =
    inl (record { before = []; after = entries; listed = ap (λ d. d ∷ entries) (is_name entry e (is ∙ ap Some h)); first = All-nil (λ d. ¬ NamesAnEncoding d) })

chosen : (entries : List Data) (e : Encoding) → first_encoding entries ≡ e → Chosen entries e
chosen [] e h = inr (All-nil (λ d. ¬ NamesAnEncoding d), sym h)
chosen (entry ∷ entries) e h = chosen_at (encoding_in entry) entry entries e refl h (chosen entries e)

counts : (before after : List Data) (e : Encoding) → NoneIsNamed before → first_encoding (before ++ string (encoding_name e) ∷ after) ≡ e
counts [] after e none = rw (of_name e) refl
counts (entry ∷ entries) after e none =
    rw (passed_over entry (All-head (λ d. ¬ NamesAnEncoding d) entry entries none))
    (counts entries after e (All-tail (λ d. ¬ NamesAnEncoding d) entry entries none))

none_counts : (entries : List Data) → NoneIsNamed entries → first_encoding entries ≡ Utf16
none_counts [] none = refl
none_counts (entry ∷ entries) none =
    rw (passed_over entry (All-head (λ d. ¬ NamesAnEncoding d) entry entries none))
    (none_counts entries (All-tail (λ d. ¬ NamesAnEncoding d) entry entries none))

chosen_counts : (entries : List Data) (e : Encoding) → Chosen entries e → first_encoding entries ≡ e
chosen_counts entries e chosen =
    ⊎_elim (λ first. ap first_encoding first.listed ∙ counts first.before first.after e first.first)
    (λ none. none_counts entries none.0 ∙ sym none.1) chosen

pub encodings : TheFirstEncodingCounts
encodings params e = (chosen (position_encodings params) e, chosen_counts (position_encodings params) e)

-- ---- whether diagnostics are asked for

some_value : (d : Data) → not (is_null d) ≡ true → d ≢ null
some_value d there is = let none : not (is_null d) ≡ false = ap (λ v. not (is_null v)) is in cc

no_null : (d : Data) → d ≢ null → not (is_null d) ≡ true
no_null null there = absurd (there refl)
no_null (boolean b) there = refl
no_null (number n) there = refl
no_null (string s) there = refl
no_null (array ds) there = refl
no_null (object ms) there = refl

-- a member that isn't `null` is there
member_at : (o : Option Data) (d : Data) → unwrap_or o null ≡ d → d ≢ null → o ≡ Some d
member_at None d is there = absurd (there (sym is))
member_at (Some e) d is there = ap Some is

-- what has a member isn't `null`
has_member : (name : List ℕ) (d e : Data) → get name d ≡ Some e → d ≢ null
has_member name d e there is = let none : get name d ≡ None = ap (get name) is in cc

declared : (params : Data) → pulls_diagnostics params ≡ true → DeclaresDiagnostics params
declared params pulls =
    let capabilities : Data = capabilities_of params in
    let document : Data = member_or_null (codes "textDocument") capabilities in
    let diagnostic : Data = member_or_null (codes "diagnostic") document in
    let value : diagnostic ≢ null = some_value diagnostic pulls in
    let of_document : get (codes "diagnostic") document ≡ Some diagnostic = member_at (get (codes "diagnostic") document) diagnostic refl value in
    let of_capabilities : get (codes "textDocument") capabilities ≡ Some document =
    member_at (get (codes "textDocument") capabilities) document refl (has_member (codes "diagnostic") document diagnostic of_document) in
    record {
      capabilities = capabilities;
      document = document;
      diagnostic = diagnostic;
      of_params = member_at (get (codes "capabilities") params) capabilities refl (has_member (codes "textDocument") capabilities document of_capabilities);
      of_capabilities = of_capabilities;
      of_document = of_document;
      value = value;
    }

pulled : (params : Data) → DeclaresDiagnostics params → pulls_diagnostics params ≡ true
pulled params is = rw (is.of_params, is.of_capabilities, is.of_document) (no_null is.diagnostic is.value)

pub pulling : PullingIsDeclared
pulling params = (declared params, pulled params)
