-- Declarations and their places in documents.
use Rattle.std.proofs.Common.{◌≡◌, ℕ, ◌+◌, ◌≤◌, ◌<◌, List, [], ◌∷◌, ◌++◌, length, take, drop, get_or, map, flat_map, refl, sym, ap, ap₂, ◌∙◌, arith, append-nil, length-drop, drop-drop, string_bytes}
use Rattle.std.proofs.Math.Seq.{take-add}
use Rattle.std.proofs.lemmas.Grind.{flat_map-append}
use Rattle.std.proofs.lemmas.List.{take_all, get_or-map, length-map, map-append, take_more}
use Rattle.doc_text.specs.declared.position.Range.{Range}
use Rattle.proto_decls.specs.FullNames.{last_of, scope_of}
use Rattle.proto_decls.specs.declared.fact.Decl.{Decl}
use Rattle.lsp_rpc.specs.Location.{LocationData, locations_at, document_locations, all_locations}
use Rattle.lsp_rpc.specs.Symbol.{symbol_view}
use Rattle.lsp_rpc.specs.declared.location.DocumentRanges.{DocumentRanges}
use Rattle.lsp_rpc.specs.declared.symbol.Symbol.{Symbol}
use Rattle.lsp_answers.specs.Answers.{kind_of, location_of, symbol_at, symbol_of}
use Rattle.lsp_answers.specs.Context.{Context}
use Rattle.lsp_answers.specs.Views.{found_view}
use Rattle.lsp_answers.specs.declared.declarations.FoundDecl.{FoundDecl}

abbrev location : List ℕ → Range → LocationData
location uri r = record { range = r; uri = uri }

-- a declaration with its range
symbol-is : (uri : List ℕ) (s : Symbol) (d : Decl) (l : LocationData) → s.name.now ≡ last_of d.full_name → s.container.now ≡ scope_of d.full_name
    → s.kind ≡ kind_of d.kind → location uri s.range ≡ l → symbol_view uri s ≡ symbol_at d l
symbol-is uri s d l name container kind at = rw (name, container, kind, at) refl

module _ (c : Context) where
  abbrev pub own_location : FoundDecl → LocationData
  own_location f = location_of c f.place

  -- as many ranges as declarations
  pub same-length : (uri : List ℕ) (ranges : List Range) (found : List FoundDecl) → locations_at uri ranges ≡ map own_location found → length ranges ≡ length found
  same-length uri ranges found is = sym (length-map ranges (location uri)) ∙ ap length is ∙ length-map found own_location

  -- one more declaration
  pub symbols-more : (uri : List ℕ) (ranges : List Range) (found : List FoundDecl) (before after : List Symbol) (s : Symbol) (i : ℕ) (f : FoundDecl) (r : Range) → i < length found
      → locations_at uri ranges ≡ map own_location found → map (symbol_view uri) before ≡ map (symbol_of c) (map found_view (take i found))
      → s.name.now ≡ last_of (get_or found i f).decl.now.full_name → s.container.now ≡ scope_of (get_or found i f).decl.now.full_name
      → s.kind ≡ kind_of (get_or found i f).decl.now.kind → s.range ≡ get_or ranges i r → after ≡ before ++ s ∷ []
      → map (symbol_view uri) after ≡ map (symbol_of c) (map found_view (take (i + 1) found))
  symbols-more uri ranges found before after s i f r lt rs b name container kind range a =
      let here = get_or found i f in
      let inside : i < length ranges = omega (arith, lt, same-length uri ranges found rs) in
      let at : location uri s.range ≡ own_location here =
      ap (location uri) range ∙ sym (get_or-map (location uri) ranges i r (location uri r) inside) ∙ ap (λ l. get_or l i (location uri r)) rs
      ∙ get_or-map own_location found i f (location uri r) lt in
      let one : symbol_view uri s ≡ symbol_of c (found_view here) = symbol-is uri s here.decl.now (own_location here) name container kind at in
      ap (map (symbol_view uri)) a ∙ map-append (symbol_view uri) before (s ∷ []) ∙ ap₂ (λ l x. l ++ x ∷ []) b one
      ∙ sym (map-append (symbol_of c) (map found_view (take i found)) (found_view here ∷ []))
      ∙ ap (map (symbol_of c)) (sym (map-append found_view (take i found) (here ∷ [])) ∙ ap (map found_view) (sym (take_more found i f lt)))

-- ---- the declarations of the next document, and those behind it

-- a list that is made item by item of another one, cut in two
pub cut : {A B : Type 0} (f : A → B) (xs ys : List B) (zs : List A) → xs ++ ys ≡ map f zs → (length xs ≤ length zs) × (xs ≡ map f (take (length xs) zs)) × (ys ≡ map f (drop (length xs) zs))
cut f [] ys zs is = (omega arith, refl, is)
cut f (x ∷ xs) ys [] is = absurd (cc (is))
cut f (x ∷ xs) ys (z ∷ zs) is =
    let first : x ≡ f z = cc (is) in
    let more : xs ++ ys ≡ map f zs = cc (is) in
    let rest = cut f xs ys zs more in
    (omega (arith, rest.0), ap₂ ◌∷◌ first rest.1, rest.2)

module _ (c : Context) where
  -- the declarations of a document that comes next, behind as many as are done
  pub next-document : (d : DocumentRanges) (ds all : List DocumentRanges) (found : List FoundDecl) (done n : ℕ) → all ≡ d ∷ ds → all_locations all ≡ map (own_location c) (drop done found) → n ≡ length d.ranges.items → done ≤ length found
      → (done + n ≤ length found) × (document_locations d ≡ map (own_location c) (take n (drop done found))) × (all_locations ds ≡ map (own_location c) (drop (done + n) found))
  next-document d ds all found done n is left count within =
      let own = own_location c in
      let parts = cut own (document_locations d) (all_locations ds) (drop done found) (sym (ap all_locations is) ∙ left) in
      let same : length (document_locations d) ≡ n = length-map d.ranges.items (location (string_bytes d.uri)) ∙ sym count in (
        omega (arith, parts.0, same, length-drop done found, within),
        parts.1 ∙ ap (λ k. map own (take k (drop done found))) same,
        parts.2 ∙ ap (λ k. map own (drop k (drop done found))) same ∙ ap (map own) (drop-drop n done found),
      )

  -- no declaration is left where no document is
  pub none-left : (all : List DocumentRanges) (found : List FoundDecl) (done : ℕ) → all ≡ [] → all_locations all ≡ map (own_location c) (drop done found) → take done found ≡ found
  none-left all found done none left =
      let empty : 0 ≡ length (drop done found) = ap length (sym (ap all_locations none) ∙ left) ∙ length-map (drop done found) (own_location c) in
      take_all done found (omega (arith, empty, length-drop done found))

-- what one more group adds
pub pushed : {A B : Type 0} (f : A → List B) (xs : List A) (x : A) → flat_map f (xs ++ x ∷ []) ≡ flat_map f xs ++ f x
pushed f xs x = flat_map-append f xs (x ∷ []) ∙ ap (λ l. flat_map f xs ++ l) (append-nil (f x))

-- a further part of a list
pub further : {A B C : Type 0} (g : B → C) (f : A → B) (xs : List A) (i n : ℕ) → map g (map f (take i xs)) ++ map g (map f (take n (drop i xs))) ≡ map g (map f (take (i + n) xs))
further g f xs i n =
    sym (map-append g (map f (take i xs)) (map f (take n (drop i xs))))
    ∙ ap (map g) (sym (map-append f (take i xs) (take n (drop i xs))) ∙ ap (map f) (sym (take-add i n xs)))
