-- The texts of places and declarations, byte for byte.
use Rattle.std.proofs.Common.{◌≡◌, false, ℕ, List, [], ◌∷◌, ◌++◌, map, refl, sym, ap, ap₂, ◌∙◌, append_assoc, codes, decimal}
use Rattle.std.specs.List.{join_with_byte}
use Rattle.json.specs.Print.{quoted}
use Rattle.doc_text.specs.declared.position.Position.{Position}
use Rattle.doc_text.specs.declared.position.Range.{Range}
use Rattle.serde_json.specs.Data.{Data, Items, number, unsigned, string, array, object, member, no_members}
use Rattle.serde_json.specs.View.{items_of}
use Rattle.serde_json.specs.Written.{compact_text, items_text}
use Rattle.serde_json.proofs.OnLiterals.{serde_json_on_literals}
use Rattle.lsp_rpc.specs.Diagnostic.{position_value, range_value}
use Rattle.lsp_rpc.specs.Location.{LocationData, location_value}
use Rattle.lsp_rpc.specs.Symbol.{SymbolData, kind_number, with_container, symbol_value}
use Rattle.lsp_rpc.specs.Laws.{position_text, range_text, location_text, LocationsText, container_text, symbol_text, SymbolsText}
use Rattle.lsp_rpc.proofs.TextLemmas.{joined_items}

-- ---- objects of two and three members

position_spelled : (character line : Data) → compact_text (object (member (codes "character") character (member (codes "line") line no_members)))
    ≡ codes "{\"character\":" ++ compact_text character ++ codes ",\"line\":" ++ compact_text line ++ codes "}"
unfolding serde_json_on_literals
position_spelled character line = simp append_assoc

position_is : (p : Position) → compact_text (position_value p) ≡ position_text p
position_is p = position_spelled (number (unsigned p.character)) (number (unsigned p.line))

range_spelled : (end' start : Data) → compact_text (object (member (codes "end") end' (member (codes "start") start no_members)))
    ≡ codes "{\"end\":" ++ compact_text end' ++ codes ",\"start\":" ++ compact_text start ++ codes "}"
unfolding serde_json_on_literals
range_spelled end' start = simp append_assoc

pub range_is : (r : Range) → compact_text (range_value r) ≡ range_text r
range_is r =
    range_spelled (position_value r.end) (position_value r.start)
    ∙ ap₂ (λ e s. codes "{\"end\":" ++ e ++ codes ",\"start\":" ++ s ++ codes "}") (position_is r.end) (position_is r.start)

location_spelled : (range uri : Data) → compact_text (object (member (codes "range") range (member (codes "uri") uri no_members)))
    ≡ codes "{\"range\":" ++ compact_text range ++ codes ",\"uri\":" ++ compact_text uri ++ codes "}"
unfolding serde_json_on_literals
location_spelled range uri = simp append_assoc

location_is : (l : LocationData) → compact_text (location_value l) ≡ location_text l
location_is l =
    location_spelled (range_value l.range) (string l.uri)
    ∙ ap (λ r. codes "{\"range\":" ++ r ++ codes ",\"uri\":" ++ quoted l.uri ++ codes "}") (range_is l.range)

-- ---- lists

listed : (items : Items) → compact_text (array items) ≡ codes "[" ++ items_text false items
unfolding serde_json_on_literals
listed items = refl

texts_are : {A : Type 0} (f g : A → List ℕ) → ((a : A) → f a ≡ g a) → (xs : List A) → map f xs ≡ map g xs
texts_are f g same [] = refl
texts_are f g same (x ∷ xs) = ap₂ ◌∷◌ (same x) (texts_are f g same xs)

pub array_is : {A : Type 0} (value : A → Data) (text : A → List ℕ) → ((a : A) → compact_text (value a) ≡ text a) → (xs : List A)
    → compact_text (array (items_of (map value xs))) ≡ codes "[" ++ join_with_byte 44 (map text xs) ++ codes "]"
array_is value text same xs =
    listed (items_of (map value xs))
    ∙ ap (λ s. codes "[" ++ s) (joined_items value xs)
    ∙ ap (λ ts. codes "[" ++ (join_with_byte 44 ts ++ codes "]")) (texts_are (λ x. compact_text (value x)) text same xs)
    ∙ sym (append_assoc (codes "[") (join_with_byte 44 (map text xs)) (codes "]"))

pub locations_text : LocationsText
locations_text ls = array_is location_value location_text location_is ls

-- ---- declarations

symbol_spelled : (container : List ℕ) (kind location name : Data)
    → compact_text (object (with_container container (member (codes "kind") kind (member (codes "location") location (member (codes "name") name no_members)))))
    ≡ codes "{" ++ container_text container ++ codes "\"kind\":" ++ compact_text kind ++ codes ",\"location\":" ++ compact_text location ++ codes ",\"name\":" ++ compact_text name ++ codes "}"
unfolding serde_json_on_literals
symbol_spelled [] kind location name = simp append_assoc
symbol_spelled (c ∷ cs) kind location name = simp append_assoc

symbol_is : (s : SymbolData) → compact_text (symbol_value s) ≡ symbol_text s
symbol_is s =
    symbol_spelled s.container (number (unsigned (kind_number s.kind))) (location_value s.location) (string s.name)
    ∙ ap (λ l. codes "{" ++ container_text s.container ++ codes "\"kind\":" ++ decimal (kind_number s.kind) ++ codes ",\"location\":" ++ l ++ codes ",\"name\":" ++ quoted s.name ++ codes "}") (location_is s.location)

pub symbols_text : SymbolsText
symbols_text ss = array_is symbol_value symbol_text symbol_is ss
