-- The places of a rename may be cut out of their texts, and don't touch.
use Rattle.std.proofs.Common.{◌≡◌, ◌⊎◌, ◌∙◌, inl, inr, ℕ, ◌+◌, ◌-◌, ◌<◌, ◌≤◌, Bool, true, false, cond, List, [], ◌∷◌, length, get_or, drop, Ok, Err, Option, Some, None, refl, sym, ap, subst, arith, IsUtf8, length-drop, length-take-le, get_or-take}
use Rattle.std.specs.Prelude.{All, Result, ◌==◌, ◌||◌, not, slice_range}
use Rattle.std.specs.Char.{is_ascii_digit}
use Rattle.std.specs.List.{AllPairs}
use Rattle.std.proofs.lemmas.Bool.{cases_lt, eqb-true}
use Rattle.std.proofs.lemmas.Bool.Decides.{nat_tests}
use Rattle.std.proofs.lemmas.List.{get_or-drop, get_or_past}
use Rattle.std.proofs.lemmas.List.Elements.{All-cons, All-filter, filter_passes}
use Rattle.std.proofs.lemmas.List.Kept.{AllPairs-filter}
use Rattle.std.proofs.lemmas.Str.{IsUtf8-from_ascii, IsUtf8-nil}
use Rattle.proto_lex.specs.declared.bytes.Class.{Class}
use Rattle.proto_lex.specs.declared.bytes.Class.TheVariants as class
use Rattle.proto_lex.specs.Bytes.{class_of, is_letter, is_name_byte, is_quote, is_space, is_symbol}
use Rattle.proto_tree.specs.declared.node.Span.{Span}
use Rattle.proto_tree.specs.Identifiers.{IsIdentifier, IsIdentifierAt, NamesAreIdentifiers}
use Rattle.proto_tree.specs.Read.{empty_tree, read}
use Rattle.proto_laws.proofs.IdentifierLaws.{OthersAreIdentifiers}
use Rattle.doc_text.specs.Laws.{IsInsideLineEnd}
use Rattle.proto_names.specs.declared.decl_ref.DeclRef.{DeclRef}
use Rattle.work_index.specs.Workspace.{SourceAt, Workspace, analysis, no_file}
use Rattle.lsp_queries.specs.Answers.{sites_of}
use Rattle.lsp_queries.specs.Files.{place_of}
use Rattle.lsp_queries.specs.Offsets.{symbol_at}
use Rattle.lsp_renames.specs.Renaming.{checked, is_identifier, is_taken, new_full_name, renamed_decl, renamed_symbol}
use Rattle.lsp_renames.specs.RenamingLaws.{IdentifierFormLaw}
use Rattle.lsp_renames.specs.UnknownUses.{has_unknown_uses}
use Rattle.lsp_renames.specs.declared.fault.RenameFault.{RenameFault}
use Rattle.lsp_renames.specs.declared.fault.RenameFault.TheVariants.{BadName, NameTaken, NotRenamable}
use Rattle.lsp_queries.specs.declared.offsets.Symbol.{Symbol}
use Rattle.lsp_queries.specs.declared.offsets.Symbol.TheVariants.{Declared, Package}
use Rattle.lsp_queries.specs.declared.place.Place.{Place}
use Rattle.lsp_renames.specs.Edited.{places_in}
use Rattle.lsp_queries.specs.PlaceLaws.{IsApart, PlacesAreApart, places_of, text_in}
use Rattle.lsp_queries.proofs.Pairs.{pairs-with}
use Rattle.lsp_queries.proofs.Places.{places-identifiers, span_of}
use Rattle.lsp_renames.proofs.RenamedLemmas.{checked-keeps}
use Rattle.work_laws.specs.EditLaws.{EditsChangeThePlaces, IsCutOut, RenamesChangeTheNames}

-- ---- identifiers have no line ends

-- a letter is a byte of a name
is_name : (c : ℕ) → class_of c ≡ class.Letter → is_name_byte c ≡ true
unfolding class_of is_name_byte
is_name c e = by (is_letter c) (is_ascii_digit c) (is_quote c) (is_space c) (is_symbol c) e
  where
    by : (l d q s y : Bool) → cond {A = Class} l class.Letter (cond {A = Class} d class.Digit (cond {A = Class} q class.Quote (cond {A = Class} s class.Space (cond {A = Class} y class.Symbol class.Other)))) ≡ class.Letter → (l || d) ≡ true
    by true d q s y e = refl
    by false true q s y e = refl
    by false false true s y e = cc
    by false false false true y e = cc
    by false false false false true e = cc
    by false false false false false e = cc

-- a line feed and a carriage return are none
feed_is_none : is_name_byte 10 ≡ false
unfolding is_name_byte is_letter
feed_is_none = refl

return_is_none : is_name_byte 13 ≡ false
unfolding is_name_byte is_letter
return_is_none = refl

name_bytes : (name : List ℕ) → IsIdentifier name → All (λ c. is_name_byte c ≡ true) name
name_bytes [] is = absurd is
name_bytes (c ∷ more) is = All-cons (λ c. is_name_byte c ≡ true) c more (is_name c is.0) is.1

past_ascii : (c : ℕ) → 128 ≤ c → is_name_byte c ≡ false
unfolding is_name_byte is_letter
past_ascii c past = grind (arith, nat_tests)

name-ascii : (name : List ℕ) → All (λ c. is_name_byte c ≡ true) name → (i : ℕ) → get_or name i 0 < 128
name-ascii name all i = by (cases_lt i (length name)) (cases_lt (get_or name i 0) 128)
  where
    by : (i < length name) ⊎ (length name ≤ i) → (get_or name i 0 < 128) ⊎ (128 ≤ get_or name i 0) → get_or name i 0 < 128
    by within (inl ascii) = ascii
    by (inl lt) (inr past) = let byte = all i 0 lt in let none = past_ascii (get_or name i 0) past in absurd (cc (byte, none))
    by (inr out) (inr past) = absurd (omega (arith, past, get_or_past name i 0 out))

-- an identifier is UTF-8
name-utf8 : (name : List ℕ) → IsIdentifier name → IsUtf8 name
name-utf8 name is = IsUtf8-from_ascii name (name-ascii name (name_bytes name is))

some_bytes : (name : List ℕ) → IsIdentifier name → 0 < length name
some_bytes [] is = absurd is
some_bytes (c ∷ more) is = omega arith

module _ (text : List ℕ) (s : Span) (is : IsIdentifierAt text s) (utf8 : IsUtf8 text) where
  within : s.«end» ≤ length text
  within = (is.cut utf8).1.0

  as_long : length (slice_range text s.start s.«end») ≡ s.«end» - s.start
  as_long = length-take-le (s.«end» - s.start) (drop s.start text) (let le = within in omega (arith, length-drop s.start text, le))

  some : s.start < s.«end»
  some = let few = some_bytes (slice_range text s.start s.«end») is.bytes in omega (arith, as_long, few)

  -- each byte from the start up to the end is one of a name
  named : (n : ℕ) → s.start ≤ n → n < s.«end» → is_name_byte (get_or text n 0) ≡ true
  named n le lt =
      let k : n - s.start < s.«end» - s.start = omega arith in
      let there : s.start + (n - s.start) ≡ n = omega arith in
      let read : get_or (slice_range text s.start s.«end») (n - s.start) 0 ≡ get_or text n 0 =
      get_or-take (s.«end» - s.start) (drop s.start text) (n - s.start) 0 k ∙ get_or-drop s.start text (n - s.start) 0 ∙ ap (λ i. get_or text i 0) there in
      subst (λ c. is_name_byte c ≡ true) read (name_bytes (slice_range text s.start s.«end») is.bytes (n - s.start) 0 (omega (arith, as_long)))

  starts_outside : IsInsideLineEnd text s.start → ⊥
  starts_outside h = let byte = named s.start (omega arith) some in let feed = ap is_name_byte h.2 in cc (byte, feed, feed_is_none)

  ends_outside : IsInsideLineEnd text s.«end» → ⊥
  ends_outside h = let lt = some in let byte = named (s.«end» - 1) (omega (arith, lt)) (omega (arith, lt)) in let return = ap is_name_byte h.1 in cc (byte, return, return_is_none)

cut_out : (text : List ℕ) (p : Place) → IsIdentifierAt text (span_of p) → IsUtf8 text → IsCutOut text p
cut_out text p is utf8 = record {
  ordered = is.ordered;
  first = (is.cut utf8).0;
  second = (is.cut utf8).1;
  starts_outside = starts_outside text (span_of p) is utf8;
  ends_outside = ends_outside text (span_of p) is utf8;
}

-- ---- the places of a rename

-- a new name, and the places of a declaration, its own among them
abbrev pub IsRename : Workspace → List ℕ → List Place → Type 0
IsRename w new_name places = (is_identifier new_name ≡ true) × (r : DeclRef) × (places_of w r true ≡ places)

renamed-decl : (w : Workspace) (r : DeclRef) (new_name : List ℕ) (places : List Place) (named taken : Bool) → is_identifier new_name ≡ named
    → cond {A = Result (List Place) RenameFault} (not named) (Err BadName) (cond taken (Err NameTaken) (checked (analysis w) (sites_of (analysis w) r (place_of (analysis w) r)) new_name)) ≡ Ok places → IsRename w new_name places
renamed-decl w r new_name places false taken name is = absurd (cc (is))
renamed-decl w r new_name places true true name is = absurd (cc (is))
renamed-decl w r new_name places true false name is = (name, r, (checked-keeps (analysis w) (sites_of (analysis w) r (place_of (analysis w) r)) new_name places is).0)

known-decl : (w : Workspace) (r : DeclRef) (new_name : List ℕ) (places : List Place) (unknown : Bool)
    → cond {A = Result (List Place) RenameFault} unknown (Err NotRenamable) (renamed_decl (analysis w) r new_name) ≡ Ok places → IsRename w new_name places
known-decl w r new_name places true is = absurd (cc (is))
known-decl w r new_name places false is =
    renamed-decl w r new_name places (is_identifier new_name) (is_taken (analysis w) r (new_full_name (analysis w) r new_name)) refl is

pub renamed-places : (w : Workspace) (o : Option Symbol) (new_name : List ℕ) (places : List Place) → renamed_symbol (analysis w) o new_name ≡ Ok places → IsRename w new_name places
renamed-places w None new_name places is = absurd (cc (is))
renamed-places w (Some Package) new_name places is = absurd (cc (is))
renamed-places w (Some (Declared r)) new_name places is = known-decl w r new_name places (has_unknown_uses (analysis w) r.file) is

text-utf8 : (w : Workspace) (file : ℕ) → All (λ file. IsUtf8 file.1.text) w → IsUtf8 (text_in w file)
text-utf8 w file utf8 = by (cases_lt file (length w))
  where
    by : (file < length w) ⊎ (length w ≤ file) → IsUtf8 (text_in w file)
    by (inl lt) = utf8 file no_file lt
    by (inr past) = subst (λ (found : SourceAt). IsUtf8 found.1.text) (sym (get_or_past w file no_file past)) IsUtf8-nil

module _ (w : Workspace) (file : ℕ) where
  abbrev is_here : Place → Bool
  is_here p = p.file == file

  all-here : (places : List Place) → All (λ p. p.file ≡ file) (places_in file places)
  all-here places k d lt = eqb-true (get_or (places_in file places) k d).file file (filter_passes is_here places k d lt)

  places-cut : read [] ≡ empty_tree → NamesAreIdentifiers → OthersAreIdentifiers → IsUtf8 (text_in w file) → (r : DeclRef) → All (IsCutOut (text_in w file)) (places_in file (places_of w r true))
  places-cut empty identifiers others utf8 r k d lt =
      let all = places_of w r true in
      let p = get_or (places_in file all) k d in
      let is = All-filter is_here (λ p. (p.file < length w) × IsIdentifierAt (text_in w p.file) (span_of p)) all (places-identifiers empty identifiers others w r true) k d lt in
      cut_out (text_in w file) p (subst (λ n. IsIdentifierAt (text_in w n) (span_of p)) (all-here all k d lt) is.1) utf8

  places-apart_here : PlacesAreApart → (r : DeclRef) → AllPairs (λ p q. p.«end» < q.start) (places_in file (places_of w r true))
  places-apart_here apart r =
      let all = places_of w r true in
      pairs-with IsApart (λ p q. p.«end» < q.start) (λ p. p.file ≡ file) (λ p q first second apart. apart (first ∙ sym second)) (places_in file all) (all-here all)
      (AllPairs-filter IsApart is_here all (apart w r true))

pub renames-change : EditsChangeThePlaces → IdentifierFormLaw → PlacesAreApart → NamesAreIdentifiers → OthersAreIdentifiers → read [] ≡ empty_tree → RenamesChangeTheNames
renames-change edits form apart identifiers others empty e w asked offset new_name places file utf8 is =
    let text = text_in w file in
    let rename = renamed-places w (symbol_at (analysis w) asked offset) new_name places is in
    let text_is = text-utf8 w file utf8 in
    edits e text new_name (places_in file places) text_is (name-utf8 new_name ((form new_name).0 rename.0))
    (subst (λ all. All (IsCutOut text) (places_in file all)) rename.2 (places-cut w file empty identifiers others text_is rename.1))
    (subst (λ all. AllPairs (λ p q. p.«end» < q.start) (places_in file all)) rename.2 (places-apart_here w file apart rename.1))
