-- What follows from what a file's facts say to the files that see it.
use Rattle.std.proofs.Common.{◌≡◌, ◌∙◌, sym, ap, inl, inr, ℕ, suc, ◌+◌, List, [], ◌∷◌, Bool, true, false, Option, Some, None, filter, length, get_or, map, refl, arith}
use Rattle.std.specs.Prelude.{option_map}
use Rattle.std.specs.Option.{option_map_or}
use Rattle.std.specs.List.{enumerate_from, flat_map}
use Rattle.std.proofs.Math.ListN.{get_or-map}
use Rattle.std.proofs.lemmas.Bool.{cases_Bool}
use Rattle.std.proofs.lemmas.List.{length-map}
use Rattle.std.proofs.lemmas.List.Elements.{filter-append}
use Rattle.proto_decls.specs.declared.fact.Decl.{Decl}
use Rattle.proto_decls.specs.declared.fact.DeclKind.{DeclKind}
use Rattle.proto_decls.specs.declared.fact.FileFacts.{FileFacts}
use Rattle.proto_decls.specs.declared.fact.PackageFact.{PackageFact}
use Rattle.proto_decls.specs.declared.named_facts.NamedFacts.{NamedFacts}
use Rattle.proto_names.specs.declared.decl_ref.DeclRef.{DeclRef}
use Rattle.proto_names.specs.Files.{begins, decls_at, is_within, no_decl}
use Rattle.proto_names.specs.Outlines.{exports}
use Rattle.proto_names.proofs.Order.{numbered, refs}

abbrev entry : Decl → DeclKind × List ℕ
entry d = (d.kind, d.full_name)

abbrev Exports : Type 0
Exports = List (DeclKind × List ℕ) × Option (List ℕ)

within_by_name : (name : List ℕ) (o : Option PackageFact) → is_within name o ≡ option_map_or (λ n. begins n name) (option_map (λ p. p.full_name) o) false
within_by_name name None = refl
within_by_name name (Some p) = refl

module _ (a b : FileFacts) (same : exports a ≡ exports b) where
  entries : map entry a.decls ≡ map entry b.decls
  entries = ap (λ (t : Exports). t.0) same

  pub as_many : length a.decls ≡ length b.decls
  as_many = sym (length-map a.decls entry) ∙ ap (λ (es : List (DeclKind × List ℕ)). length es) entries ∙ length-map b.decls entry

  entry_at : (k : ℕ) → entry (get_or a.decls k no_decl) ≡ entry (get_or b.decls k no_decl)
  entry_at k =
      sym (get_or-map entry a.decls k no_decl)
      ∙ ap (λ (es : List (DeclKind × List ℕ)). get_or es k (entry no_decl)) entries
      ∙ get_or-map entry b.decls k no_decl

  pub kind_at : (k : ℕ) → (let d = get_or a.decls k no_decl in d.kind) ≡ (let d = get_or b.decls k no_decl in d.kind)
  kind_at k = ap (λ (e : DeclKind × List ℕ). e.0) (entry_at k)

  pub name_at : (k : ℕ) → (let d = get_or a.decls k no_decl in d.full_name) ≡ (let d = get_or b.decls k no_decl in d.full_name)
  name_at k = ap (λ (e : DeclKind × List ℕ). e.1) (entry_at k)

  pub within_alike : (name : List ℕ) → is_within name a.«package» ≡ is_within name b.«package»
  within_alike name =
      within_by_name name a.«package»
      ∙ ap (λ (t : Exports). option_map_or (λ n. begins n name) t.1 false) same
      ∙ sym (within_by_name name b.«package»)

-- files with as many declarations have the same numbers for them
module _ (p : ℕ → Bool) where
  abbrev is_of : DeclRef → Bool
  is_of r = p r.file

  none_of : (n k : ℕ) (decls : List Decl) → p n ≡ false → filter is_of (map (numbered n) (enumerate_from k decls)) ≡ []
  none_of n k [] fails = refl
  none_of n k (d ∷ ds) fails = rw fails (none_of n (k + 1) ds fails)

  refs_alike : (n k : ℕ) (ds es : List Decl) → length ds ≡ length es → map (numbered n) (enumerate_from k ds) ≡ map (numbered n) (enumerate_from k es)
  refs_alike n k [] [] e = refl
  refs_alike n k [] (c ∷ es) e = absurd (omega (arith, e))
  refs_alike n k (d ∷ ds) [] e = absurd (omega (arith, e))
  refs_alike n k (d ∷ ds) (c ∷ es) e = rw (refs_alike n (k + 1) ds es (omega (arith, e))) refl

  first_alike : (n : ℕ) (ds es : List Decl) → (p n ≡ true → length ds ≡ length es)
      → filter is_of (map (numbered n) (enumerate_from 0 ds)) ≡ filter is_of (map (numbered n) (enumerate_from 0 es))
  first_alike n ds es many = elim (cases_Bool (p n)) [
    | inl passes ↦ ap (λ (rs : List DeclRef). filter is_of rs) (refs_alike n 0 ds es (many passes))
    | inr fails ↦ none_of n 0 ds fails ∙ sym (none_of n 0 es fails)
  ]

  pub decls_alike : (n : ℕ) (xs ys : List NamedFacts) → length xs ≡ length ys → ((k : ℕ) → p (n + k) ≡ true → length (decls_at xs k) ≡ length (decls_at ys k))
      → filter is_of (flat_map refs (enumerate_from n xs)) ≡ filter is_of (flat_map refs (enumerate_from n ys))
  decls_alike n [] [] e many = refl
  decls_alike n [] (y ∷ ys) e many = absurd (omega (arith, e))
  decls_alike n (x ∷ xs) [] e many = absurd (omega (arith, e))
  decls_alike n (x ∷ xs) (y ∷ ys) e many =
      let here : n + 0 ≡ n = omega arith in
      rw (
        filter-append is_of (refs (n, x)) (flat_map refs (enumerate_from (n + 1) xs)),
        filter-append is_of (refs (n, y)) (flat_map refs (enumerate_from (n + 1) ys)),
        first_alike n (let facts = x.facts in facts.decls) (let facts = y.facts in facts.decls) (λ passes. many 0 (rw here passes)),
        decls_alike (n + 1) xs ys (omega (arith, e)) (λ k passes. let there : (n + 1) + k ≡ n + suc k = omega arith in many (suc k) (rw there at passes)),
      ) refl
