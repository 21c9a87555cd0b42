-- The declarations of a full name in some of the files, file by file.
use Rattle.std.proofs.Common.{◌≡◌, ◌∙◌, ap, ap₂, inl, inr, ℕ, ◌+◌, ◌<◌, List, [], ◌∷◌, ◌++◌, Bool, true, false, filter, length, get_or, map, refl, arith}
use Rattle.std.specs.Prelude.{All, bytes_eq, if◌then◌else◌}
use Rattle.std.specs.List.{enumerate_from, flat_map}
use Rattle.std.proofs.Math.ListN.{get_or-map}
use Rattle.std.proofs.lemmas.Bool.{cases_Bool}
use Rattle.std.proofs.lemmas.List.{map-append}
use Rattle.std.proofs.lemmas.List.Elements.{All-head, All-tail, All-from_get_or, All-weaker, filter-append}
use Rattle.std.proofs.lemmas.List.FromFn.{get_or-enumerate_from, length-enumerate_from}
use Rattle.proto_decls.specs.declared.fact.Decl.{Decl}
use Rattle.proto_decls.specs.declared.fact.DeclKind.{DeclKind}
use Rattle.proto_decls.specs.declared.fact.FileFacts.{FileFacts}
use Rattle.proto_decls.specs.declared.named_facts.NamedFacts.{NamedFacts}
use Rattle.proto_names.specs.declared.decl_ref.DeclRef.{DeclRef}
use Rattle.proto_names.specs.Files.{all_decls, decl_at, facts_at, no_decl, no_facts, refs_of}
use Rattle.proto_names.proofs.Order.{numbered, refs}
use Rattle.work_links.specs.Touched.{declared_as}

-- ---- lists

module _ {X : Type 0} where
  -- each element of a numbered list stands at its number
  at_number : (xs : List X) (d : X) → All (λ e. get_or xs e.0 d ≡ e.1) (enumerate_from 0 xs)
  at_number xs d = All-from_get_or (λ e. get_or xs e.0 d ≡ e.1) (enumerate_from 0 xs) (0, d)
      (λ i lt. let within : i < length xs = omega (arith, lt, length-enumerate_from 0 xs) in let here : 0 + i ≡ i = omega arith in rw (get_or-enumerate_from 0 xs i (0, d) within, here) refl)

-- ---- declarations of a name

abbrev pub Kinded : Type 0
Kinded = DeclRef × DeclKind

abbrev pub with_kind : List NamedFacts → DeclRef → Kinded
with_kind files r = (r, let d = decl_at files r in d.kind)

abbrev has_name : List NamedFacts → List ℕ → DeclRef → Bool
has_name files name r = bytes_eq (let d = decl_at files r in d.full_name) name

abbrev pub of_file : ℕ → ℕ × DeclKind → Kinded
of_file g e = (record { file = g; number = e.0 }, e.1)

abbrev is_called : List ℕ → ℕ × Decl → Bool
is_called name e = bytes_eq (let d = e.1 in d.full_name) name

abbrev no_file : NamedFacts
no_file = record { path = []; facts = no_facts }

abbrev kind_of : ℕ × Decl → ℕ × DeclKind
kind_of e = (e.0, let d = e.1 in d.kind)

module _ (near : ℕ → Bool) (name : List ℕ) where
  abbrev is_near : DeclRef → Bool
  is_near r = near r.file

  -- those in one file
  abbrev pub named_in : ℕ → FileFacts → List Kinded
  named_in g facts = if near g then map (of_file g) (declared_as facts name) else []

  module _ (files : List NamedFacts) where
    abbrev pub kept : List DeclRef → List Kinded
    kept rs = map (with_kind files) (filter is_near (filter (has_name files name) rs))

    abbrev IsAt : ℕ → ℕ × Decl → Type 0
    IsAt g e = decl_at files (numbered g e) ≡ e.1

    far_kept : (g : ℕ) → near g ≡ false → (es : List (ℕ × Decl)) → kept (map (numbered g) es) ≡ []
    far_kept g far [] = refl
    far_kept g far (e ∷ es) = elim (cases_Bool (has_name files name (numbered g e))) [
      | inl passes ↦ rw (passes, far) (far_kept g far es)
      | inr fails ↦ rw fails (far_kept g far es)
    ]

    near_kept : (g : ℕ) → near g ≡ true → (es : List (ℕ × Decl)) → All (IsAt g) es
        → kept (map (numbered g) es) ≡ map (of_file g) (map kind_of (filter (is_called name) es))
    near_kept g here [] all = refl
    near_kept g here (e ∷ es) all =
        let at : decl_at files (numbered g e) ≡ e.1 = All-head (IsAt g) e es all in
        let rest : kept (map (numbered g) es) ≡ map (of_file g) (map kind_of (filter (is_called name) es)) = near_kept g here es (All-tail (IsAt g) e es all) in
        elim (cases_Bool (is_called name e)) [
          | inl passes ↦ rw (at, passes, here, at, rest) refl
          | inr fails ↦ rw (at, fails) rest
        ]

    decls_at_numbers : (g : ℕ) (facts : FileFacts) → facts_at files g ≡ facts → All (IsAt g) (enumerate_from 0 facts.decls)
    decls_at_numbers g facts same = All-weaker (λ e. get_or facts.decls e.0 no_decl ≡ e.1) (IsAt g)
        (λ e there. ap (λ (fs : FileFacts). get_or fs.decls e.0 no_decl) same ∙ there) (enumerate_from 0 facts.decls) (at_number facts.decls no_decl)

    file_kept : (g : ℕ) (facts : FileFacts) → facts_at files g ≡ facts → kept (refs_of g facts.decls) ≡ named_in g facts
    file_kept g facts same = elim (cases_Bool (near g)) [
      | inl here ↦ rw here (near_kept g here (enumerate_from 0 facts.decls) (decls_at_numbers g facts same))
      | inr far ↦ rw far (far_kept g far (enumerate_from 0 facts.decls))
    ]

    abbrev IsFile : ℕ × NamedFacts → Type 0
    IsFile e = facts_at files e.0 ≡ (let file = e.1 in file.facts)

    abbrev pub named_by : ℕ × NamedFacts → List Kinded
    named_by e = named_in e.0 (let file = e.1 in file.facts)

    all_kept : (es : List (ℕ × NamedFacts)) → All IsFile es → kept (flat_map refs es) ≡ flat_map named_by es
    all_kept [] all = refl
    all_kept (e ∷ es) all =
        ap (λ (rs : List DeclRef). map (with_kind files) (filter is_near rs)) (filter-append (has_name files name) (refs e) (flat_map refs es))
        ∙ ap (λ (rs : List DeclRef). map (with_kind files) rs) (filter-append is_near (filter (has_name files name) (refs e)) (filter (has_name files name) (flat_map refs es)))
        ∙ map-append (with_kind files) (filter is_near (filter (has_name files name) (refs e))) (filter is_near (filter (has_name files name) (flat_map refs es)))
        ∙ ap₂ (λ (us vs : List Kinded). us ++ vs)
        (file_kept e.0 (let file = e.1 in file.facts) (All-head IsFile e es all)) (all_kept es (All-tail IsFile e es all))

    files_at_numbers : All IsFile (enumerate_from 0 files)
    files_at_numbers = All-weaker (λ e. get_or files e.0 no_file ≡ e.1) IsFile
        (λ e there. get_or-map (λ (file : NamedFacts). file.facts) files e.0 no_file ∙ ap (λ (file : NamedFacts). file.facts) there) (enumerate_from 0 files) (at_number files no_file)

    pub seen_kept : kept (all_decls files) ≡ flat_map named_by (enumerate_from 0 files)
    seen_kept = all_kept (enumerate_from 0 files) files_at_numbers
