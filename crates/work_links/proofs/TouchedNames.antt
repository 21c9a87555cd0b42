-- What a change of a file's declarations leaves as it was, for a file that asks for no touched name.
use Rattle.std.proofs.Common.{◌≡◌, ◌∙◌, sym, ap, ap₂, inl, inr, ℕ, suc, ◌+◌, ◌==◌, List, [], ◌∷◌, ◌++◌, Bool, true, false, ◌||◌, length, get_or, map, refl, arith}
use Rattle.std.specs.Prelude.{All}
use Rattle.std.specs.List.{enumerate_from, flat_map, list_all}
use Rattle.std.proofs.lemmas.Bool.{cases_Bool, cases_eq}
use Rattle.std.proofs.lemmas.List.{map-append}
use Rattle.std.proofs.lemmas.List.Elements.{All-nil, All-cons, All-weaker}
use Rattle.proto_decls.specs.declared.fact.DeclKind.{DeclKind}
use Rattle.proto_decls.specs.declared.fact.FileFacts.{FileFacts}
use Rattle.proto_decls.specs.declared.named_facts.NamedFacts.{NamedFacts}
use Rattle.import_graph.specs.Closures.{view_of}
use Rattle.import_graph.specs.Imports.{graph_of}
use Rattle.proto_names.specs.Files.{decls_at, facts_at, is_seen}
use Rattle.proto_resolve.specs.Resolved.{sites_at}
use Rattle.proto_resolve.proofs.Firsts.{agrees, differs}
use Rattle.work_links.specs.declared.renumbering.Renumbering.{Renumbering}
use Rattle.work_links.specs.declared.touched.Touched.{Touched}
use Rattle.work_links.specs.Asked.{may_ask, names_asked}
use Rattle.work_links.specs.Laws.{DifferBy, seen_named, TouchedLaw}
use Rattle.proto_names.specs.Outlines.{package_name}
use Rattle.work_links.specs.Touched.{decl_after, declared_as, is_touched, renumbered}
use Rattle.work_links.proofs.AskedAlone.{asked_law}
use Rattle.work_links.proofs.NamedByFile.{Kinded, of_file, named_by, named_in, seen_kept}

-- ---- lists

module _ {X : Type 0} where
  all_pass : (p : X → Bool) (xs : List X) → list_all p xs ≡ true → All (λ x. p x ≡ true) xs
  all_pass p [] e = All-nil (λ x. p x ≡ true)
  all_pass p (x ∷ xs) e = elim (cases_Bool (p x)) [
    | inl passes ↦ All-cons (λ x. p x ≡ true) x xs passes (all_pass p xs (rw passes at e))
    | inr fails ↦ let no : false ≡ true = rw fails at e in absurd (cc (no))
  ]

-- ---- the same after a change of one file

module _ (old new : List NamedFacts) (touched : Touched) (differ : DifferBy old new touched) where
  abbrev by : Renumbering
  by = touched.by

  abbrev moved : Kinded → Kinded
  moved e = (decl_after touched.by e.0, e.1)

  abbrev with_number : ℕ × DeclKind → ℕ × DeclKind
  with_number e = (renumbered touched.by e.0, e.1)

  others_moved : (g : ℕ) → (g == by.file) ≡ false → (es : List (ℕ × DeclKind)) → map moved (map (of_file g) es) ≡ map (of_file g) es
  others_moved g other [] = refl
  others_moved g other (e ∷ es) = rw other (ap (λ (us : List Kinded). of_file g e ∷ us) (others_moved g other es))

  changed_moved : (g : ℕ) → (g == by.file) ≡ true → (es : List (ℕ × DeclKind)) → map moved (map (of_file g) es) ≡ map (of_file g) (map with_number es)
  changed_moved g same [] = refl
  changed_moved g same (e ∷ es) = rw same (ap (λ (us : List Kinded). of_file g (with_number e) ∷ us) (changed_moved g same es))

  package_alike : (g : ℕ) → package_name (facts_at old g) ≡ package_name (facts_at new g)
  package_alike g = elim (cases_eq g by.file) [
    | inl same ↦ rw same (let tells = differ.tells in tells.packages)
    | inr other ↦ ap (λ (facts : FileFacts). package_name facts) (differ.others g other)
  ]

  module _ (name : List ℕ) (untouched : is_touched touched name ≡ false) where
    declared_alike : (g : ℕ) → g ≡ by.file → declared_as (facts_at new g) name ≡ map with_number (declared_as (facts_at old g) name)
    declared_alike g same = rw same (let tells = differ.tells in tells.declared name untouched)

    decls_alike : (g : ℕ) → map (of_file g) (declared_as (facts_at new g) name) ≡ map moved (map (of_file g) (declared_as (facts_at old g) name))
    decls_alike g = elim (cases_eq g by.file) [
      | inl same ↦
          ap (λ (es : List (ℕ × DeclKind)). map (of_file g) es) (declared_alike g same)
          ∙ sym (changed_moved g (agrees g by.file same) (declared_as (facts_at old g) name))
      | inr other ↦
          ap (λ (facts : FileFacts). map (of_file g) (declared_as facts name)) (sym (differ.others g other))
          ∙ sym (others_moved g (differs g by.file other) (declared_as (facts_at old g) name))
    ]

    module _ (near : ℕ → Bool) where
      file_alike : (g : ℕ) → named_in near name g (facts_at new g) ≡ map moved (named_in near name g (facts_at old g))
      file_alike g = elim (cases_Bool (near g)) [
        | inl here ↦ rw here (decls_alike g)
        | inr far ↦ rw far refl
      ]

      files_alike : (n : ℕ) (xs ys : List NamedFacts) → length xs ≡ length ys
          → ((k : ℕ) → named_in near name (n + k) (facts_at ys k) ≡ map moved (named_in near name (n + k) (facts_at xs k)))
          → flat_map (named_by near name ys) (enumerate_from n ys) ≡ map moved (flat_map (named_by near name xs) (enumerate_from n xs))
      files_alike n [] [] e alike = refl
      files_alike n [] (y ∷ ys) e alike = absurd (omega (arith, e))
      files_alike n (x ∷ xs) [] e alike = absurd (omega (arith, e))
      files_alike n (x ∷ xs) (y ∷ ys) e alike =
          let here : n + 0 ≡ n = omega arith in
          ap₂ (λ (us vs : List Kinded). us ++ vs) (rw here at (alike 0))
          (files_alike (n + 1) xs ys (omega (arith, e)) (λ k. let there : (n + 1) + k ≡ n + suc k = omega arith in rw there (alike (suc k))))
          ∙ sym (map-append moved (named_in near name n x.facts) (flat_map (named_by near name xs) (enumerate_from (n + 1) xs)))

    named_alike : (f : ℕ) (view : List ℕ) → seen_named new f view name ≡ map moved (seen_named old f view name)
    named_alike f view =
        let near : ℕ → Bool = λ g. (g == f) || is_seen view g in
        seen_kept near name new
        ∙ files_alike near 0 old new differ.files (λ k. let here : 0 + k ≡ k = omega arith in rw here (file_alike near k))
        ∙ ap (λ (us : List Kinded). map moved us) (sym (seen_kept near name old))

-- ---- the whole

pub touched_law : TouchedLaw
touched_law old new touched f asked text tree other differ imports has untouched =
    let names : List (List ℕ) = names_asked (sites_at new f text tree) (decls_at new f) in
    let view : List ℕ = view_of (graph_of new) f in
    asked_law old new f (decl_after touched.by) text tree (λ r. refl) (record {
      imports = imports;
      own = differ.others f other;
      packages = λ k d lt. package_alike old new touched differ (get_or view k d);
      named = All-weaker (λ name. may_ask asked name ≡ true) (λ name. seen_named new f view name ≡ map (moved old new touched differ) (seen_named old f view name))
          (λ name may. named_alike old new touched differ name (untouched name may) f view) names (all_pass (may_ask asked) names has);
    })
