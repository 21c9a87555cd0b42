-- The uses of a file's names, by the names' numbers.
use Rattle.std.proofs.Common.{◌≡◌, ◌∙◌, ap, ap₂, inl, inr, ℕ, ◌+◌, ◌<◌, ◌≤◌, ◌==◌, List, [], ◌∷◌, ◌++◌, Bool, true, false, Option, Some, None, filter, refl, arith, append-nil}
use Rattle.std.specs.Prelude.{◌⊎◌, All, is_some}
use Rattle.std.specs.List.{enumerate_from, filter_map, flat_map}
use Rattle.std.specs.Option.{option_map_or}
use Rattle.std.proofs.lemmas.Bool.{cases_Bool}
use Rattle.std.proofs.lemmas.List.Elements.{All-append, All-cons, All-head, All-nil, All-tail, All-weaker, filter-append}
use Rattle.proto_decls.specs.declared.named_facts.NamedFacts.{NamedFacts}
use Rattle.proto_tree.specs.declared.node.Span.{Span}
use Rattle.proto_resolve.specs.declared.site.NameSite.{NameSite}
use Rattle.proto_resolve.specs.declared.target.Target.{Target}
use Rattle.proto_resolve.specs.declared.uses.NameUse.{NameUse}
use Rattle.proto_resolve.specs.Names.{found, joined_all, scope_of, texts_of}
use Rattle.proto_resolve.specs.Uses.{prefixes, use_at, uses, uses_at, uses_of}
use Rattle.proto_resolve.proofs.Firsts.{agrees, differs}

module _ {X : Type 0} (p : X → Bool) where
  all_pass : (xs : List X) → All (λ x. p x ≡ true) xs → filter p xs ≡ xs
  all_pass [] all = refl
  all_pass (x ∷ xs) all = rw (All-head (λ x. p x ≡ true) x xs all, all_pass xs (All-tail (λ x. p x ≡ true) x xs all)) refl

  none_pass : (xs : List X) → All (λ x. p x ≡ false) xs → filter p xs ≡ []
  none_pass [] all = refl
  none_pass (x ∷ xs) all = rw (All-head (λ x. p x ≡ false) x xs all) (none_pass xs (All-tail (λ x. p x ≡ false) x xs all))

module _ (files : List NamedFacts) (f : ℕ) (view : List ℕ) where
  abbrev HasNumber : ℕ → NameUse → Type 0
  HasNumber i u = u.name ≡ i

  -- a use has the number of its name
  in_scope : (i : ℕ) (ps : List (List ℕ × Span)) → All (HasNumber i) (filter_map (use_at files f view i) ps)
  in_scope i [] = All-nil (HasNumber i)
  in_scope i (p ∷ ps) = elim (cases_found (found files f view p.0)) [
    | inl there ↦ rw there.1 (All-cons (HasNumber i) (record { span = p.1; name = i; target = there.0 }) (filter_map (use_at files f view i) ps) refl (in_scope i ps))
    | inr nothing ↦ rw nothing (in_scope i ps)
  ]
    where
      cases_found : (o : Option Target) → ((t : Target) × (o ≡ Some t)) ⊎ (o ≡ None)
      cases_found (Some t) = inl (t, refl)
      cases_found None = inr refl

  at_scope : (i : ℕ) (site : NameSite) (o : Option (List ℕ)) → All (HasNumber i) (option_map_or (uses_at files f view i site) o [])
  at_scope i site None = All-nil (HasNumber i)
  at_scope i site (Some s) = elim (cases_Bool (is_some (found files f view (joined_all s (texts_of site))))) [
    | inl there ↦ rw there (in_scope i (prefixes s site.components))
    | inr nothing ↦ rw nothing (All-nil (HasNumber i))
  ]

  abbrev of_number : ℕ × NameSite → List NameUse
  of_number e = uses_of files f view e.0 e.1

  numbered : (e : ℕ × NameSite) → All (HasNumber e.0) (of_number e)
  numbered e = at_scope e.0 e.1 (scope_of files f view e.1)

  abbrev is_of : ℕ → NameUse → Bool
  is_of i u = u.name == i

  abbrev from : ℕ → List NameSite → List NameUse
  from n sites = flat_map of_number (enumerate_from n sites)

  later : (n : ℕ) (sites : List NameSite) → All (λ u. n ≤ u.name) (from n sites)
  later n [] = All-nil (λ (u : NameUse). n ≤ u.name)
  later n (site ∷ sites) =
      All-append (λ u. n ≤ u.name) (of_number (n, site)) (from (n + 1) sites)
      (All-weaker (HasNumber n) (λ u. n ≤ u.name) (λ u e. omega arith) (of_number (n, site)) (numbered (n, site)))
      (All-weaker (λ u. n + 1 ≤ u.name) (λ u. n ≤ u.name) (λ u le. omega arith) (from (n + 1) sites) (later (n + 1) sites))

  -- those of a number among all
  first_only : (n : ℕ) (site : NameSite) (sites : List NameSite) → filter (is_of n) (from n (site ∷ sites)) ≡ of_number (n, site)
  first_only n site sites =
      filter-append (is_of n) (of_number (n, site)) (from (n + 1) sites)
      ∙ ap₂ (λ xs ys. xs ++ ys)
      (all_pass (is_of n) (of_number (n, site)) (All-weaker (HasNumber n) (λ u. is_of n u ≡ true) (λ u e. agrees u.name n e) (of_number (n, site)) (numbered (n, site))))
      (none_pass (is_of n) (from (n + 1) sites) (All-weaker (λ u. n + 1 ≤ u.name) (λ u. is_of n u ≡ false) (λ u le. differs u.name n (λ e. absurd (omega arith))) (from (n + 1) sites) (later (n + 1) sites)))
      ∙ append-nil (of_number (n, site))

  not_first : (n i : ℕ) (site : NameSite) (sites : List NameSite) → n < i → filter (is_of i) (from n (site ∷ sites)) ≡ filter (is_of i) (from (n + 1) sites)
  not_first n i site sites lt =
      filter-append (is_of i) (of_number (n, site)) (from (n + 1) sites)
      ∙ ap (λ xs. xs ++ filter (is_of i) (from (n + 1) sites))
      (none_pass (is_of i) (of_number (n, site)) (All-weaker (HasNumber n) (λ u. is_of i u ≡ false) (λ u e. differs u.name i (λ e'. absurd (omega arith))) (of_number (n, site)) (numbered (n, site))))

  abbrev IsItself : List NameUse → ℕ × NameSite → Type 0
  IsItself all e = filter (is_of e.0) all ≡ of_number e

  each_from : (n : ℕ) (sites : List NameSite) → All (λ e. (n ≤ e.0) × IsItself (from n sites) e) (enumerate_from n sites)
  each_from n [] = All-nil (λ (e : ℕ × NameSite). (n ≤ e.0) × IsItself [] e)
  each_from n (site ∷ sites) =
      All-cons (λ e. (n ≤ e.0) × IsItself (from n (site ∷ sites)) e) (n, site) (enumerate_from (n + 1) sites) (omega arith, first_only n site sites)
      (All-weaker (λ e. (n + 1 ≤ e.0) × IsItself (from (n + 1) sites) e) (λ e. (n ≤ e.0) × IsItself (from n (site ∷ sites)) e)
      (λ e is. (omega (arith, is.0), not_first n e.0 site sites (omega (arith, is.0)) ∙ is.1)) (enumerate_from (n + 1) sites) (each_from (n + 1) sites))

  -- the uses that have a name's number are those of the name
  pub uses_by_name : (sites : List NameSite) → All (λ e. filter (λ u. u.name == e.0) (uses files f view sites) ≡ uses_of files f view e.0 e.1) (enumerate_from 0 sites)
  uses_by_name sites =
      All-weaker (λ e. (0 ≤ e.0) × IsItself (from 0 sites) e) (IsItself (from 0 sites)) (λ e is. is.1) (enumerate_from 0 sites) (each_from 0 sites)
