-- What an analysis of a workspace has of a file.
use Rattle.std.proofs.Common.{◌≡◌, ◌⊎◌, ◌∙◌, inl, inr, ℕ, zero, suc, ◌+◌, ◌<◌, Bool, true, false, cond, List, [], ◌∷◌, length, get_or, Option, Some, None, refl, sym, ap, subst, arith, zero-add}
use Rattle.std.specs.Prelude.{Contains, find, option_map, position}
use Rattle.std.specs.List.{enumerate_from, position_from, slice_get}
use Rattle.std.specs.Option.{option_map_or}
use Rattle.std.proofs.lemmas.Iterator.Adapters.{position_from-zero}
use Rattle.std.proofs.lemmas.List.{length-map}
use Rattle.std.proofs.lemmas.List.FromFn.{get_or-enumerate_from, length-enumerate_from}
use Rattle.std.proofs.lemmas.Option.{slice_get-get_or, slice_get-map, slice_get_within}
use Rattle.proto_tree.specs.declared.node.Span.{Span}
use Rattle.proto_decls.specs.declared.fact.Decl.{Decl}
use Rattle.proto_decls.specs.declared.fact.FileFacts.{FileFacts}
use Rattle.proto_decls.specs.declared.fact.PackageFact.{PackageFact}
use Rattle.proto_laws.proofs.Holders.{inside}
use Rattle.proto_laws.proofs.Holders.{first_in, later_in, none_in, cases_in}
use Rattle.proto_resolve.specs.declared.resolve.Links.{Links}
use Rattle.proto_resolve.specs.declared.uses.NameUse.{NameUse}
use Rattle.work_index.specs.Workspace.{Workspace, analysis, no_file, resolution_of, source_facts}
use Rattle.lsp_queries.specs.Files.{components_in, components_of, decls_in, uses_in}
use Rattle.lsp_queries.specs.PlaceLaws.{source_in}
use Rattle.lsp_queries.specs.Standing.{HasComponent, HasDecl, HasUse}
use Rattle.lsp_queries.proofs.Places.{own-uses, uses_of_file}

-- ---- the first that passes a test

module _ {X : Type 0} (p : X → Bool) where
  -- an element at this place passes
  abbrev PassesAt : List X → ℕ → Type 0
  PassesAt xs k = (x : X) × (slice_get xs k ≡ Some x) × (p x ≡ true)

  from-tells : (xs : List X) (i n : ℕ) → position_from p i xs ≡ Some n → (k : ℕ) × (n ≡ i + k) × PassesAt xs k
  from-tells [] i n e = absurd (cc (e))
  from-tells (x ∷ xs) i n e = by (p x) refl (λ e. let h = from-tells xs (i + 1) n e in (suc h.0, (let is = h.1 in omega (arith, is)), h.2)) e
    where
      by : (b : Bool) → p x ≡ b → (position_from p (i + 1) xs ≡ Some n → (k : ℕ) × (n ≡ i + k) × PassesAt (x ∷ xs) k) → cond {A = Option ℕ} b (Some i) (position_from p (i + 1) xs) ≡ Some n → (k : ℕ) × (n ≡ i + k) × PassesAt (x ∷ xs) k
      by true is more e = let same = inside i n e in (0, omega (arith, same), (x, refl, is))
      by false is more e = more e

  from-first : (xs : List X) (i n : ℕ) → PassesAt xs n → (k : ℕ) × (position_from p i xs ≡ Some (i + k)) × PassesAt xs k
  from-first [] i n h = absurd (let e = h.1 in cc)
  from-first (x ∷ xs) i zero h =
      let same = inside x h.0 h.1 in
      let yes : p x ≡ true = ap p same ∙ h.2 in
      let none : i ≡ i + 0 = omega arith in
      (0, ap (λ (b : Bool). cond {A = Option ℕ} b (Some i) (position_from p (i + 1) xs)) yes ∙ ap (λ (n : ℕ). Some n) none, (x, refl, yes))
  from-first (x ∷ xs) i (suc n) h = by (p x) refl (from-first xs (i + 1) n h)
    where
      by : (b : Bool) → p x ≡ b → (k : ℕ) × (position_from p (i + 1) xs ≡ Some ((i + 1) + k)) × PassesAt xs k → (k : ℕ) × (cond {A = Option ℕ} b (Some i) (position_from p (i + 1) xs) ≡ Some (i + k)) × PassesAt (x ∷ xs) k
      by true is more = let none : i ≡ i + 0 = omega arith in (0, ap (λ (n : ℕ). Some n) none, (x, refl, is))
      by false is more = let next : (i + 1) + more.0 ≡ i + suc more.0 = omega arith in (suc more.0, more.1 ∙ ap (λ (n : ℕ). Some n) next, more.2)

  pub position-tells : (xs : List X) (n : ℕ) → position p xs ≡ Some n → PassesAt xs n
  position-tells xs n e =
      let h = from-tells xs 0 n (sym (position_from-zero p xs) ∙ e) in
      let same : h.0 ≡ n = let is = h.1 in omega (arith, is) in
      subst (PassesAt xs) same h.2

  pub position-first : (xs : List X) (n : ℕ) → PassesAt xs n → (k : ℕ) × (position p xs ≡ Some k) × PassesAt xs k
  position-first xs n h = let g = from-first xs 0 n h in (g.0, position_from-zero p xs ∙ g.1 ∙ ap (λ (k : ℕ). Some k) (zero-add g.0), g.2)

  pub find-tells : (xs : List X) (x : X) → find p xs ≡ Some x → Contains xs x × (p x ≡ true)
  find-tells [] x e = absurd (cc (e))
  find-tells (y ∷ xs) x e = by (p y) refl (λ e. let h = find-tells xs x e in (later_in y xs x h.0, h.1)) e
    where
      by : (b : Bool) → p y ≡ b → (find p xs ≡ Some x → Contains (y ∷ xs) x × (p x ≡ true)) → cond {A = Option X} b (Some y) (find p xs) ≡ Some x → Contains (y ∷ xs) x × (p x ≡ true)
      by true is more e = let same = inside y x e in (subst (Contains (y ∷ xs)) same (first_in y xs), subst (λ z. p z ≡ true) same is)
      by false is more e = more e

  pub find-first : (xs : List X) (x : X) → Contains xs x → p x ≡ true → (y : X) × (find p xs ≡ Some y) × Contains xs y × (p y ≡ true)
  find-first [] x c passes = absurd (none_in x c)
  find-first (z ∷ xs) x c passes = by (p z) refl (cases_in z xs x c) (λ c. find-first xs x c passes)
    where
      by : (b : Bool) → p z ≡ b → (z ≡ x) ⊎ Contains xs x → (Contains xs x → (y : X) × (find p xs ≡ Some y) × Contains xs y × (p y ≡ true)) → (y : X) × (cond {A = Option X} b (Some z) (find p xs) ≡ Some y) × Contains (z ∷ xs) y × (p y ≡ true)
      by true is at more = (z, refl, first_in z xs, is)
      by false is (inl same) more = absurd (let no : p x ≡ false = ap p (sym same) ∙ is in cc)
      by false is (inr later) more = let h = more later in (h.0, h.1, later_in z xs h.0 h.2, h.3)

-- ---- an analysis

module _ (w : Workspace) where
  -- the facts of a file are those of its source
  pub facts-are : (i : ℕ) (facts : FileFacts) → slice_get (analysis w).facts i ≡ Some facts → (i < length w) × (facts ≡ source_facts (source_in w i))
  facts-are i facts e =
      let lt : i < length w = let within = slice_get_within (analysis w).facts i facts e in omega (arith, within, length-map w (λ file. source_facts file.1)) in
      (lt, inside facts (source_facts (source_in w i)) (sym e ∙ slice_get-map (λ file. source_facts file.1) w i ∙ ap (option_map (λ file. source_facts file.1)) (slice_get-get_or w i no_file lt)))

  pub links-are : (i : ℕ) (links : Links) → slice_get (analysis w).links i ≡ Some links → (i < length w) × (links.uses ≡ uses_of_file w i)
  links-are i links e =
      let numbered = enumerate_from 0 w in
      let within : i < length numbered = let lt = slice_get_within (analysis w).links i links e in omega (arith, lt, length-map numbered (resolution_of w)) in
      let lt : i < length w = omega (arith, within, length-enumerate_from 0 w) in
      let file : slice_get numbered i ≡ Some (i, get_or w i no_file) = slice_get-get_or numbered i (0, no_file) within ∙ ap (λ e. Some e) (get_or-enumerate_from 0 w i (0, no_file) lt ∙ ap (λ n. (n, get_or w i no_file)) (zero-add i)) in
      (lt, ap (λ (l : Links). l.uses) (inside links (resolution_of w (i, get_or w i no_file)) (sym e ∙ slice_get-map (resolution_of w) numbered i ∙ ap (option_map (resolution_of w)) file)) ∙ own-uses w i lt)

  -- its declarations, its uses and the components of its package
  module _ (i : ℕ) where
    abbrev facts_at : Option FileFacts
    facts_at = slice_get (analysis w).facts i

    abbrev links_at : Option Links
    links_at = slice_get (analysis w).links i

    pub has-decl : (n : ℕ) (d : Decl) → slice_get (decls_in (analysis w) i) n ≡ Some d → HasDecl (analysis w) i n d
    has-decl n d e = by facts_at refl e
      where
        by : (o : Option FileFacts) → facts_at ≡ o → slice_get (option_map_or (λ facts. facts.decls) o []) n ≡ Some d → HasDecl (analysis w) i n d
        by None is e = absurd (cc (e))
        by (Some facts) is e = (facts, is, e)

    pub decl-there : (n : ℕ) (d : Decl) → HasDecl (analysis w) i n d → slice_get (decls_in (analysis w) i) n ≡ Some d
    decl-there n d h = ap (λ o. slice_get (option_map_or (λ facts. facts.decls) o []) n) h.1 ∙ h.2

    pub has-use : (u : NameUse) → Contains (uses_in (analysis w) i) u → HasUse (analysis w) i u
    has-use u c = by links_at refl c
      where
        by : (o : Option Links) → links_at ≡ o → Contains (option_map_or (λ links. links.uses) o []) u → HasUse (analysis w) i u
        by None is c = absurd (none_in u c)
        by (Some links) is c = (links, is, c)

    pub use-there : (u : NameUse) → HasUse (analysis w) i u → Contains (uses_in (analysis w) i) u
    use-there u h = subst (λ l. Contains l u) (sym (ap (λ o. option_map_or (λ links. links.uses) o []) h.1)) h.2

    of_option : (facts : FileFacts) (o : Option PackageFact) (s : Span) → facts_at ≡ Some facts → facts.«package» ≡ o → Contains (components_of o) s → HasComponent (analysis w) i s
    of_option facts None s at is c = absurd (none_in s c)
    of_option facts (Some p) s at is c = (facts, p, at, is, c)

    pub has-component : (s : Span) → Contains (components_in (analysis w) i) s → HasComponent (analysis w) i s
    has-component s c = by facts_at refl c
      where
        by : (o : Option FileFacts) → facts_at ≡ o → Contains (option_map_or (λ facts. components_of facts.«package») o []) s → HasComponent (analysis w) i s
        by None is c = absurd (none_in s c)
        by (Some facts) is c = of_option facts facts.«package» s is refl c

    pub component-there : (s : Span) → HasComponent (analysis w) i s → Contains (components_in (analysis w) i) s
    component-there s h =
        subst (λ l. Contains l s) (sym (ap (λ o. option_map_or (λ facts. components_of facts.«package») o []) h.2 ∙ ap components_of h.3)) h.4
