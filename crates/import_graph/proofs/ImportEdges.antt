-- What a graph's lists say of its edges.
use Rattle.std.proofs.Common.{◌≡◌, ◌⊎◌, inl, inr, ⊎_elim, ◌↔◌, ℕ, zero, suc, ◌<◌, List, [], ◌∷◌, Bool, true, length, get_or, Option, Some, None, map, filter, nat_eq, refl, ap, sym, ◌∙◌, arith}
use Rattle.std.specs.Prelude.{All, Contains, position, bytes_eq}
use Rattle.std.specs.List.{filter_map, cons_option, starts_with, list_all}
use Rattle.std.proofs.lemmas.Bool.{cases_Bool}
use Rattle.std.proofs.lemmas.List.{length-map}
use Rattle.std.proofs.lemmas.List.Elements.{All-nil, All-cons, All-map}
use Rattle.std.proofs.lemmas.List.Quantifiers.{position-Some}
use Rattle.import_graph.specs.declared.imports.ImportEdge.{ImportEdge}
use Rattle.import_graph.specs.declared.imports.FileImports.{FileImports}
use Rattle.proto_decls.specs.declared.named_facts.NamedFacts.{NamedFacts}
use Rattle.import_graph.specs.Paths.{file_named, slash}
use Rattle.import_graph.specs.Imports.{graph_of, imports_of, edges_at, edge_of, targets, public_targets, is_analysed, is_complete_in}
use Rattle.import_graph.specs.Views.{Imports, ImportsPublicly}
use Rattle.import_graph.specs.Walks.{AllWithin, Lists, Walk, stay, go}

-- elements of a list with one more at its head
pub here : {X : Type 0} (x : X) (xs : List X) → Contains (x ∷ xs) x
here x xs = (0, omega arith, refl)

pub next : {X : Type 0} (x y : X) (xs : List X) → Contains xs y → Contains (x ∷ xs) y
next x y xs (k, lt, e) = (suc k, omega arith, e)

pub here_or_next : {X : Type 0} (x y : X) (xs : List X) → Contains (x ∷ xs) y → (x ≡ y) ⊎ Contains xs y
here_or_next x y xs (zero, lt, e) = inl e
here_or_next x y xs (suc k, lt, e) = inr (k, omega arith, e)

module _ {X Y : Type 0} (h : X → Option Y) where
  abbrev Found : List X → Y → Type 0
  Found xs y = (x : X) × Contains xs x × (h x ≡ Some y)

  further : (x : X) (xs : List X) (y : Y) → Found xs y → Found (x ∷ xs) y
  further x xs y (z, has, e) = (z, next x z xs has, e)

  from_cons : (x : X) (xs : List X) (y : Y) (o : Option Y) (ys : List Y) → h x ≡ o → (Contains ys y → Found xs y) → Contains (cons_option o ys) y → Found (x ∷ xs) y
  from_cons x xs y None ys e rest has = further x xs y (rest has)
  from_cons x xs y (Some z) ys e rest has = ⊎_elim (λ same. (x, here x xs, e ∙ ap Some same)) (λ later. further x xs y (rest later)) (here_or_next z y ys has)

  pub filter_map_from : (xs : List X) (y : Y) → Contains (filter_map h xs) y → Found xs y
  filter_map_from [] y (k, lt, e) = absurd (omega arith)
  filter_map_from (x ∷ xs) y has = from_cons x xs y (h x) (filter_map h xs) refl (filter_map_from xs y) has

  to_cons : (y : Y) (o : Option Y) (ys : List Y) → Contains ys y → Contains (cons_option o ys) y
  to_cons y None ys has = has
  to_cons y (Some z) ys has = next z y ys has

  pub filter_map_to : (xs : List X) (x : X) (y : Y) → Contains xs x → h x ≡ Some y → Contains (filter_map h xs) y
  filter_map_to [] x y (k, lt, e) is = absurd (omega arith)
  filter_map_to (z ∷ xs) x y has is = ⊎_elim
      (λ same. let e : h z ≡ Some y = ap h same ∙ is in rw e (here y (filter_map h xs)))
      (λ later. to_cons y (h z) (filter_map h xs) (filter_map_to xs x y later is))
      (here_or_next z x xs has)

  all_cons : (P : Y → Type 0) (o : Option Y) (ys : List Y) → ((y : Y) → o ≡ Some y → P y) → All P ys → All P (cons_option o ys)
  all_cons P None ys each all = all
  all_cons P (Some y) ys each all = All-cons P y ys (each y refl) all

  pub filter_map_all : (P : Y → Type 0) (xs : List X) → ((x : X) (y : Y) → Contains xs x → h x ≡ Some y → P y) → All P (filter_map h xs)
  filter_map_all P [] each = All-nil P
  filter_map_all P (x ∷ xs) each = all_cons P (h x) (filter_map h xs) (λ y e. each x y (here x xs) e) (filter_map_all P xs (λ z y has e. each z y (next x z xs has) e))

-- an element of a map comes from one of the list
pub in_map : {X Y : Type 0} (f : X → Y) (xs : List X) (y : Y) → Contains (map f xs) y → (x : X) × Contains xs x × (f x ≡ y)
in_map f [] y (k, lt, e) = absurd (omega arith)
in_map f (x ∷ xs) y has = ⊎_elim (λ same. (x, here x xs, same)) (λ later. let r = in_map f xs y later in (r.0, next x r.0 xs r.1, r.2)) (here_or_next (f x) y (map f xs) has)

-- a walk by other steps
pub walk_map : {Step Other : ℕ → ℕ → Type 0} → ((a b : ℕ) → Step a b → Other a b) → {a b : ℕ} → Walk Step a b → Walk Other a b
walk_map each stay = stay
walk_map each (go {a = a} {b = b} first rest) = go (each a b first) (walk_map each rest)

-- the lists of a graph, file by file
pub targets_at : (graph : List FileImports) (f : ℕ) → get_or (map targets graph) f [] ≡ filter_map (λ l. l.target) (edges_at graph f)
targets_at [] f = refl
targets_at (x ∷ xs) zero = refl
targets_at (x ∷ xs) (suc f) = targets_at xs f

pub public_at : (graph : List FileImports) (f : ℕ) → get_or (map public_targets graph) f [] ≡ filter_map (λ l. l.target) (filter (λ l. l.is_public) (edges_at graph f))
public_at [] f = refl
public_at (x ∷ xs) zero = refl
public_at (x ∷ xs) (suc f) = public_at xs f

-- the test of a file's edges, file by file
pub complete_at : (all graph : List FileImports) (f : ℕ) (d : Bool) → f < length graph → get_or (map (is_complete_in all) graph) f d ≡ list_all (λ l. is_analysed all l.target) (edges_at graph f)
complete_at all [] f d lt = absurd (omega arith)
complete_at all (x ∷ xs) zero d lt = refl
complete_at all (x ∷ xs) (suc f) d lt = complete_at all xs f d (omega arith)

pub imports_listed : (graph : List FileImports) (a b : ℕ) → Lists (map targets graph) a b ↔ Imports graph a b
imports_listed graph a b = (
  λ has. filter_map_from (λ l. l.target) (edges_at graph a) b (rw targets_at at has),
  λ (l, has, e). rw targets_at (filter_map_to (λ l. l.target) (edges_at graph a) l b has e),
)

module _ {X : Type 0} (p : X → Bool) where
  pub filter_from : (xs : List X) (y : X) → Contains (filter p xs) y → Contains xs y × (p y ≡ true)
  filter_from [] y (k, lt, e) = absurd (omega arith)
  filter_from (x ∷ xs) y has = elim (cases_Bool (p x)) [
    | inl kept ↦ ⊎_elim
        (λ same. (let e : x ≡ y = same in rw e (here y xs), ap p (sym same) ∙ kept))
        (λ later. let r = filter_from xs y later in (next x y xs r.0, r.1))
        (here_or_next x y (filter p xs) (rw kept at has))
    | inr dropped ↦ let r = filter_from xs y (rw dropped at has) in (next x y xs r.0, r.1)
  ]

  pub filter_to : (xs : List X) (y : X) → Contains xs y → p y ≡ true → Contains (filter p xs) y
  filter_to [] y (k, lt, e) passes = absurd (omega arith)
  filter_to (x ∷ xs) y has passes = ⊎_elim
      (λ same. let e : p x ≡ true = ap p same ∙ passes in rw e (0, omega arith, same))
      (λ later. elim (cases_Bool (p x)) [
        | inl kept ↦ rw kept (next x y (filter p xs) (filter_to xs y later passes))
        | inr dropped ↦ rw dropped (filter_to xs y later passes)
      ])
      (here_or_next x y xs has)

pub public_listed : (graph : List FileImports) (a b : ℕ) → Lists (map public_targets graph) a b ↔ ImportsPublicly graph a b
public_listed graph a b = (
  λ has. let r = filter_map_from (λ l. l.target) (filter (λ l. l.is_public) (edges_at graph a)) b (rw public_at at has) in
      let kept = filter_from (λ l. l.is_public) (edges_at graph a) r.0 r.1 in (r.0, kept.0, kept.1, r.2),
  λ (l, has, marked, e). rw public_at (filter_map_to (λ l. l.target) (filter (λ l. l.is_public) (edges_at graph a)) l b (filter_to (λ l. l.is_public) (edges_at graph a) l has marked) e),
)

-- what is named by its path is there
pub named_within : (files : List NamedFacts) (path : List ℕ) (g : ℕ) → file_named files path ≡ Some g → g < length files
named_within files path g e = elim (cases_Bool (starts_with nat_eq path (slash ∷ []))) [
  | inl rooted ↦ let bad : None ≡ Some g = rw rooted at e in absurd (cc (bad))
  | inr plain ↦ let at = rw plain at e in (position-Some _ files g (a_file files at) at).0
]
  where
    a_file : (files : List NamedFacts) → position (λ file. bytes_eq file.path path) files ≡ Some g → NamedFacts
    a_file [] bad = absurd (cc (bad))
    a_file (f ∷ fs) ok = f

-- a graph of files stays within them
pub graph_within : (files : List NamedFacts) → All (λ file. AllWithin (length (graph_of files)) (targets file)) (graph_of files)
graph_within files =
    All-map (λ file. AllWithin (length (graph_of files)) (targets file)) (λ f. imports_of files f.facts) files
    (λ k d lt. filter_map_all (λ l. l.target) (λ g. g < length (graph_of files)) (map (edge_of files) (let f = get_or files k d in f.facts.imports))
    (λ l g has e. let i = in_map (edge_of files) _ l has in
    let named : file_named files i.0.path ≡ Some g = ap (λ (x : ImportEdge). x.target) i.2 ∙ e in
    rw length-map (named_within files i.0.path g named)))

-- a file has an edge for each of its imports
pub links_counted : (all files : List NamedFacts) (f : ℕ) (d : NamedFacts) → f < length files
    → length (edges_at (map (λ file. imports_of all file.facts) files) f) ≡ length (let file = get_or files f d in file.facts.imports)
links_counted all [] f d lt = absurd (omega arith)
links_counted all (x ∷ xs) zero d lt = length-map (let facts = x.facts in facts.imports) (edge_of all)
links_counted all (x ∷ xs) (suc f) d lt = links_counted all xs f d (omega arith)
