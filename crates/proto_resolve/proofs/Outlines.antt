-- What files say to the graph of imports, and what of it stays where that does.
use Rattle.std.proofs.Common.{◌≡◌, ℕ, zero, suc, ◌<◌, List, [], ◌∷◌, Bool, Option, None, if◌then◌else◌, length, get_or, set, map, bytes_eq, nat_eq, not, refl, sym, ap, ◌∙◌, arith}
use Rattle.std.specs.Prelude.{position}
use Rattle.std.specs.List.{prefix_len, starts_with}
use Rattle.std.proofs.Math.Path.{fun_ext}
use Rattle.std.proofs.Math.Seq.{map-set_same}
use Rattle.std.proofs.lemmas.List.{length-map, length-set, get_or_default, get_or-map}
use Rattle.std.proofs.lemmas.Simd.{map-map}
use Rattle.proto_decls.specs.declared.fact.FileFacts.{FileFacts}
use Rattle.import_graph.specs.declared.imports.ImportEdge.{ImportEdge}
use Rattle.import_graph.specs.declared.imports.FileImports.{FileImports}
use Rattle.proto_decls.specs.declared.named_facts.NamedFacts.{NamedFacts}
use Rattle.import_graph.specs.Imports.{graph_of, imports_of, edge_of}
use Rattle.import_graph.specs.Paths.{IsInPathOrder, slash}
use Rattle.proto_names.specs.Files.{facts_at, no_facts}
use Rattle.proto_names.specs.Outlines.{with_facts}
use Rattle.proto_resolve.specs.Outlines.{imported, import_outline}
use Rattle.proto_names.proofs.Outlines.{here}

-- ---- the graph

prefix_len-map : {X Y : Type 0} (q : Y → Bool) (f : X → Y) (xs : List X) → prefix_len q (map f xs) ≡ prefix_len (λ x. q (f x)) xs
prefix_len-map q f [] = refl
prefix_len-map q f (x ∷ xs) = rw (prefix_len-map q f xs) refl

position-map : {X Y : Type 0} (q : Y → Bool) (f : X → Y) (xs : List X) → position q (map f xs) ≡ position (λ x. q (f x)) xs
position-map q f xs = rw (prefix_len-map (λ y. not (q y)) f xs, length-map xs f) refl

-- what a file says to the graph of imports
abbrev Asking : Type 0
Asking = List ℕ × (Bool × List (List ℕ × Bool))

abbrev pub asking : NamedFacts → Asking
asking file = (file.path, import_outline file.facts)

abbrev named : List Asking → List ℕ → Option ℕ
named all path = if starts_with nat_eq path (slash ∷ []) then None else position (λ a. bytes_eq a.0 path) all

abbrev edge : List Asking → List ℕ × Bool → ImportEdge
edge all i = record { target = named all i.0; is_public = i.1 }

abbrev edges : List Asking → Asking → FileImports
edges all a = record { edges = map (edge all) a.1.1; is_opaque = a.1.0 }

one_link : (files : List NamedFacts) → edge_of files ≡ (λ i. edge (map asking files) (imported i))
one_link files = fun_ext (λ i. ap (λ found. record { target = if starts_with nat_eq i.path (slash ∷ []) then None else found; is_public = i.is_public }) (sym (position-map (λ a. bytes_eq a.0 i.path) asking files)))

one_file : (files : List NamedFacts) (file : NamedFacts) → imports_of files file.facts ≡ edges (map asking files) (asking file)
one_file files file =
    let imports = let facts = file.facts in facts.imports in
    let opaque = (import_outline file.facts).0 in
    ap (λ ls. record { edges = ls; is_opaque = opaque }) (ap (λ f. map f imports) (one_link files) ∙ sym (map-map (edge (map asking files)) imported imports))

graph_is : (files : List NamedFacts) → graph_of files ≡ map (edges (map asking files)) (map asking files)
graph_is files = ap (λ f. map f files) (fun_ext (one_file files)) ∙ sym (map-map (edges (map asking files)) asking files)

-- files that say the same to the graph have one graph
pub same_graph : (old new : List NamedFacts) → map asking old ≡ map asking new → graph_of old ≡ graph_of new
same_graph old new same = graph_is old ∙ ap (λ all. map (edges all) all) same ∙ sym (graph_is new)

-- ---- other facts of a file

module _ (files : List NamedFacts) (f : ℕ) (file : NamedFacts) (facts : FileFacts) (there : f < length files) (is : file ≡ get_or files f file) where
  pub keeps_asking : import_outline facts ≡ import_outline (facts_at files f) → map asking (set files f (record { path = file.path; facts = facts })) ≡ map asking files
  keeps_asking same = map-set_same asking files f (record { path = file.path; facts = facts }) file
      (ap (λ o. (file.path, o)) (same ∙ ap import_outline (here files f file there is)) ∙ ap asking is)

-- ---- the order of the files

same_path : (files : List NamedFacts) (f : ℕ) (facts : FileFacts) (i : ℕ) (other : NamedFacts) → i < length files
    → (let now = get_or (with_facts files f facts) i other in now.path) ≡ (let was = get_or files i other in was.path)
same_path [] f facts i other there = absurd (omega (arith, there))
same_path (x ∷ files) zero facts zero other there = refl
same_path (x ∷ files) zero facts (suc i) other there = refl
same_path (x ∷ files) (suc f) facts zero other there = refl
same_path (x ∷ files) (suc f) facts (suc i) other there = same_path files f facts i other (omega (arith, there))

pub stays_in_order : (files : List NamedFacts) (f : ℕ) (facts : FileFacts) → IsInPathOrder files → IsInPathOrder (with_facts files f facts)
stays_in_order files f facts ordered i j other before there =
    let there' : j < length files = omega (arith, there, length-set files f (record { path = get_or (map (λ x. x.path) files) f []; facts = facts })) in
    rw (same_path files f facts i other (omega (arith, before, there')), same_path files f facts j other there') (ordered i j other before there')

-- ---- the same for the files with other facts of one

module _ (files : List NamedFacts) (f : ℕ) (facts : FileFacts) (there : f < length files) where
  nothing : NamedFacts
  nothing = record { path = []; facts = no_facts }

  named_so : get_or (map (λ (x : NamedFacts). x.path) files) f [] ≡ (let file = get_or files f nothing in file.path)
  named_so = get_or-map (λ (x : NamedFacts). x.path) files f nothing [] there

  itself : get_or files f nothing ≡ get_or files f (get_or files f nothing)
  itself = get_or_default files f nothing (get_or files f nothing) there

  pub asks_alike : import_outline facts ≡ import_outline (facts_at files f) → map asking files ≡ map asking (with_facts files f facts)
  asks_alike same = sym (ap (λ p. map asking (set files f (record { path = p; facts = facts }))) named_so ∙ keeps_asking files f (get_or files f nothing) facts there itself same)
