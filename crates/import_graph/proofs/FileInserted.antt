-- One more file among others, none of which imports it: the graph has one more file that no other imports.
use Rattle.std.proofs.Common.{◌≡◌, inl, inr, ℕ, zero, suc, ◌+◌, ◌≤◌, List, [], ◌∷◌, ◌++◌, Bool, true, false, length, get_or, Option, Some, map, take, drop, nat_eq, refl, ap, ap₂, sym, subst, ◌∙◌, arith}
use Rattle.std.specs.Prelude.{All, position, bytes_eq, option_map, not}
use Rattle.std.specs.List.{insert, position_or_len, starts_with}
use Rattle.std.proofs.lemmas.Bool.{cases_Bool, cases_lt, lt-ltb, le-ltb, false_from_ne_true}
use Rattle.std.proofs.lemmas.List.{length-map, map-append, take-map, drop-map}
use Rattle.std.proofs.lemmas.List.Edits.{length-insert}
use Rattle.std.proofs.lemmas.List.Elements.{All-head, All-tail}
use Rattle.std.proofs.lemmas.Slice.Eq.{bytes_eq-Decides}
use Rattle.proto_decls.specs.declared.fact.ImportFact.{ImportFact}
use Rattle.import_graph.specs.declared.imports.ImportEdge.{ImportEdge}
use Rattle.import_graph.specs.declared.imports.FileImports.{FileImports}
use Rattle.proto_decls.specs.declared.named_facts.NamedFacts.{NamedFacts}
use Rattle.import_graph.specs.Arrivals.{ArrivalLaw, MakesRoom, NobodyImports}
use Rattle.import_graph.specs.Imports.{edge_of, edges_at, graph_of, imports_of, is_opaque}
use Rattle.import_graph.specs.Paths.{file_named, slash}
use Rattle.import_graph.proofs.ImportEdges.{graph_within}
use Rattle.import_graph.proofs.NewNumbers.{new_number, number_from, number_within}
use Rattle.import_graph.proofs.OneMoreFile.{moved_edge, HasOneMore, outlook_moved}

-- one more element, which a test refuses, moves the first place at which the test passes
place_moved : {X : Type 0} (p : X → Bool) (xs : List X) (k : ℕ) (y : X) → k ≤ length xs → p y ≡ false
    → position_or_len p (insert xs k y) ≡ new_number k (position_or_len p xs)
place_moved p [] zero y le refused = let e : not (p y) ≡ true = ap not refused in rw e refl
place_moved p [] (suc k) y le refused = absurd (omega (arith, le))
place_moved p (x ∷ xs) zero y le refused = let e : not (p y) ≡ true = ap not refused in rw e (omega arith)
place_moved p (x ∷ xs) (suc k) y le refused = elim (cases_Bool (p x)) [
  | inl passes ↦ rw passes refl
  | inr fails ↦
      let rest = place_moved p xs k y (omega (arith, le)) refused in
      let one : 1 + position_or_len p xs ≡ suc (position_or_len p xs) = omega arith in
      let both : 1 + position_or_len p (insert xs k y) ≡ new_number (suc k) (1 + position_or_len p xs) = rw one (omega (arith, rest)) in
      rw fails both
]

pub position_moved : {X : Type 0} (p : X → Bool) (xs : List X) (k : ℕ) (y : X) → k ≤ length xs → p y ≡ false
    → position p (insert xs k y) ≡ option_map (new_number k) (position p xs)
position_moved p xs k y le refused =
    let moved = place_moved p xs k y le refused in
    let long = length-insert xs k y le in
    elim (cases_lt (position_or_len p xs) (length xs)) [
      | inl there ↦
          let less = number_within k (position_or_len p xs) (length xs) there in
          rw (lt-ltb (position_or_len p xs) (length xs) there, lt-ltb (position_or_len p (insert xs k y)) (length (insert xs k y)) (omega (arith, moved, long, less))) (ap Some moved)
      | inr past ↦
          let from = number_from k (position_or_len p xs) (omega (arith, le, past)) in
          rw (le-ltb (position_or_len p xs) (length xs) past, le-ltb (position_or_len p (insert xs k y)) (length (insert xs k y)) (omega (arith, moved, long, from, past))) refl
    ]

-- a list with one more element at the place k, element by element
pub map_insert : {X Y : Type 0} (h : X → Y) (xs : List X) (k : ℕ) (y : X) → map h (insert xs k y) ≡ insert (map h xs) k (h y)
map_insert h xs k y = map-append h (take k xs) (y ∷ drop k xs) ∙ ap₂ (λ (front back : List _). front ++ h y ∷ back) (sym (take-map h k xs)) (sym (drop-map h k xs))

pub others_stay : {X Y : Type 0} (h : X → Y) (xs : List X) (k : ℕ) (y : X) (g : ℕ) (d : Y) → k ≤ length xs → get_or (map h (insert xs k y)) (new_number k g) d ≡ get_or (map h xs) g d
others_stay h [] zero y g d le = refl
others_stay h [] (suc k) y g d le = absurd (omega (arith, le))
others_stay h (x ∷ xs) zero y g d le = refl
others_stay h (x ∷ xs) (suc k) y zero d le = refl
others_stay h (x ∷ xs) (suc k) y (suc g) d le = others_stay h xs k y g d (omega (arith, le))

-- a text that differs from another, which thus differs from it
differs_back : (a b : List ℕ) → bytes_eq a b ≡ false → bytes_eq b a ≡ false
differs_back a b e = false_from_ne_true (bytes_eq b a) (λ same. let also : bytes_eq a b ≡ true = (bytes_eq-Decides a b).1 (sym ((bytes_eq-Decides b a).0 same)) in absurd (cc (e, also)))

module _ (files : List NamedFacts) (k : ℕ) (file : NamedFacts) (le : k ≤ length files) where
  -- the import has another path than the new file
  abbrev pub NamesAnother : ImportFact → Type 0
  NamesAnother i = bytes_eq i.path file.path ≡ false

  abbrev pub ImportsOthers : NamedFacts → Type 0
  ImportsOthers f = All NamesAnother (let facts = f.facts in facts.imports)

  -- such an import names the file that it named, by its new number
  named_moved : (path : List ℕ) → bytes_eq path file.path ≡ false → file_named (insert files k file) path ≡ option_map (new_number k) (file_named files path)
  named_moved path differs = elim (cases_Bool (starts_with nat_eq path (slash ∷ []))) [
    | inl rooted ↦ rw rooted refl
    | inr plain ↦ rw plain (position_moved (λ f. bytes_eq f.path path) files k file le (differs_back path file.path differs))
  ]

  edge_moved : (i : ImportFact) → NamesAnother i → edge_of (insert files k file) i ≡ moved_edge k (edge_of files i)
  edge_moved i differs = ap (λ (t : Option ℕ). record { target = t; is_public = i.is_public }) (named_moved i.path differs)

  pub edges_moved : (imports : List ImportFact) → All NamesAnother imports → map (edge_of (insert files k file)) imports ≡ map (moved_edge k) (map (edge_of files) imports)
  edges_moved [] nobody = refl
  edges_moved (i ∷ imports) nobody = ap₂ (λ (l : ImportEdge) (ls : List ImportEdge). l ∷ ls)
      (edge_moved i (All-head NamesAnother i imports nobody))
      (edges_moved imports (All-tail NamesAnother i imports nobody))

  -- the graph of some of the files, as the imports name files now and as they did
  abbrev pub now : List NamedFacts → List FileImports
  now some = map (λ f. imports_of (insert files k file) f.facts) some

  abbrev pub before : List NamedFacts → List FileImports
  before some = map (λ f. imports_of files f.facts) some

  all_edges_moved : (some : List NamedFacts) → NobodyImports some file.path → (f : ℕ) → edges_at (now some) f ≡ map (moved_edge k) (edges_at (before some) f)
  all_edges_moved [] nobody f = refl
  all_edges_moved (x ∷ some) nobody zero = edges_moved (let facts = x.facts in facts.imports) (All-head ImportsOthers x some nobody)
  all_edges_moved (x ∷ some) nobody (suc f) = all_edges_moved some (All-tail ImportsOthers x some nobody) f

  opaque_stays : (some : List NamedFacts) → map (λ x. x.is_opaque) (now some) ≡ map (λ x. x.is_opaque) (before some)
  opaque_stays [] = refl
  opaque_stays (x ∷ some) = ap (λ rest. is_opaque (let facts = x.facts in facts.syntax) ∷ rest) (opaque_stays some)

  pub now_is : graph_of (insert files k file) ≡ insert (now files) k (imports_of (insert files k file) file.facts)
  now_is = map_insert (λ f. imports_of (insert files k file) f.facts) files k file

  has_one_more : NobodyImports files file.path → HasOneMore (graph_of files) (graph_of (insert files k file)) k
  has_one_more nobody =
      let long = length-map files (λ f. imports_of files f.facts) in
      let room : k ≤ length (now files) = omega (arith, le, length-map files (λ f. imports_of (insert files k file) f.facts)) in
      record {
        room = omega (arith, le, long);
        counted = omega (arith, long, length-map (insert files k file) (λ f. imports_of (insert files k file) f.facts), length-insert files k file le);
        within = graph_within files;
        new_within = graph_within (insert files k file);
        edges = λ f. ap (λ graph. edges_at graph (new_number k f)) now_is
            ∙ others_stay (λ x. x.edges) (now files) k (imports_of (insert files k file) file.facts) f [] room
            ∙ all_edges_moved files nobody f;
        opaque = λ g. ap (λ graph. get_or (map (λ x. x.is_opaque) graph) (new_number k g) true) now_is
            ∙ others_stay (λ x. x.is_opaque) (now files) k (imports_of (insert files k file) file.facts) g true room
            ∙ ap (λ flags. get_or flags g true) (opaque_stays files);
      }

-- so a graph of files says of each what it said, under the new numbers
pub arrival : ArrivalLaw
arrival files k file to f f' nobody room there e =
    let long = length-map files (λ x. imports_of files x.facts) in
    outlook_moved (graph_of files) (graph_of (insert files k file)) k (has_one_more files k file room.within nobody)
    to (subst (λ n. MakesRoom to n k) (sym long) room) f f' (omega (arith, there, long)) e
