-- Declarations have the names of the tree, in its order.
use Rattle.std.specs.List.Sorted.{IsStrictlyIncreasing}
use Rattle.std.proofs.lemmas.List.{map-append}
use Rattle.std.proofs.Common.{Option, Some, None, ◌≡◌, ℕ, ◌+◌, Bool, true, false, length, cond, arith, List, [], ◌∷◌, ◌++◌, refl, sym, ap, ◌∙◌, subst}
use Rattle.std.specs.Prelude.{map, nat_lt}
use Rattle.proto_tree.specs.declared.node.FileTree.{FileTree}
use Rattle.proto_tree.specs.declared.node.Node.{Node, roll-Node, map-Node}
use Rattle.proto_tree.specs.declared.node.Node.TheOpen.{Node-F}
use Rattle.proto_tree.specs.declared.node.Node.TheFolds.{fold-roll-Node, ind-Node}
use Rattle.proto_tree.specs.declared.node.Span.{Span}
use Rattle.proto_tree.specs.Names.{joined, names_step, names_of, names_in}
use Rattle.proto_tree.specs.Read.{read, value_tree}
use Rattle.proto_decls.specs.Decls.{Placed, in_turn, decls_step, decls_of, decls_in}
use Rattle.proto_decls.specs.declared.diagnostic.Diag.{Diag}
use Rattle.proto_decls.specs.declared.fact.Decl.{Decl}
use Rattle.proto_decls.specs.declared.fact.DeclKind.{DeclKind}
use Rattle.proto_decls.specs.declared.fact.DeclKind.TheVariants as kind
use Rattle.proto_decls.specs.declared.stated.StatedSyntax.{StatedSyntax}
use Rattle.proto_decls.specs.Facts.{facts_at, facts_of, opaque, stated, package_name, first_package, packages}

abbrev pub spans_of : List Decl → List Span
spans_of ds = map (λ d. d.name_span) ds

-- what is declared at any place has these names
abbrev pub Names : Placed → List Span → Type 0
Names declared names = (k : DeclKind) (scope : List ℕ) (parent : Option ℕ) (next : ℕ) → spans_of (declared k scope parent next) ≡ names

module _ (text : List ℕ) where
  abbrev pub Known : Type 0
  Known = (n : Node) × Names (decls_of text n) (names_of n)

  -- statements in turn
  in_turn-names : (items : List Known) → Names (in_turn (map (decls_of text) (map (λ e. e.0) items))) (joined (map names_of (map (λ e. e.0) items)))
  in_turn-names [] k scope parent next = refl
  in_turn-names (e ∷ more) k scope parent next =
      let first = decls_of text e.0 k scope parent next in
      let rest = in_turn (map (decls_of text) (map (λ e. e.0) more)) k scope parent (next + length first) in
      map-append (λ d. d.name_span) first rest
      ∙ ap (λ l. l ++ spans_of rest) (e.1 k scope parent next)
      ∙ ap (λ l. names_of e.0 ++ l) (in_turn-names more k scope parent (next + length first))

  -- one level
  step-names : (y : Node-F Known) → Names (decls_step text (map-Node Node Placed (decls_of text) (map-Node Known Node (λ e. e.0) y))) (names_step (map-Node Node (List Span) names_of (map-Node Known Node (λ e. e.0) y)))
  step-names (Node-F.Message span name items) k scope parent next = ap (λ l. name ∷ l) (in_turn-names items kind.Field _ (Some next) (next + 1))
  step-names (Node-F.EnumDef span name items) k scope parent next = ap (λ l. name ∷ l) (in_turn-names items kind.Field scope (Some next) (next + 1))
  step-names (Node-F.Service span name items) k scope parent next = ap (λ l. name ∷ l) (in_turn-names items kind.Field _ (Some next) (next + 1))
  step-names (Node-F.Oneof span name items) k scope parent next = ap (λ l. name ∷ l) (in_turn-names items kind.Field scope (Some next) (next + 1))
  step-names (Node-F.Extend span target items) k scope parent next = in_turn-names items kind.Extension scope parent next
  step-names (Node-F.Rpc span name request response items) k scope parent next = refl
  step-names (Node-F.Field f) k scope parent next = refl
  step-names (Node-F.MapField f) k scope parent next = refl
  step-names (Node-F.Value span name number) k scope parent next = refl
  step-names (Node-F.Reserved span list) k scope parent next = refl
  step-names (Node-F.Import span is_public path) k scope parent next = refl
  step-names (Node-F.Package span name components) k scope parent next = refl
  step-names (Node-F.OptionDef span name value) k scope parent next = refl
  step-names (Node-F.Syntax span value) k scope parent next = refl
  step-names (Node-F.Empty span) k scope parent next = refl

  decls_of-names : (n : Node) → Names (decls_of text n) (names_of n)
  decls_of-names = ind-Node (λ n. Names (decls_of text n) (names_of n)) (λ x y is. subst (λ z. Names (decls_of text (roll-Node z)) (names_of (roll-Node z))) is (λ k scope parent next.
      let layer = map-Node Known Node (λ e. e.0) y in
      ap (λ (d : Placed). spans_of (d k scope parent next)) (fold-roll-Node Placed (decls_step text) layer)
      ∙ step-names y k scope parent next
      ∙ sym (fold-roll-Node (List Span) names_step layer)))

  decls_in-names : (nodes : List Node) → Names (decls_in text nodes) (names_in nodes)
  decls_in-names [] k scope parent next = refl
  decls_in-names (n ∷ more) k scope parent next =
      let first = decls_of text n k scope parent next in
      let rest = decls_in text more k scope parent (next + length first) in
      map-append (λ d. d.name_span) first rest
      ∙ ap (λ l. l ++ spans_of rest) (decls_of-names n k scope parent next)
      ∙ ap (λ l. names_of n ++ l) (decls_in-names more k scope parent (next + length first))

-- where the names of a tree ascend, so do those of the declarations
abbrev pub Ascend : List Decl → Type 0
Ascend ds = IsStrictlyIncreasing (map (λ d. d.name_span.start) ds)

starts-map : (ds : List Decl) → map (λ s. s.start) (spans_of ds) ≡ map (λ d. d.name_span.start) ds
starts-map [] = refl
starts-map (d ∷ more) = ap (λ l. d.name_span.start ∷ l) (starts-map more)

-- a text's tree is that of the text, or of the empty one
abbrev pub NamesAscend : FileTree → Type 0
NamesAscend tree = IsStrictlyIncreasing (map (λ s. s.start) (names_in tree.nodes))

value-ascends : (text : List ℕ) → ((read_text : List ℕ) → NamesAscend (read read_text)) → NamesAscend (value_tree text)
unfolding value_tree
value-ascends text each = by (nat_lt 16777216 (length text))
  where
    by : (b : Bool) → NamesAscend (cond {A = FileTree} b (read []) (read text))
    by true = each []
    by false = each text

facts-ascend : (o : Option Diag) (syntaxes : List StatedSyntax) (text : List ℕ) (tree : FileTree) → NamesAscend tree → Ascend (facts_at o syntaxes text tree).decls
facts-ascend None syntaxes text tree h =
    let place = package_name (first_package (packages text tree.nodes)) in
    let all = decls_in text tree.nodes kind.Field place None 0 in
    subst IsStrictlyIncreasing (ap (λ l. map (λ s. s.start) l) (sym (decls_in-names text tree.nodes kind.Field place None 0)) ∙ starts-map all) h
facts-ascend (Some d) syntaxes text tree h = λ k lt. absurd (omega (arith, lt))

pub decls-ascend : (text : List ℕ) → ((read_text : List ℕ) → NamesAscend (read read_text)) → Ascend (facts_of text).decls
decls-ascend text each =
    let tree = value_tree text in
    facts-ascend (opaque text (stated text tree.nodes)) (stated text tree.nodes) text tree (value-ascends text each)
