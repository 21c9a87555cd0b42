-- An identifier stands at each name of a text.
use Rattle.std.proofs.Common.{◌≡◌, ℕ, Bool, true, false, List, [], ◌∷◌, ◌++◌, length, Option, Some, None, sym, subst, arith, cond, IsUtf8}
use Rattle.std.specs.Prelude.{◌&&◌, nat_le, nat_lt, slice_range, All, MatchOption, IsCharBoundary, ⊤}
use Rattle.std.specs.List.{cons_option}
use Rattle.std.proofs.lemmas.Bool.{le-leb}
use Rattle.std.proofs.lemmas.Bool.Decides.{nat_tests}
use Rattle.std.proofs.lemmas.List.Elements.{All-nil, All-cons, All-head, All-tail, All-weaker}
use Rattle.proto_tree.specs.declared.node.FileTree.{FileTree}
use Rattle.proto_tree.specs.declared.node.Node.{Node, out-Node, map-Node}
use Rattle.proto_tree.specs.declared.node.Node.TheOpen.{Node-F}
use Rattle.proto_tree.specs.declared.node.Node.TheFolds.{fold_out-Node}
use Rattle.proto_tree.specs.declared.node.Span.{Span}
use Rattle.proto_tree.specs.Identifiers.{AllIdentifiers, IsIdentifier, IsIdentifierAt}
use Rattle.proto_tree.specs.Identifiers.{NamesAreIdentifiers as SpansAreIdentifiers}
use Rattle.proto_tree.specs.Names.{names_in, type_components_in, package_components_step, package_components_of, package_components_in}
use Rattle.proto_tree.specs.Others.{other_tree}
use Rattle.proto_tree.specs.Read.{empty_tree, read, value_tree}
use Rattle.proto_decls.specs.declared.diagnostic.Diag.{Diag}
use Rattle.proto_decls.specs.declared.stated.StatedPackage.{StatedPackage}
use Rattle.proto_decls.specs.declared.stated.StatedSyntax.{StatedSyntax}
use Rattle.proto_decls.specs.Facts.{facts_at, first_package, opaque, package_of, packages, stated}
use Rattle.proto_decls.specs.IdentifierLaws.{IsIdentifierIn, NamesAreIdentifiers, PackagesAreIdentifiers}
use Rattle.proto_decls.specs.Text.{is_boundary}

-- ---- what stands at a span

and_true : (a b : Bool) → a ≡ true → b ≡ true → (a && b) ≡ true
and_true true b p q = q
and_true false b p q = p

boundary : (text : List ℕ) (i : ℕ) → IsCharBoundary text i → is_boundary text i ≡ true
boundary text i h = grind (arith, nat_tests, h)

stands-there : (text : List ℕ) (s : Span) → IsUtf8 text → IsIdentifierAt text s → IsIdentifierIn text s
stands-there text s utf8 h =
    let cut = h.cut utf8 in
    let ordered : nat_le s.start s.«end» ≡ true = le-leb s.start s.«end» h.ordered in
    let within = and_true _ _ ordered (and_true _ _ (boundary text s.start cut.0) (boundary text s.«end» cut.1)) in
    subst (λ (b : Bool). IsIdentifier (cond {A = List ℕ} b (slice_range text s.start s.«end») [])) (sym within) h.bytes

-- ---- the tree that counts

pub weaker : (P Q : Span → Type 0) (nodes : List Node) → ((s : Span) → P s → Q s) → AllIdentifiers P nodes → AllIdentifiers Q nodes
weaker P Q nodes each h = record {
  names = All-weaker P Q each (names_in nodes) h.names;
  types = All-weaker P Q each (type_components_in nodes) h.types;
  packages = All-weaker P Q each (package_components_in nodes) h.packages;
}

none : (P : Span → Type 0) → AllIdentifiers P []
none P = record { names = All-nil P; types = All-nil P; packages = All-nil P }

-- a text's tree is that of the text, or the empty one
pub of_value : (P : Span → Type 0) (text : List ℕ) → read [] ≡ empty_tree → AllIdentifiers P (read text).nodes → AllIdentifiers P (value_tree text).nodes
unfolding value_tree
of_value P text empty h = by (nat_lt 16777216 (length text))
  where
    by : (b : Bool) → AllIdentifiers P (cond {A = FileTree} b (read []) (read text)).nodes
    by true = subst (λ tree. AllIdentifiers P tree.nodes) (sym empty) (none P)
    by false = h

-- the names of a text that isn't proto3, as it is read for what it declares, are identifiers of the text
abbrev pub OthersAreIdentifiers : Type 0
OthersAreIdentifiers = (text : List ℕ) → AllIdentifiers (IsIdentifierAt text) (other_tree text).nodes

pub names-are_identifiers : read [] ≡ empty_tree → SpansAreIdentifiers → NamesAreIdentifiers
names-are_identifiers empty spans text utf8 =
    of_value (IsIdentifierIn text) text empty (weaker (IsIdentifierAt text) (IsIdentifierIn text) (read text).nodes (λ s. stands-there text s utf8) (spans text))

-- ---- packages

module _ (P : Span → Type 0) (text : List ℕ) where
  All-front : (front behind : List Span) → All P (front ++ behind) → All P front
  All-front [] behind h = All-nil P
  All-front (s ∷ front) behind h = All-cons P s front (All-head P s (front ++ behind) h) (All-front front behind (All-tail P s (front ++ behind) h))

  All-behind : (front behind : List Span) → All P (front ++ behind) → All P behind
  All-behind [] behind h = h
  All-behind (s ∷ front) behind h = All-behind front behind (All-tail P s (front ++ behind) h)

  abbrev Have : StatedPackage → Type 0
  Have p = All P p.fact.components

  -- one statement
  statement-packages : (y : Node-F Node) (behind : List Span) (more : List StatedPackage) → All P (package_components_step (map-Node Node (List Span) package_components_of y) ++ behind) → (All P behind → All Have more) → All Have (cons_option (package_of text y) more)
  statement-packages (Node-F.Package span name components) behind more h rest = All-cons Have _ more (All-front components behind h) (rest (All-behind components behind h))
  statement-packages (Node-F.Message span name items) behind more h rest = rest h
  statement-packages (Node-F.EnumDef span name items) behind more h rest = rest h
  statement-packages (Node-F.Service span name items) behind more h rest = rest h
  statement-packages (Node-F.Oneof span name items) behind more h rest = rest h
  statement-packages (Node-F.Extend span target items) behind more h rest = rest h
  statement-packages (Node-F.Rpc span name request response items) behind more h rest = rest h
  statement-packages (Node-F.Field f) behind more h rest = rest h
  statement-packages (Node-F.MapField f) behind more h rest = rest h
  statement-packages (Node-F.Value span name number) behind more h rest = rest h
  statement-packages (Node-F.Reserved span list) behind more h rest = rest h
  statement-packages (Node-F.Import span is_public path) behind more h rest = rest h
  statement-packages (Node-F.OptionDef span name value) behind more h rest = rest h
  statement-packages (Node-F.Syntax span value) behind more h rest = rest h
  statement-packages (Node-F.Empty span) behind more h rest = rest h

  all-packages : (nodes : List Node) → All P (package_components_in nodes) → All Have (packages text nodes)
  all-packages [] h = All-nil Have
  all-packages (n ∷ more) h =
      let opened = subst (λ l. All P (l ++ package_components_in more)) (fold_out-Node (List Span) package_components_step n) h in
      statement-packages (out-Node n) (package_components_in more) (packages text more) opened (all-packages more)

  first-has : (found : List StatedPackage) → All Have found → MatchOption (first_package found) ⊤ (λ p. All P p.components)
  first-has [] h = tt
  first-has (p ∷ more) h = All-head Have p more h

  pub facts-have : (o : Option Diag) (syntaxes : List StatedSyntax) (tree : FileTree) → All P (package_components_in tree.nodes) → MatchOption (facts_at o syntaxes text tree).«package» ⊤ (λ p. All P p.components)
  facts-have None syntaxes tree h = first-has (packages text tree.nodes) (all-packages tree.nodes h)
  facts-have (Some d) syntaxes tree h = tt

pub packages-are_identifiers : NamesAreIdentifiers → PackagesAreIdentifiers
packages-are_identifiers names text utf8 =
    let tree = value_tree text in
    facts-have (IsIdentifierIn text) text (opaque text (stated text tree.nodes)) (stated text tree.nodes) tree (names text utf8).packages
