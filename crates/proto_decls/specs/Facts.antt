-- What a text says by itself.
use Rattle.std.specs.Prelude.{◌≡◌, ℕ, Bool, not, ◌&&◌, is_some, List, [], ◌∷◌, ◌++◌, Option, Some, None, map, drop, nat_lt, codes, if◌then◌else◌}
use Rattle.std.specs.List.{flat_map, filter_map, list_any}
use Rattle.std.specs.Str.{bytes_eq}
use Rattle.std.specs.declared.alloc.Global.{Global}
use Rattle.proto_tree.specs.declared.node.Span.{Span}
use Rattle.proto_tree.specs.declared.node.Literal.{Literal}
use Rattle.proto_tree.specs.declared.node.SyntaxProblem.{SyntaxProblem}
use Rattle.proto_tree.specs.declared.node.SyntaxProblem.TheVariants as problem
use Rattle.proto_tree.specs.declared.node.FileTree.{FileTree}
use Rattle.proto_tree.specs.declared.node.Node.{Node, out-Node}
use Rattle.proto_tree.specs.declared.node.Node.TheOpen.{Node-F}
use Rattle.proto_tree.specs.Others.{other_tree}
use Rattle.proto_tree.specs.Read.{is_too_long, value_tree}
use Rattle.proto_decls.specs.declared.fact.Decl.{Decl}
use Rattle.proto_decls.specs.declared.fact.DeclKind.TheVariants as kind
use Rattle.proto_decls.specs.declared.diagnostic.Diag.{Diag}
use Rattle.proto_decls.specs.declared.fact.FileFacts.{FileFacts}
use Rattle.proto_decls.specs.declared.fact.ImportFact.{ImportFact}
use Rattle.proto_decls.specs.declared.problem.Problem.TheVariants as m
use Rattle.proto_decls.specs.declared.fact.PackageFact.{PackageFact}
use Rattle.proto_decls.specs.declared.stated.StatedPackage.{StatedPackage}
use Rattle.proto_decls.specs.declared.stated.StatedSyntax.{StatedSyntax}
use Rattle.proto_decls.specs.declared.fact.SyntaxFact.TheVariants.{Proto3, Other, Opaque}
use Rattle.proto_decls.specs.Text.{literal_text, dotted}
use Rattle.proto_decls.specs.Tree.{all_statements}
use Rattle.proto_decls.specs.Starts.{start_of}
use Rattle.proto_decls.specs.Decls.{decls_in}
use Rattle.proto_decls.specs.Checks.{diag_if, judged, statement_diags}
use Rattle.proto_decls.specs.Diags.{diag, nowhere, diag_of}
use Rattle.proto_decls.specs.Order.{in_order, IsListOf}

-- ---- statements of the file itself

abbrev pub first_package : List StatedPackage → Option PackageFact
first_package [] = None
first_package (p ∷ more) = Some p.fact

abbrev pub package_name : Option PackageFact → List ℕ
package_name None = []
package_name (Some p) = p.full_name

abbrev pub bad_start : SyntaxProblem → Span → Option ℕ
bad_start (problem.BadToken reason) span = None
bad_start _ span = Some span.start

-- where the statements of a file start, bad ones too (those inside a block start behind it)
abbrev pub starts : FileTree → List ℕ
starts tree = map (λ n. start_of (out-Node n)) tree.nodes ++ filter_map (λ f. bad_start f.problem f.span) tree.faults

-- 312: the full name of an earlier declaration
abbrev pub declared_twice : List Decl → Decl → Option Diag
declared_twice before d = diag_if (list_any (λ e. bytes_eq e.full_name d.full_name) before) m.DeclaredTwice d.name_span

-- 313: the path of an earlier import
abbrev pub imported_twice : List ImportFact → ImportFact → Option Diag
imported_twice before i = diag_if (list_any (λ e. bytes_eq e.path i.path) before) m.ImportedTwice i.span

abbrev pub package_twice : StatedPackage → Diag
package_twice p = diag m.PackageTwice p.name

-- 314: each package but the first
abbrev pub package_diags : List StatedPackage → List Diag
package_diags found = map package_twice (drop 1 found)

-- 315: a statement starts before it
abbrev pub syntax_late : List ℕ → StatedSyntax → Option Diag
syntax_late found s = diag_if (list_any (λ start. nat_lt start s.span.start) found) m.SyntaxNotFirst s.span

-- 317, unless the first `syntax` says proto3
abbrev pub not_proto3 : List StatedSyntax → Option Diag
not_proto3 [] = Some (diag m.NotProto3 nowhere)
not_proto3 (s ∷ more) = diag_if (not s.is_proto3) m.NotProto3 s.span

-- 316 and 317: the one diagnostic of an opaque file
abbrev pub opaque : List ℕ → List StatedSyntax → Option Diag
opaque text found = if is_too_long text then Some (diag m.TextTooLong nowhere) else not_proto3 found

-- what is wrong with its packages, imports and declarations
abbrev pub file_diags : List StatedPackage → List ImportFact → List Decl → List Diag
file_diags packages_are imports_are decls_are = judged declared_twice decls_are ++ judged imported_twice imports_are ++ package_diags packages_are

module _ (text : List ℕ) where
  abbrev pub says_proto3 : Literal → Bool
  says_proto3 value = bytes_eq (literal_text text value) (codes "proto3")

  abbrev pub stated_of : Node-F Node → Option StatedSyntax
  stated_of (Node-F.Syntax span value) = Some (record { span = span; is_proto3 = says_proto3 value })
  stated_of _ = None

  -- the `syntax` statements
  abbrev pub stated : List Node → List StatedSyntax
  stated nodes = filter_map (λ n. stated_of (out-Node n)) nodes

  abbrev pub package_of : Node-F Node → Option StatedPackage
  package_of (Node-F.Package span name components) = Some (record { name = name; fact = record { full_name = dotted text components; components = components } })
  package_of _ = None

  -- the `package` statements
  abbrev pub packages : List Node → List StatedPackage
  packages nodes = filter_map (λ n. package_of (out-Node n)) nodes

  abbrev pub import_of : Node-F Node → Option ImportFact
  import_of (Node-F.Import span is_public path) = Some (record { path = literal_text text path; span = path.span; is_public = is_public })
  import_of _ = None

  abbrev pub imports : List Node → List ImportFact
  imports nodes = filter_map (λ n. import_of (out-Node n)) nodes

  -- the declarations of a file in a package
  abbrev pub decls_with : List ℕ → List Node → List Decl
  decls_with package_is nodes = decls_in text nodes kind.Field package_is None 0

  abbrev pub decls : List Node → List Decl
  decls nodes = decls_with (package_name (first_package (packages nodes))) nodes

  -- what is wrong with the tokens and statements of a file
  abbrev pub tree_diags : FileTree → List Diag
  tree_diags tree = map diag_of tree.faults ++ flat_map (statement_diags text) (all_statements tree.nodes)

  -- all that is wrong, in a file with these statements and declarations
  abbrev pub diags_of : FileTree → List StatedSyntax → List StatedPackage → List ImportFact → List Decl → List Diag
  diags_of tree syntaxes packages_are imports_are decls_are =
      tree_diags tree ++ filter_map (syntax_late (starts tree)) syntaxes ++ file_diags packages_are imports_are decls_are

-- ---- the facts of a file

-- the allocator of the facts: there is but one
abbrev pub allocator : Global
allocator = record { memory = record { seal = tt } }

-- an opaque file says nothing but its one diagnostic
abbrev pub opaque_facts : Diag → FileFacts
opaque_facts d = record { syntax = Opaque; «package» = None; imports = []; decls = []; diags = d ∷ []; alloc = allocator }

-- the facts of a file that is analysed, with these `syntax` statements
abbrev pub analysed_facts : List StatedSyntax → List ℕ → FileTree → FileFacts
analysed_facts syntaxes text tree = record {
  syntax = Proto3;
  «package» = first_package (packages text tree.nodes);
  imports = imports text tree.nodes;
  decls = decls text tree.nodes;
  diags = in_order (diags_of text tree syntaxes (packages text tree.nodes) (imports text tree.nodes) (decls text tree.nodes));
  alloc = allocator;
}

abbrev pub facts_at : Option Diag → List StatedSyntax → List ℕ → FileTree → FileFacts
facts_at None syntaxes text tree = analysed_facts syntaxes text tree
facts_at (Some d) syntaxes text tree = opaque_facts d

-- the facts of a text and a tree
abbrev pub facts_in : List ℕ → FileTree → FileFacts
facts_in text tree = facts_at (opaque text (stated text tree.nodes)) (stated text tree.nodes) text tree

-- the facts of a text: those of its tree
abbrev pub facts_of : List ℕ → FileFacts
facts_of text = facts_in text (value_tree text)

-- ---- the facts of a text that isn't proto3, where its declarations are read

-- the facts of a text with this tree and these diagnostics
abbrev pub other_facts_in : List ℕ → FileTree → List Diag → FileFacts
other_facts_in text tree diags = record (analysed_facts [] text tree) { syntax = Other; diags = diags }

-- its package, imports and declarations are those of its own tree, and its one diagnostic stays
abbrev pub other_facts : List ℕ → FileFacts
other_facts text = let own = facts_of text in other_facts_in text (other_tree text) own.diags

-- a text is of another language: it isn't too long, and its first `syntax` doesn't say proto3
abbrev pub is_other : List ℕ → Bool
is_other text = let tree = value_tree text in not (is_too_long text) && is_some (not_proto3 (stated text tree.nodes))

-- the facts of a text; `reads_others` says whether one of another language is read for what it declares
abbrev pub facts_by : Bool → List ℕ → FileFacts
facts_by reads_others text = if reads_others && is_other text then other_facts text else facts_of text

-- ---- the same as a relation

-- an opaque file: its one diagnostic, and nothing else
pub record IsOpaque (d : Diag) (f : FileFacts) : Type 0 where
  pub syntax_is : f.syntax ≡ Opaque
  pub package_is : f.«package» ≡ None
  pub imports_are : f.imports ≡ []
  pub decls_are : f.decls ≡ []
  pub diags_are : f.diags ≡ d ∷ []

-- a file that is analysed: its first package, its imports and declarations, and what is wrong, each once and in order
pub record IsAnalysedWith (syntaxes : List StatedSyntax) (text : List ℕ) (tree : FileTree) (f : FileFacts) : Type 0 where
  pub syntax_is : f.syntax ≡ Proto3
  pub package_is : f.«package» ≡ first_package (packages text tree.nodes)
  pub imports_are : f.imports ≡ imports text tree.nodes
  pub decls_are : f.decls ≡ decls text tree.nodes
  pub diags_are : IsListOf (diags_of text tree syntaxes (packages text tree.nodes) (imports text tree.nodes) (decls text tree.nodes)) f.diags

abbrev pub AreFactsAt : Option Diag → List StatedSyntax → List ℕ → FileTree → FileFacts → Type 0
AreFactsAt None syntaxes text tree f = IsAnalysedWith syntaxes text tree f
AreFactsAt (Some d) syntaxes text tree f = IsOpaque d f

-- these are the facts of a text and a tree
abbrev pub AreFacts : List ℕ → FileTree → FileFacts → Type 0
AreFacts text tree f = AreFactsAt (opaque text (stated text tree.nodes)) (stated text tree.nodes) text tree f
