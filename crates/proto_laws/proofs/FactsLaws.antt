-- The facts of a text and a tree, as a relation and as a value.
use Rattle.std.proofs.Common.{◌≡◌, ℕ, List, Option, Some, None, refl}
use Rattle.proto_tree.specs.declared.node.FileTree.{FileTree}
use Rattle.proto_decls.specs.declared.diagnostic.Diag.{Diag}
use Rattle.proto_decls.specs.declared.fact.FileFacts.{FileFacts}
use Rattle.proto_decls.specs.declared.stated.StatedSyntax.{StatedSyntax}
use Rattle.proto_decls.specs.Facts.{AreFactsAt, facts_at, diags_of, packages, imports, decls, allocator}
use Rattle.proto_decls.proofs.DiagOrder.{in_order-is_list, only_list}

pub facts-are : (o : Option Diag) (syntaxes : List StatedSyntax) (text : List ℕ) (tree : FileTree) → AreFactsAt o syntaxes text tree (facts_at o syntaxes text tree)
facts-are None syntaxes text tree = record {
  syntax_is = refl;
  package_is = refl;
  imports_are = refl;
  decls_are = refl;
  diags_are = in_order-is_list (diags_of text tree syntaxes (packages text tree.nodes) (imports text tree.nodes) (decls text tree.nodes));
}
facts-are (Some d) syntaxes text tree = record { syntax_is = refl; package_is = refl; imports_are = refl; decls_are = refl; diags_are = refl }

pub only_facts : (o : Option Diag) (syntaxes : List StatedSyntax) (text : List ℕ) (tree : FileTree) (f : FileFacts) → AreFactsAt o syntaxes text tree f → f ≡ facts_at o syntaxes text tree
only_facts None syntaxes text tree f are =
    let diags = only_list (diags_of text tree syntaxes (packages text tree.nodes) (imports text tree.nodes) (decls text tree.nodes)) f.diags are.diags_are in
    λ i. record { syntax = are.syntax_is i; «package» = are.package_is i; imports = are.imports_are i; decls = are.decls_are i; diags = diags i; alloc = allocator }
only_facts (Some d) syntaxes text tree f are =
    λ i. record { syntax = are.syntax_is i; «package» = are.package_is i; imports = are.imports_are i; decls = are.decls_are i; diags = are.diags_are i; alloc = allocator }
