-- The declarations of a text have scopes, and the kinds of their statements.
use Rattle.std.proofs.Common.{◌≡◌, ℕ, List, [], Option, Some, None, sym, ap, subst, ◌∙◌, zero-add, append-nil}
use Rattle.std.specs.Prelude.{Contains}
use Rattle.std.specs.List.{slice_get}
use Rattle.std.proofs.lemmas.List.Elements.{All-contains}
use Rattle.proto_tree.specs.declared.node.FileTree.{FileTree}
use Rattle.proto_tree.specs.declared.node.Node.{Node}
use Rattle.proto_tree.specs.Read.{value_tree}
use Rattle.proto_decls.specs.Decls.{decls_in}
use Rattle.proto_decls.specs.Facts.{facts_at, facts_of, first_package, opaque, package_name, packages, stated}
use Rattle.proto_decls.specs.Text.{joined, text_at}
use Rattle.proto_decls.specs.declared.diagnostic.Diag.{Diag}
use Rattle.proto_decls.specs.declared.fact.Decl.{Decl}
use Rattle.proto_decls.specs.declared.fact.DeclKind.TheVariants as kind
use Rattle.proto_decls.specs.declared.stated.StatedSyntax.{StatedSyntax}
use Rattle.proto_laws.specs.Scopes.{DeclaresAs, HasScope, NamesHaveScopes, of_file}
use Rattle.proto_laws.proofs.DeclKinds.{decls-stated, stated-declared}
use Rattle.proto_laws.proofs.Holders.{none_in}
use Rattle.proto_laws.proofs.Scopes.{IsScoped, decls_in-scoped, one_scope, scoped-at}

module _ (text : List ℕ) (nodes : List Node) (package_is : List ℕ) where
  abbrev all : List Decl
  all = decls_in text nodes kind.Field package_is None 0

  pub is_scoped : (i : ℕ) (d : Decl) → slice_get all i ≡ Some d → IsScoped text package_is all i d
  is_scoped i d at =
      subst (λ n. IsScoped text package_is all n d) (zero-add i)
      (scoped-at text package_is all 0 all i d (decls_in-scoped text package_is all nodes kind.Field package_is None 0 ([], sym (append-nil all)) (λ i d at top. of_file at top)) at)

  pub full_name-is : (i : ℕ) (d : Decl) (s : List ℕ) → slice_get all i ≡ Some d → HasScope package_is all i s → d.full_name ≡ joined s (text_at text d.name_span)
  full_name-is i d s at has =
      let own = is_scoped i d at in
      own.2 ∙ ap (λ scope. joined scope (text_at text d.name_span)) (one_scope text package_is all i own.0 s own.1 has)

  pub kind-is : (d : Decl) → Contains all d → DeclaresAs kind.Field nodes d.kind d.name_span
  kind-is d c = All-contains (λ d. DeclaresAs kind.Field nodes d.kind d.name_span) all d (decls-stated text nodes kind.Field package_is None 0) c

facts-scoped : (o : Option Diag) (syntaxes : List StatedSyntax) (text : List ℕ) (tree : FileTree) → NamesHaveScopes text tree.nodes (facts_at o syntaxes text tree)
facts-scoped None syntaxes text tree =
    let place = package_name (first_package (packages text tree.nodes)) in record {
      scope = λ i d at. let own = is_scoped text tree.nodes place i d at in (own.0, own.1);
      only = one_scope text place (decls_in text tree.nodes kind.Field place None 0);
      full_name = full_name-is text tree.nodes place;
      kind_is = kind-is text tree.nodes place;
      declared = λ k name is stated. stated-declared stated text place None 0;
    }
facts-scoped (Some d) syntaxes text tree = record {
  scope = λ i d at. absurd (cc (at));
  only = one_scope text [] [];
  full_name = λ i d s at has. absurd (cc (at));
  kind_is = λ d c. absurd (none_in d c);
  declared = λ k name is stated. absurd (cc (is));
}

pub names-have_scopes : (text : List ℕ) → (let tree = value_tree text in NamesHaveScopes text tree.nodes (facts_of text))
names-have_scopes text = let tree = value_tree text in facts-scoped (opaque text (stated text tree.nodes)) (stated text tree.nodes) text tree
