-- What is wrong in a file by what it sees, each for its reason, and the law that the list has just that.
use Rattle.std.specs.Prelude.{◌≡◌, ◌↔◌, ℕ, List, Option, Some, None, false, Contains}
use Rattle.std.specs.List.{enumerate_from}
use Rattle.proto_decls.specs.declared.diagnostic.Diag.{Diag}
use Rattle.proto_decls.specs.declared.fact.Decl.{Decl}
use Rattle.proto_decls.specs.declared.fact.ImportFact.{ImportFact}
use Rattle.proto_decls.specs.declared.problem.Problem.TheVariants as m
use Rattle.proto_decls.specs.Diags.{diag}
use Rattle.proto_decls.specs.declared.named_facts.NamedFacts.{NamedFacts}
use Rattle.import_graph.specs.Imports.{graph_of, target_at}
use Rattle.import_graph.specs.Views.{Sees, IsClosed, ClosesCycle}
use Rattle.import_graph.specs.Closures.{view_of}
use Rattle.proto_resolve.specs.declared.site.NameSite.{NameSite}
use Rattle.proto_names.specs.declared.decl_ref.DeclRef.{DeclRef}
use Rattle.proto_resolve.specs.declared.target.Target.{Target}
use Rattle.proto_names.specs.Files.{decls_at, imports_at}
use Rattle.proto_resolve.specs.Finding.{IsSeenAs, HasPackage}
use Rattle.proto_resolve.specs.Names.{meaning, has_kind, is_type}
use Rattle.proto_resolve.specs.ViewDiagnostics.{view_diagnostics}

-- what a name of the file f means
abbrev pub means : List NamedFacts → ℕ → NameSite → Option Target
means files f n = meaning files f (view_of (graph_of files) f) n

-- the imports of the file f, each with its number
abbrev pub numbered_imports : List NamedFacts → ℕ → List (ℕ × ImportFact)
numbered_imports files f = enumerate_from 0 (imports_at files f)

-- The diagnostics of the file f with these names. In a closed view: 401, a name that means nothing, and 402, a name that means
-- another kind of thing than is needed there. 403: an import that names no file. 404: an import from whose file imports lead
-- back to f. 405: a declaration whose full name another file that f sees declares. 406: a declaration whose full name is a
-- package of a file that f sees.
pub data IsViewDiagnostic (files : List NamedFacts) (f : ℕ) (sites : List NameSite) (x : Diag) : Type 0 where
  unresolved : IsClosed (graph_of files) f → (n : NameSite) → Contains sites n → means files f n ≡ None → x ≡ diag m.Unresolved n.span → IsViewDiagnostic files f sites x
  wrong_kind : IsClosed (graph_of files) f → (n : NameSite) → Contains sites n → (t : Target) → means files f n ≡ Some t → has_kind files (is_type n.needs) (Some t) ≡ false → x ≡ diag m.WrongKind n.span → IsViewDiagnostic files f sites x
  import_not_found : (k : ℕ) (i : ImportFact) → Contains (numbered_imports files f) (k, i) → target_at (graph_of files) f k ≡ None → x ≡ diag m.ImportNotFound i.span → IsViewDiagnostic files f sites x
  import_cycle : (k : ℕ) (i : ImportFact) → Contains (numbered_imports files f) (k, i) → ClosesCycle (graph_of files) f (target_at (graph_of files) f k) → x ≡ diag m.ImportCycle i.span → IsViewDiagnostic files f sites x
  declared_elsewhere : (d : Decl) → Contains (decls_at files f) d → (r : DeclRef) → IsSeenAs files f d.full_name r → ¬ (r.file ≡ f) → x ≡ diag m.DeclaredElsewhere d.name_span → IsViewDiagnostic files f sites x
  name_is_package : (d : Decl) → Contains (decls_at files f) d → (g : ℕ) → Sees (graph_of files) f g → HasPackage files d.full_name g → x ≡ diag m.NameIsPackage d.name_span → IsViewDiagnostic files f sites x

-- the list has these diagnostics and no other
abbrev pub DiagnosticLaw : List NamedFacts → Type 0
DiagnosticLaw files = (f : ℕ) (sites : List NameSite) (x : Diag) → Contains (view_diagnostics files f sites) x ↔ IsViewDiagnostic files f sites x
