-- Laws of the analysis of a workspace.
use Rattle.std.specs.Prelude.{◌≡◌, ◌==◌, ℕ, List, [], Some, None, All, filter}
use Rattle.std.specs.List.{enumerate_from}
use Rattle.proto_tree.specs.Read.{value_tree}
use Rattle.import_graph.specs.Closures.{view_of}
use Rattle.import_graph.specs.Imports.{graph_of}
use Rattle.proto_resolve.specs.declared.site.NameSite.{NameSite}
use Rattle.proto_resolve.specs.declared.target.Target.{Target}
use Rattle.proto_resolve.specs.declared.uses.NameUse.{NameUse}
use Rattle.proto_resolve.specs.Laws.{AreUsesOf}
use Rattle.proto_resolve.specs.Names.{meaning, scope_of}
use Rattle.proto_resolve.specs.Resolved.{sites_at}
use Rattle.work_index.specs.Workspace.{SourceAt, Workspace, all_facts, resolution_of}

-- a file, given its number
module _ (w : Workspace) (file : ℕ × SourceAt) where
  -- its names
  abbrev pub names_in : List NameSite
  names_in = let source = file.1.1 in sites_at (all_facts w) file.0 source.text (value_tree source.text)

  -- what it sees
  abbrev pub view_in : List ℕ
  view_in = view_of (graph_of (all_facts w)) file.0

  -- the uses of its i-th name
  abbrev pub uses_in : ℕ → List NameUse
  uses_in i = filter (λ u. u.name == i) (let links = resolution_of w file in links.uses)

  -- The i-th name has no uses where it means nothing. Where it means something, it has a scope, and one use for each of its
  -- components, in order, of what is found at the full name up to it.
  pub record HasItsUses (i : ℕ) (site : NameSite) : Type 0 where
    pub none : meaning (all_facts w) file.0 view_in site ≡ None → uses_in i ≡ []
    pub one_each : (t : Target) → meaning (all_facts w) file.0 view_in site ≡ Some t
        → (s : List ℕ) × (scope_of (all_facts w) file.0 view_in site ≡ Some s) × AreUsesOf (all_facts w) file.0 view_in i s site (uses_in i)

-- so it is with each name of each file
abbrev pub NamesHaveTheirUses : Workspace → Type 0
NamesHaveTheirUses w = All (λ file. All (λ name. HasItsUses w file name.0 name.1) (enumerate_from 0 (names_in w file))) (enumerate_from 0 w)
