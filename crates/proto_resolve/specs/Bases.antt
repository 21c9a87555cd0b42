-- What a table knows of its files beside their declarations by name.
use Rattle.std.specs.Prelude.{◌≡◌, ℕ, Bool, true, List}
use Rattle.proto_decls.specs.declared.named_facts.NamedFacts.{NamedFacts}
use Rattle.import_graph.specs.Arrivals.{NobodyImports}
use Rattle.import_graph.specs.Imports.{graph_of}
use Rattle.import_graph.specs.Paths.{IsInPathOrder}
use Rattle.proto_resolve.specs.declared.table_base.TableBase.{TableBase}
use Rattle.proto_names.specs.Files.{facts_at}
use Rattle.proto_resolve.specs.Outlines.{import_outline}
use Rattle.proto_names.specs.Outlines.{package_name}
use Rattle.proto_names.specs.Packages.{AreNoLonger, ArePackaged}
use Rattle.proto_names.specs.Changes.{HasChanged, HasCome}

-- the graph and the packages are those of the files, which are in the order of their paths; no package has a longer name
pub record IsBaseOf (files : List NamedFacts) (base : TableBase) : Type 0 where
  pub ordered : IsInPathOrder files
  pub graph : base.graph ≡ graph_of files
  pub packaged : ArePackaged files base.packaged.items
  pub longest : AreNoLonger base.longest base.packaged.items

-- the base is that of the files before the one of the number k came to them, which none of them imports
pub record WasBaseOfOthers (files : List NamedFacts) (k : ℕ) (base : TableBase) : Type 0 where
  pub others : List NamedFacts
  pub came : HasCome files k others
  pub was : IsBaseOf others base
  pub nobody : (let file = came.file in NobodyImports others file.path)

-- the base is that of the files before other facts, which say the same of imports, were put in the place of one's, with the same name
-- of its package if `same_package`
pub record WasBaseOf (files : List NamedFacts) (file : ℕ) (same_package : Bool) (base : TableBase) : Type 0 where
  pub old : List NamedFacts
  pub changed : HasChanged files file old
  pub was : IsBaseOf old base
  pub imports : import_outline changed.facts ≡ import_outline (facts_at old file)
  pub «package» : same_package ≡ true → package_name changed.facts ≡ package_name (facts_at old file)
