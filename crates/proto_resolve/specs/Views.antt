-- What a view holds.
use Rattle.std.specs.Prelude.{◌<◌, length, List, All}
use Rattle.proto_decls.specs.declared.named_facts.NamedFacts.{NamedFacts}
use Rattle.proto_resolve.specs.declared.view.View.{View}

-- the view's files are there
abbrev pub IsView : List NamedFacts → View → Type 0
IsView files v = All (λ g. g < length files) v.files
