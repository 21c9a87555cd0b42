-- What the work on a text makes of it.
use Rattle.std.specs.Prelude.{◌≡◌, ℕ, Bool, true, false, List, Option, Some, None, unwrap_or}
use Rattle.proto_decls.specs.Facts.{is_other}
use Rattle.proto_tree.specs.Read.{value_tree}
use Rattle.work_links.specs.Asked.{has_all}
use Rattle.work_index.specs.declared.file_work.FileOut.{FileOut}
use Rattle.work_index.specs.declared.file_work.KnownText.{KnownText}
use Rattle.work_index.specs.Workspace.{Source, asked_of, source_facts}

-- what a text says, and at least all names for which its file asks
pub record IsKnownOf (s : Source) (known : KnownText) : Type 0 where
  pub facts_are : known.facts ≡ source_facts s
  pub has : has_all known.asked.value (asked_of s) ≡ true

-- what is known of a text that is read though it isn't proto3; of a proto3 text, or one that is too long, there is nothing
abbrev pub IsOfOther : List ℕ → Option KnownText → Type 0
IsOfOther text None = is_other text ≡ false
IsOfOther text (Some known) = IsKnownOf (record { text = text; reads_others = true }) known

-- what of a product counts, given whether such texts are read
abbrev pub known_by : Bool → FileOut → KnownText
known_by false out = out.own
known_by true out = unwrap_or out.other out.own

-- its tree, and what is known of it in both cases
pub record IsProductOf (out : FileOut) (text : List ℕ) : Type 0 where
  pub tree_is : out.tree ≡ value_tree text
  pub known : (reads_others : Bool) → IsKnownOf (record { text = text; reads_others = reads_others }) (known_by reads_others out)
