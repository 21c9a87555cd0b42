-- What was known of files before one of them got other facts, or came to them.
use Rattle.std.specs.Prelude.{◌≡◌, ℕ, ◌<◌, ◌≤◌, List, length}
use Rattle.std.specs.List.{insert}
use Rattle.proto_decls.specs.declared.fact.FileFacts.{FileFacts}
use Rattle.proto_decls.specs.declared.named_facts.NamedFacts.{NamedFacts}
use Rattle.proto_names.specs.declared.packages.PackagedFile.{PackagedFile}
use Rattle.proto_names.specs.declared.decl_ref.DeclRef.{DeclRef}
use Rattle.proto_names.specs.Files.{all_decls}
use Rattle.proto_names.specs.Outlines.{with_facts}
use Rattle.proto_names.specs.Packages.{ArePackaged}

-- other facts were put in the place of one file's among the old files
pub record HasChanged (files : List NamedFacts) (file : ℕ) (old : List NamedFacts) : Type 0 where
  pub facts : FileFacts
  pub within : file < length old
  pub files_are : files ≡ with_facts old file facts

-- these are all declarations of the files before other facts were put in the place of one's
pub record HadDecls (files : List NamedFacts) (file : ℕ) (decls : List DeclRef) : Type 0 where
  pub old : List NamedFacts
  pub changed : HasChanged files file old
  pub were : decls ≡ all_decls old

-- the file of the number k came to others
pub record HasCome (files : List NamedFacts) (k : ℕ) (others : List NamedFacts) : Type 0 where
  pub file : NamedFacts
  pub within : k ≤ length others
  pub files_are : files ≡ insert others k file

-- these are all declarations of the files before the one of the number k came to them
pub record HadOtherDecls (files : List NamedFacts) (k : ℕ) (decls : List DeclRef) : Type 0 where
  pub others : List NamedFacts
  pub came : HasCome files k others
  pub were : decls ≡ all_decls others

-- these are the files that have packages before the one of the number k came to them
pub record HadOtherPackages (files : List NamedFacts) (k : ℕ) (list : List PackagedFile) : Type 0 where
  pub others : List NamedFacts
  pub came : HasCome files k others
  pub were : ArePackaged others list
