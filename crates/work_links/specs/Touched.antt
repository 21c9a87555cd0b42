-- What a change of a file's declarations touches.
use Rattle.std.specs.Prelude.{◌≡◌, ℕ, ◌-◌, ◌==◌, ◌&&◌, nat_le, nat_lt, List, Bool, false, map, filter, bytes_eq, if◌then◌else◌}
use Rattle.std.specs.List.{enumerate_from, list_any}
use Rattle.proto_decls.specs.declared.fact.DeclKind.{DeclKind}
use Rattle.proto_decls.specs.declared.fact.FileFacts.{FileFacts}
use Rattle.proto_resolve.specs.declared.resolve.Links.{Links}
use Rattle.proto_names.specs.declared.decl_ref.DeclRef.{DeclRef}
use Rattle.proto_names.specs.Outlines.{package_name}
use Rattle.proto_resolve.specs.declared.target.Target.{Target}
use Rattle.proto_resolve.specs.declared.target.Target.TheVariants.{Declared, Package}
use Rattle.proto_resolve.specs.declared.uses.NameUse.{NameUse}
use Rattle.work_links.specs.declared.keys.NameKeys.{NameKeys}
use Rattle.work_links.specs.declared.renumbering.Renumbering.{Renumbering}
use Rattle.work_links.specs.declared.touched.Touched.{Touched}
use Rattle.work_links.specs.Keys.{key, last_key}

-- a file's declarations of a full name: their numbers and kinds
abbrev pub declared_as : FileFacts → List ℕ → List (ℕ × DeclKind)
declared_as facts name = map (λ e. (e.0, let d = e.1 in d.kind)) (filter (λ e. bytes_eq (let d = e.1 in d.full_name) name) (enumerate_from 0 facts.decls))

-- the number after the change: from `from` on, a declaration stands as far before the end of the list as it stood
abbrev pub renumbered : Renumbering → ℕ → ℕ
renumbered by number = if nat_le by.from number && nat_lt number by.before then by.after - (by.before - number) else number

-- the same of a declaration of any file
abbrev pub decl_after : Renumbering → DeclRef → DeclRef
decl_after by r = record { file = r.file; number = if r.file == by.file then renumbered by r.number else r.number }

abbrev pub target_after : (DeclRef → DeclRef) → Target → Target
target_after move (Declared r) = Declared (move r)
target_after move (Package name) = Package name

abbrev pub use_after : (DeclRef → DeclRef) → NameUse → NameUse
use_after move u = record { span = u.span; name = u.name; target = target_after move u.target }

-- the links with other numbers of declarations
abbrev pub links_after : (DeclRef → DeclRef) → Links → Links
links_after move links = record { uses = map (use_after move) links.uses; diags = links.diags }

-- whether these are the keys of a name
abbrev pub are_keys_of : List ℕ → NameKeys → Bool
are_keys_of name keys = (keys.last == last_key name) && (keys.whole == key name)

-- whether a full name may be touched, as far as hashes tell
abbrev pub is_touched : Touched → List ℕ → Bool
is_touched touched name = list_any (are_keys_of name) touched.names.items

-- the file's package has the same name, and at each full name that isn't touched it declares the same, but for the numbers
pub record Tells (file : ℕ) (old new : FileFacts) (touched : Touched) : Type 0 where
  pub file_is : (let by = touched.by in by.file) ≡ file
  pub packages : package_name old ≡ package_name new
  pub declared : (name : List ℕ) → is_touched touched name ≡ false → declared_as new name ≡ map (λ e. (renumbered touched.by e.0, e.1)) (declared_as old name)
