-- What a session is started with: its roots, the files that it found on disk, and whether texts that aren't proto3 are read for what they declare.
use Rattle.std.specs.Prelude.{ℕ, nat_lt, List, Bool, not, ◌&&◌, ◌==◌, if◌then◌else◌, Option, Some, option_map, length, filter}
use Rattle.std.specs.List.{flat_map, position, range_with_len}
use Rattle.workspace_uri.specs.Path.{is_workspace_path}
use Rattle.workspace_uri.specs.Uri.{are_roots}
use Rattle.work_files.specs.Disk.{FileData}
use Rattle.work_files.specs.Files.{Files, from_disk}
use Rattle.work_config.specs.declared.fault.ServeFault.{ServeFault}
use Rattle.work_config.specs.declared.fault.ServeFault.TheVariants.{BadRoot, BadPath}

pub record Configuration : Type 0 where
  pub roots : List (List ℕ)
  pub files : List FileData
  pub reads_others : Bool

-- the files of the first root in their order, then those of the next
abbrev pub in_root_order : Configuration → List FileData
in_root_order config = flat_map (λ number. filter (λ f. f.root == number) config.files) (range_with_len 0 (length config.roots))

-- the files that a session starts with, and that a check looks at
abbrev pub files_of : Configuration → Files
files_of config = from_disk (in_root_order config)

-- ---- configurations that can't be used

-- its root is one of so many, and its path is one of a workspace
abbrev pub is_good_file : ℕ → FileData → Bool
is_good_file roots f = nat_lt f.root roots && is_workspace_path f.path

-- bad roots come before bad paths, and of these the first counts
abbrev pub refusal : Configuration → Option ServeFault
refusal config =
    if are_roots config.roots
    then option_map BadPath (position (λ f. not (is_good_file (length config.roots) f)) config.files)
    else Some BadRoot
