-- Which failure a fault in reading the folders becomes.
use Rattle.program_folder.specs.declared.fault.FolderFault.{FolderFault}
use Rattle.program_folder.specs.declared.fault.FolderFault.TheVariants as folder
use Rattle.program_start.specs.declared.failure.Failure.{Failure}
use Rattle.program_start.specs.declared.failure.Failure.TheVariants.{Folder, Fault}

-- refused memory is 803, and any other fault is kept
abbrev pub failure_of_folder : FolderFault → Failure
failure_of_folder folder.Memory = Fault 803
failure_of_folder fault = Folder fault
