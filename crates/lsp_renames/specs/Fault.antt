-- The numbers of the faults.
use Rattle.std.specs.Prelude.{ℕ}
use Rattle.lsp_renames.specs.declared.fault.RenameFault.{RenameFault}
use Rattle.lsp_renames.specs.declared.fault.RenameFault.TheVariants.{NoSymbol, NotRenamable, BadName, NameTaken, MeaningChanges, Memory}

abbrev pub code_of : RenameFault → ℕ
code_of NoSymbol = 701
code_of NotRenamable = 702
code_of BadName = 703
code_of NameTaken = 704
code_of MeaningChanges = 705
code_of Memory = 706
