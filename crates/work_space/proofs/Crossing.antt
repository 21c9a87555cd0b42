-- What threads read side by side: the files of a workspace, with what is wrong in them.
use denote.Param.Send.{IsSync, struct_sync, recorded_sync, view_sync}
use denote.Struct.Declared.{shape}
use Rattle.work_shares.proofs.Crossing.{diagnosis_sync}
use Rattle.work_space.specs.contracts.diagnosed.DiagnosedFiles as DiagnosedFiles
use Rattle.work_space.specs.contracts.diagnosed.DiagnosedFiles.TheInside as inside

pub diagnosed_sync : IsSync DiagnosedFiles.the_row
diagnosed_sync = view_sync inside.the_row _ _ _ _
    (recorded_sync (inside.the_field).row _ _ (inside.the_type).to_one
    (struct_sync (shape inside.the_type) (diagnosis_sync, tt)))
