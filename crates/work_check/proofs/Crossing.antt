-- What threads read side by side: the files of a check, with what is asked for.
use denote.Param.Send.{IsSync, sendable, struct_sync}
use denote.Struct.Declared.{shape}
use Rattle.std.proofs.Crossing.{crosses}
use Rattle.work_space.proofs.Crossing.{diagnosed_sync}
use Rattle.work_check.specs.contracts.listed.Listed as Listed
use Rattle.work_check.proofs.wanted.Listing.TheSendSync as Wanted

listed_field_sync : IsSync (Listed.the_field).row
listed_field_sync = struct_sync (shape Listed.the_type) (Wanted.the_field_sync, (diagnosed_sync, (search (sendable, crosses) depth 40, tt)))

pub listed_sync : IsSync Listed.the_row
listed_sync = search (sendable, listed_field_sync) depth 20
