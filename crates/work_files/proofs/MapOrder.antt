-- The paths of the map of the files ascend.
use Rattle.std.proofs.Common.{List, [], ◌∷◌, String, string_bytes}
use Rattle.std.specs.List.{AllByRecursion}
use Rattle.std.specs.List.Sorted.{IsStrictlySortedBy}
use Rattle.std.specs.Map.{keys_of}
use Rattle.std.specs.String.{string_cmp}
use Rattle.std.specs.declared.alloc.Global.{Global}
use Rattle.std.specs.declared.cmp.Ordering.TheVariants.{Less}
use Rattle.std.proofs.Common.{◌≡◌}
use Rattle.work_files.specs.Files.{AreInPathOrder}
use Rattle.work_files.specs.View.{files_view}
use Rattle.work_files.specs.declared.entry.FileEntry.{FileEntry}
use Rattle.work_files.proofs.PathOrder.{AreBehind}

are_behind : (k : String Global) (es : List (String Global × FileEntry)) → AllByRecursion (λ q. string_cmp k q ≡ Less) (keys_of es) → AreBehind (string_bytes k) (keys_of (files_view es))
are_behind k [] all = tt
are_behind k (e ∷ es) all = (all.0, are_behind k es all.1)

pub in_path_order : (es : List (String Global × FileEntry)) → IsStrictlySortedBy string_cmp (keys_of es) → AreInPathOrder (files_view es)
unfolding IsStrictlySortedBy
in_path_order [] sorted = tt
in_path_order (e ∷ es) sorted = (are_behind e.0 es sorted.0, in_path_order es sorted.1)
