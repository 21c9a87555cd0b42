use Rattle.std.proofs.Common.{take, map}
use Rattle.lsp_rpc.specs.Location.{location_value, locations_at}
use Rattle.lsp_rpc.specs.Writing.{Appends, values_tokens}
use Rattle.lsp_rpc.proofs.location.write_ranges.Given as goal

-- those so far are written
abbrev pub invariant-items : goal.invariant-items
invariant-items l = Appends l.initial.out (values_tokens (map location_value (locations_at l.uri (take l.range-index l.ranges)))) l.out
