use Rattle.std.proofs.Common.{arith}
use Rattle.std.proofs.lemmas.Grind.{common_steps, flat_map-append}
use Rattle.std.proofs.lemmas.List.Elements.{filter_map-append}
use Rattle.proto_facts.proofs.checks.add_bounds_of.Goals as goal

pub each-preserved : goal.each-preserved
each-preserved c = grind (arith, common_steps, filter_map-append, flat_map-append)
