use Rattle.std.proofs.Common.{arith}
use Rattle.std.proofs.lemmas.List.{take_more}
use Rattle.proto_names.specs.declared.hashed.HashedDecl.{HashedDecl}
use Rattle.proto_names.proofs.Dealing.{both_dealt}
use Rattle.proto_names.proofs.buckets.deal.Goals as goal

pub loop-entry-preserved : goal.loop-entry-preserved
loop-entry-preserved c =
    let nothing : HashedDecl = record { hash = 0; decl = record { file = 0; number = 0 } } in
    rw (take_more c.args.entries.now c.loop-entry.entry-index nothing (omega arith))
    (both_dealt _ _ _ _ _ c.loop-entry.invariant c.in_ok-deal_one.ensures)
