use Rattle.std.proofs.Common.{sym, arith}
use Rattle.proto_resolve.proofs.Firsts.{at_place, past_all, not_there}
use Rattle.proto_resolve.proofs.finding.first_of.Goals as goal
use Rattle.proto_resolve.proofs.finding.first_of.Goals.{then-place-decls-via-then-place-decls, then-place-decls-via-else-place-decls+then-decls-place}

pub returns-then-place-decls : goal.returns-then-place-decls
returns-then-place-decls c =
    let point = c.start_of-place.ensures.point in
    elim c.then-place-decls.branch [
      | then-place-decls-via-then-place-decls w ↦ sym (past_all c.args.decls.now c.requires c.args.file c.start_of-place.result point (omega (arith, w.if-place-decls.true)))
      | then-place-decls-via-else-place-decls+then-decls-place w ↦
          sym (not_there c.args.decls.now c.requires c.args.file c.start_of-place.result point (record { file = 0; number = 0 }) (omega (arith, w.if-place-decls.false)) w.if-decls-place.true)
    ]

pub returns : goal.returns
returns c =
    let point = c.start_of-place.ensures.point in
    sym (at_place c.args.decls.now c.requires c.args.file c.start_of-place.result point (record { file = 0; number = 0 }) (omega (arith, c.if-place-decls.false)) c.if-decls-place.false)
