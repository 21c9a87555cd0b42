use Rattle.std.proofs.Common.{arith, [], ◌∷◌}
use Rattle.proto_decls.specs.FullNames.{dot}
use Rattle.proto_names.proofs.Prefixes.{cmp_short, cmp_long}
use Rattle.proto_names.proofs.packages.is_before_dotted.Goals as goal

pub returns-then-text-name : goal.returns-then-text-name
returns-then-text-name c = let short = cmp_short c.args.text.now c.args.name.now (dot ∷ []) (omega (arith, c.if-text-name.true)) in cc (short, c.cmp.ensures, c.is_lt.ensures)

pub returns : goal.returns
returns c =
    let long = cmp_long c.args.text.now c.args.name.now (dot ∷ []) (omega (arith, c.if-text-name.false)) in
    cc (long, c.split_at.ensures.front, c.split_at.ensures.back, c.cmp-2.ensures, c.cmp-3.ensures, c.then.ensures, c.is_lt-2.ensures)
