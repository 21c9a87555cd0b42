use Rattle.std.proofs.Common.{◌≤◌, length, take, ap, subst, arith}
use Rattle.std.proofs.lemmas.List.{take_more}
use Rattle.proto_names.proofs.Packaged.{one_longer}
use Rattle.proto_names.proofs.packages.longest_of.Goals as goal

pub loop-file-preserved : goal.loop-file-preserved
loop-file-preserved c =
    let here : length c.file-item.result.name ≤ c.max-longest.result = omega (arith, c.max-longest.ensures, ap length c.as_str.ensures) in
    rw (take_more c.args.files.now c.loop-file.file-index c.file-item.result c.loop-file-test.true)
    (one_longer c.loop-file.longest c.max-longest.result (take c.loop-file.file-index c.args.files.now) _ c.loop-file.invariant (omega (arith, c.max-longest.ensures))
    (subst (λ p. length p.name ≤ c.max-longest.result) c.file-item.is here))
