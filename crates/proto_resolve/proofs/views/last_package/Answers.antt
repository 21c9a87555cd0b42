use Rattle.std.proofs.Common.{ap, take}
use Rattle.std.specs.List.{list_any}
use Rattle.std.proofs.lemmas.List.{take_all}
use Rattle.proto_decls.specs.Text.{joined}
use Rattle.proto_names.specs.Files.{has_package}
use Rattle.proto_names.proofs.PackageFronts.{past_same}
use Rattle.proto_resolve.proofs.views.last_package.Goals as goal

pub returns : goal.returns
returns g c =
    let same = c.as_slice-file-items.ensures in
    past_same (λ n. list_any (has_package (g.I.Index.files c.args.index.now) (joined (take n c.args.scope.now) c.args.name.now)) (take c.loop-file.file-index c.args.view.now.files))
    (λ n. list_any (has_package (g.I.Index.files c.args.index.now) (joined (take n c.args.scope.now) c.args.name.now)) c.args.view.now.files)
    (λ n. ap (list_any (has_package (g.I.Index.files c.args.index.now) (joined (take n c.args.scope.now) c.args.name.now))) (take_all c.loop-file.file-index c.args.view.now.files (rw same at c.loop-file-test.false)))
    c.args.lengths.now c.loop-file.place c.loop-file.invariant
