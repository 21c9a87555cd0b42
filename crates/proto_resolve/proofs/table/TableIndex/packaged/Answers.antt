use Rattle.proto_decls.specs.Text.{joined}
use Rattle.proto_names.proofs.Packaged.{those_with}
use Rattle.proto_resolve.proofs.table.TableIndex.packaged.Goals as goal

pub of_package-requires-clause-by_package : goal.of_package-requires-clause-by_package
of_package-requires-clause-by_package c = rw c.as_slice.ensures.value c.self.invariant.0.packaged.ordered

pub of_package-requires-clause-longest : goal.of_package-requires-clause-longest
of_package-requires-clause-longest c = rw c.as_slice.ensures.value c.self.invariant.0.longest

pub returns : goal.returns
returns c =
    rw (← c.self.view_is)
    (those_with (joined c.args.full_name.scope.now c.args.full_name.last.now) c.self.inside.names c.self.inside.base.packaged.items c.of_package.result.now c.self.invariant.0.packaged
    (rw c.as_slice.ensures.value at c.of_package.ensures))
