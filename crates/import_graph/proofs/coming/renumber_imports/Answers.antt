use Rattle.std.proofs.Common.{ap, sym, ◌<◌, ◌≤◌, List, length, get_or, arith}
use Rattle.import_graph.specs.declared.imports.FileImports.{FileImports}
use Rattle.import_graph.specs.Coming.{file_after}
use Rattle.import_graph.specs.Imports.{targets}
use Rattle.import_graph.specs.Walks.{AllWithin}
use Rattle.import_graph.proofs.Unmoved.{files_stay}
use Rattle.import_graph.proofs.Walked.{one_more_mapped, still_long, still_there}
use Rattle.import_graph.proofs.coming.renumber_imports.Goals as goal

pub returns-then-at-len : goal.returns-then-at-len
returns-then-at-len c =
    let old : List FileImports = c.args.graph.now.items in
    let behind : length old ≤ c.args.at = omega (arith, c.if-at-len.true, c.len.ensures, c.args.graph.now.ok.0) in
    sym (files_stay c.args.at (length old) behind old c.requires)

pub renumber_edges-requires : goal.renumber_edges-requires
renumber_edges-requires c =
    let old : List FileImports = c.args.graph.now.items in
    let nothing : FileImports = c.file-item.result in
    let i = c.loop-file.file-index in
    let long : i < length c.loop-file.file-items = omega (arith, c.loop-file-test.true, c.loop-file.auto.file-items) in
    let there : AllWithin (length old) (targets (get_or old i nothing)) = c.requires i nothing (still_long old c.loop-file.file-items i c.loop-file.invariant.1 nothing long) in
    rw (still_there old c.loop-file.file-items i c.loop-file.invariant.1 nothing long)
    (λ k d lt. let less = there k d lt in omega (arith, less, c.args.graph.now.ok.0, c.args.graph.now.ok.1, c.args.graph.now.small))

pub loop-file-preserved : goal.loop-file-preserved
loop-file-preserved c =
    let old : List FileImports = c.args.graph.now.items in
    let nothing : FileImports = c.file-item.result in
    let long : c.loop-file.file-index < length c.loop-file.file-items = omega (arith, c.loop-file-test.true, c.loop-file.auto.file-items) in
    one_more_mapped old c.loop-file.file-items c.loop-file.file-index c.loop-file.invariant.1 nothing long (file_after c.args.at) _ c.loop-file.invariant.0
    (ap (λ (es : List _). record { edges = es; is_opaque = (get_or c.loop-file.file-items c.loop-file.file-index nothing).is_opaque }) c.renumber_edges.ensures)
