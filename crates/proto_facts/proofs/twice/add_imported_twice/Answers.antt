use Rattle.std.proofs.Common.{◌++◌, sym, ap, ◌∙◌, subst, append-nil}
use Rattle.proto_decls.specs.Checks.{diag_if}
use Rattle.proto_decls.specs.Facts.{imported_twice}
use Rattle.proto_decls.specs.declared.problem.Problem.TheVariants as m
use Rattle.proto_decls.specs.declared.fact.ImportFact.{ImportFact}
use Rattle.proto_facts.specs.Twice.{AreDistinct}
use Rattle.proto_facts.proofs.TwiceLemmas.{none-twice}
use Rattle.proto_facts.proofs.twice.add_imported_twice.Goals as goal

pub returns-then-are_distinct : goal.returns-then-are_distinct
returns-then-are_distinct c =
    let xs = c.args.imports.now in
    let differ = subst AreDistinct c.in_ok-path_hashes.ensures (c.are_distinct.ensures c.if-are_distinct.true) in
    let none = none-twice imported_twice (λ (x : ImportFact). x.path) xs differ (λ before x new. ap (λ b. diag_if b m.ImportedTwice x.span) new) in
    sym (ap (λ ds. c.args.diags.now ++ ds) none ∙ append-nil c.args.diags.now)
