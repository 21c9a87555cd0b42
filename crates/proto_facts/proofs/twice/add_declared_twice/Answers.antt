use Rattle.std.proofs.Common.{◌++◌, sym, ap, ◌∙◌, subst, append-nil}
use Rattle.proto_decls.specs.Checks.{diag_if}
use Rattle.proto_decls.specs.Facts.{declared_twice}
use Rattle.proto_decls.specs.declared.problem.Problem.TheVariants as m
use Rattle.proto_decls.specs.declared.fact.Decl.{Decl}
use Rattle.proto_facts.specs.Twice.{AreDistinct}
use Rattle.proto_facts.proofs.TwiceLemmas.{none-twice}
use Rattle.proto_facts.proofs.twice.add_declared_twice.Goals as goal

pub returns-then-are_distinct : goal.returns-then-are_distinct
returns-then-are_distinct c =
    let xs = c.args.decls.now in
    let differ = subst AreDistinct c.in_ok-name_hashes.ensures (c.are_distinct.ensures c.if-are_distinct.true) in
    let none = none-twice declared_twice (λ (x : Decl). x.full_name) xs differ (λ before x new. ap (λ b. diag_if b m.DeclaredTwice x.name_span) new) in
    sym (ap (λ ds. c.args.diags.now ++ ds) none ∙ append-nil c.args.diags.now)
