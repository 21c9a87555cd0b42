use Rattle.std.proofs.Common.{arith, sym, ◌∙◌, ◌+◌}
use Rattle.proto_names.proofs.PackageFronts.{ends_there, no_dot_there, other_there, to_end}
use Rattle.proto_names.proofs.packages.goes_on.Goals as goal
use Rattle.proto_names.proofs.packages.goes_on.Goals.{then-at-package-via-then-at-package, then-at-package-via-else-at-package+then-package-at-ne46}

pub returns-then-at-package : goal.returns-then-at-package
returns-then-at-package c = λ fails scope long. elim c.then-at-package.branch [
  | then-at-package-via-then-at-package w ↦ ends_there c.args.«package».now scope c.args.component.now c.args.at long (omega (arith, c.if-at-eq0.false)) w.if-at-package.true
  | then-at-package-via-else-at-package+then-package-at-ne46 w ↦ no_dot_there c.args.«package».now scope c.args.component.now c.args.at long (omega (arith, c.if-at-eq0.false)) w.if-at-package.false w.if-package-at-ne46.true
]

pub returns : goal.returns
returns c = λ fails scope long.
    other_there c.args.«package».now scope c.args.component.now c.args.at long (omega (arith, c.if-at-eq0.false)) c.if-at-package.false (rw (to_end (c.args.at + 1) c.args.«package».now) at (sym c.begins_with-2.ensures ∙ fails))
