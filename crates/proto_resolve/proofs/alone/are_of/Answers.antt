use Rattle.std.proofs.Common.{◌≡◌, ℕ, ◌≤◌, ◌-◌, get_or, length, arith}
use Rattle.std.proofs.lemmas.Bool.Decides.{nat_tests}
use Rattle.std.proofs.lemmas.List.{get_or_default}
use Rattle.proto_names.specs.declared.decl_ref.DeclRef.{DeclRef}
use Rattle.proto_resolve.proofs.alone.are_of.Goals as goal

-- what lies between two files that are the same one
between : (a k b f : ℕ) → a ≤ k → k ≤ b → a ≡ f → b ≡ f → k ≡ f
between a k b f up down first last = omega (arith, up, down, first, last)

pub returns-then-decls-file : goal.returns-then-decls-file
returns-then-decls-file c last k d lt =
    let none : DeclRef = record { file = 0; number = 0 } in
    let sorted = c.requires in
    let end : (get_or c.args.decls.now (length c.args.decls.now - 1) none).file ≡ c.args.file = grind (arith, last, nat_tests) in
    let start : (get_or c.args.decls.now 0 none).file ≡ c.args.file = grind (arith, c.if-decls-file.true, nat_tests) in
    rw (get_or_default c.args.decls.now k d none lt)
    (between (get_or c.args.decls.now 0 none).file (get_or c.args.decls.now k none).file (get_or c.args.decls.now (length c.args.decls.now - 1) none).file c.args.file
    (sorted 0 k none (omega arith) lt) (sorted k (length c.args.decls.now - 1) none (omega (arith, lt)) (omega (arith, lt))) start end)
