use Rattle.std.proofs.Common.{◌≡◌, ◌∙◌, ◌==◌, ap, ℕ, List, filter, bytes_eq}
use Rattle.std.proofs.lemmas.List.{length-map}
use Rattle.proto_decls.specs.FullNames.{hash_of}
use Rattle.proto_decls.specs.Text.{joined}
use Rattle.proto_names.specs.declared.decl_ref.DeclRef.{DeclRef}
use Rattle.proto_names.proofs.Hashes.{names_rise, numbers_rise, of_number_and_name}
use Rattle.proto_names.proofs.hashed.with_text.Goals as goal

pub of_hash-tied-requires-clause-ascending : goal.of_hash-tied-requires-clause-ascending
of_hash-tied-requires-clause-ascending g c = rw c.requires.by_hash.hashed (numbers_rise (g.N.Naming.part c.args.files.now) c.args.hashed.now.decls.items c.requires.by_hash.ordered)

pub of_hash-tied-requires-clause-len : goal.of_hash-tied-requires-clause-len
of_hash-tied-requires-clause-len g c = rw c.requires.by_hash.hashed (length-map c.args.hashed.now.decls.items (λ r. hash_of (g.N.Naming.part c.args.files.now r)))

pub of_text-requires-clause-sorted : goal.of_text-requires-clause-sorted
of_text-requires-clause-sorted g c =
    let number : DeclRef → ℕ = λ r. hash_of (g.N.Naming.part c.args.files.now r) in
    let are : c.of_hash-tied.result.now ≡ filter (λ r. number r == c.args.hash) c.args.hashed.now.decls.items = c.of_hash-tied.ensures number c.requires.by_hash.hashed in
    rw are (names_rise (g.N.Naming.part c.args.files.now) c.args.hashed.now.decls.items c.requires.by_hash.ordered c.args.hash)

pub returns : goal.returns
returns g c =
    let name : DeclRef → List ℕ = g.N.Naming.part c.args.files.now in
    let number : DeclRef → ℕ = λ r. hash_of (g.N.Naming.part c.args.files.now r) in
    let text : List ℕ = joined c.args.text.scope.now c.args.text.last.now in
    let are : c.of_hash-tied.result.now ≡ filter (λ r. number r == c.args.hash) c.args.hashed.now.decls.items = c.of_hash-tied.ensures number c.requires.by_hash.hashed in
    c.of_text.ensures ∙ ap (filter (λ r. bytes_eq (g.N.Naming.part c.args.files.now r) text)) (rw c.requires.hash at are)
    ∙ of_number_and_name (g.N.Naming.part c.args.files.now) c.args.hashed.now.decls.items c.requires.by_hash.ordered text
