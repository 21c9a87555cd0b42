use Rattle.std.proofs.Common.{◌∙◌, ap, List, ℕ, filter, bytes_eq}
use Rattle.std.proofs.Math.Nat.{mod-lt}
use Rattle.proto_decls.specs.FullNames.{hash_of}
use Rattle.proto_decls.specs.Text.{joined}
use Rattle.proto_names.specs.declared.hashed.HashedDecls.{HashedDecls}
use Rattle.proto_names.specs.Files.{name_at}
use Rattle.proto_names.proofs.InBuckets.{bucket_by_hash, bucket_named}
use Rattle.proto_names.proofs.name_table.NameTable.decls_of_parts.Goals as goal

pub of_hash-bucket-requires : goal.of_hash-bucket-requires
of_hash-bucket-requires c = let are = c.self.invariant.names_are in are.some

pub with_text-requires-clause-by_hash : goal.with_text-requires-clause-by_hash
with_text-requires-clause-by_hash c =
    let are = c.self.invariant.names_are in
    let bucket : HashedDecls = c.of_hash-bucket.result.now in
    let text : List ℕ = joined c.args.name.scope.now c.args.name.last.now in
    rw (c.as_slice.ensures.value, c.of_hash-bucket.ensures bucket, c.requires.hash)
    (bucket_by_hash c.self.inside.files.items c.self.inside.names.list.items are text bucket (mod-lt (hash_of text) are.some))

pub returns : goal.returns
returns c =
    let are = c.self.invariant.names_are in
    let bucket : HashedDecls = c.of_hash-bucket.result.now in
    let text : List ℕ = joined c.args.name.scope.now c.args.name.last.now in
    rw (← c.self.view_is) ((rw c.as_slice.ensures.value at c.with_text.ensures)
    ∙ ap (λ (b : HashedDecls). filter (λ r. bytes_eq (name_at c.self.inside.files.items r) text) b.decls.items) (rw c.requires.hash at (c.of_hash-bucket.ensures bucket))
    ∙ bucket_named c.self.inside.files.items c.self.inside.names.list.items are text bucket (mod-lt (hash_of text) are.some))
