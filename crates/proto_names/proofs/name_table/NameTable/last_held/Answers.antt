use Rattle.std.proofs.Common.{◌≡◌, ◌∙◌, ◌%◌, ℕ, Bool, ap, get_or, take, length, subst}
use Rattle.std.proofs.Math.Nat.{mod-lt}
use Rattle.std.proofs.Math.Path.{fun_ext}
use Rattle.proto_names.specs.declared.hashed.HashedDecls.{HashedDecls}
use Rattle.proto_decls.specs.FullNames.{hash_of}
use Rattle.proto_names.specs.Holders.{IsLast}
use Rattle.proto_names.specs.Files.{name_at}
use Rattle.proto_names.specs.Tables.{stands_in}
use Rattle.proto_names.proofs.Apart.{apart_alone, hashed}
use Rattle.proto_names.proofs.ByLast.{of_last}
use Rattle.proto_names.proofs.InBuckets.{last_by_hash, last_held, last_ordered}
use Rattle.proto_names.proofs.name_table.NameTable.last_held.Goals as goal

pub of_hash-bucket-requires : goal.of_hash-bucket-requires
of_hash-bucket-requires c = let are = c.self.invariant.holders_are in are.some

pub with_text-decls-requires-clause-by_hash : goal.with_text-decls-requires-clause-by_hash
with_text-decls-requires-clause-by_hash c =
    let are = c.self.invariant.holders_are in
    let bucket : HashedDecls = c.of_hash-bucket.result.now in
    rw (c.as_slice.ensures.value, c.of_hash-bucket.ensures bucket, hashed c.unsplit-last.result.scope.now c.unsplit-last.result.last.now c.args.name.now c.hash-hash.result c.requires.plain c.unsplit-last.ensures.scope (c.unsplit-last.ensures.last ∙ c.as_bytes.ensures.value) c.hash-hash.ensures)
    (last_by_hash c.self.inside.files.items c.self.inside.holders.list.items are c.args.name.now c.requires.plain bucket (mod-lt (hash_of c.args.name.now) are.some))

pub with_text-decls-requires-clause-apart : goal.with_text-decls-requires-clause-apart
with_text-decls-requires-clause-apart c =
    rw (c.unsplit-last.ensures.scope, c.unsplit-last.ensures.last, c.as_bytes.ensures.value) (apart_alone c.args.name.now c.requires.plain)

pub with_text-decls-requires-clause-hash : goal.with_text-decls-requires-clause-hash
with_text-decls-requires-clause-hash c =
    rw (c.unsplit-last.ensures.scope, c.unsplit-last.ensures.last, c.as_bytes.ensures.value)
    (hashed c.unsplit-last.result.scope.now c.unsplit-last.result.last.now c.args.name.now c.hash-hash.result c.requires.plain c.unsplit-last.ensures.scope (c.unsplit-last.ensures.last ∙ c.as_bytes.ensures.value) c.hash-hash.ensures)

pub last_place-requires-clause-sorted : goal.last_place-requires-clause-sorted
last_place-requires-clause-sorted c =
    let are = c.self.invariant.holders_are in
    let bucket : HashedDecls = c.of_hash-bucket.result.now in
    rw (
      c.as_slice-2.ensures.value,
      c.with_text-decls.ensures,
      c.as_slice.ensures.value,
      c.unsplit-last.ensures.scope,
      c.unsplit-last.ensures.last,
      c.as_bytes.ensures.value,
      c.of_hash-bucket.ensures bucket,
      hashed c.unsplit-last.result.scope.now c.unsplit-last.result.last.now c.args.name.now c.hash-hash.result c.requires.plain c.unsplit-last.ensures.scope (c.unsplit-last.ensures.last ∙ c.as_bytes.ensures.value) c.hash-hash.ensures,
    )
    (last_ordered c.self.inside.files.items c.self.inside.holders.list.items are c.args.name.now c.requires.plain bucket (mod-lt (hash_of c.args.name.now) are.some))

pub returns : goal.returns
returns c =
    let are = c.self.invariant.holders_are in
    let bucket : HashedDecls = c.of_hash-bucket.result.now in
    let here : HashedDecls = get_or c.self.inside.holders.list.items (hash_of c.args.name.now % length c.self.inside.holders.list.items) bucket in
    let is : bucket ≡ here = rw (hashed c.unsplit-last.result.scope.now c.unsplit-last.result.last.now c.args.name.now c.hash-hash.result c.requires.plain c.unsplit-last.ensures.scope (c.unsplit-last.ensures.last ∙ c.as_bytes.ensures.value) c.hash-hash.ensures) at (c.of_hash-bucket.ensures bucket) in
    let found : IsLast (λ l. stands_in (name_at c.self.inside.files.items) (of_last (name_at c.self.inside.files.items) bucket.decls.items c.args.name.now) (take l c.args.scope.now)) c.args.lengths.now c.last_place.result =
    rw (c.as_slice-2.ensures.value, c.with_text-decls.ensures, c.as_slice.ensures.value, c.unsplit-last.ensures.scope, c.unsplit-last.ensures.last, c.as_bytes.ensures.value, c.as_bytes-2.ensures.value) at c.last_place.ensures in
    rw (← c.self.view_is) (subst (λ (test : ℕ → Bool). IsLast test c.args.lengths.now c.last_place.result)
    (fun_ext (λ l.
    ap (λ (b : HashedDecls). stands_in (name_at c.self.inside.files.items) (of_last (name_at c.self.inside.files.items) b.decls.items c.args.name.now) (take l c.args.scope.now)) is
    ∙ last_held c.self.inside.files.items c.self.inside.holders.list.items are c.args.name.now c.requires.plain bucket (mod-lt (hash_of c.args.name.now) are.some) (take l c.args.scope.now))) found)
