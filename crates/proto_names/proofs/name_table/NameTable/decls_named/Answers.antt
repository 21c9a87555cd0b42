use Rattle.std.proofs.Common.{◌∙◌, ap}
use Rattle.proto_names.specs.Files.{all_named}
use Rattle.proto_names.proofs.Apart.{are_apart, hashed_parts, whole}
use Rattle.proto_names.proofs.name_table.NameTable.decls_named.Goals as goal

pub decls_of_parts-requires-clause-apart : goal.decls_of_parts-requires-clause-apart
decls_of_parts-requires-clause-apart c =
    let p = c.split_name-name.result in
    are_apart c.as_bytes.result.now p.scope.now p.last.now c.split_name-name.ensures.scope c.split_name-name.ensures.last

pub decls_of_parts-requires-clause-hash : goal.decls_of_parts-requires-clause-hash
decls_of_parts-requires-clause-hash c =
    let p = c.split_name-name.result in
    c.hash.ensures ∙ hashed_parts p.scope.now p.last.now (are_apart c.as_bytes.result.now p.scope.now p.last.now c.split_name-name.ensures.scope c.split_name-name.ensures.last)

pub returns : goal.returns
returns c =
    let p = c.split_name-name.result in
    c.decls_of_parts.ensures
    ∙ ap (all_named c.args.self.now) (whole c.as_bytes.result.now p.scope.now p.last.now c.split_name-name.ensures.scope c.split_name-name.ensures.last ∙ c.as_bytes.ensures.value)
