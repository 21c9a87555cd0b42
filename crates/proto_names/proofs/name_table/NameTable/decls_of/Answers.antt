use Rattle.std.proofs.Common.{◌∙◌, sym, ap}
use Rattle.proto_decls.specs.FullNames.{hash_of}
use Rattle.proto_names.specs.Files.{all_named}
use Rattle.proto_names.proofs.Apart.{are_apart, whole}
use Rattle.proto_names.proofs.name_table.NameTable.decls_of.Goals as goal

pub decls_of_parts-requires-clause-apart : goal.decls_of_parts-requires-clause-apart
decls_of_parts-requires-clause-apart c = are_apart c.args.full_name.now c.parts.result.scope.now c.parts.result.last.now c.parts.ensures.scope c.parts.ensures.last

pub decls_of_parts-requires-clause-hash : goal.decls_of_parts-requires-clause-hash
decls_of_parts-requires-clause-hash c =
    c.hash.ensures ∙ ap hash_of (sym (whole c.args.full_name.now c.parts.result.scope.now c.parts.result.last.now c.parts.ensures.scope c.parts.ensures.last))

pub returns : goal.returns
returns c =
    c.decls_of_parts.ensures ∙ ap (all_named c.args.self.now) (whole c.args.full_name.now c.parts.result.scope.now c.parts.result.last.now c.parts.ensures.scope c.parts.ensures.last)
