use Rattle.std.proofs.Common.{◌≡◌, ◌∙◌, ◌-◌, ap, sym, length}
use Rattle.std.specs.List.{splice}
use Rattle.std.proofs.lemmas.Result.{on_ok_weaker}
use Rattle.proto_decls.specs.declared.fact.FileFacts.{FileFacts}
use Rattle.proto_names.specs.Files.{decls_at}
use Rattle.proto_names.proofs.ChangedDecls.{as_many, decls_are, ends_behind, ends_within, others_come, EndsAt, StartsAt}
use Rattle.proto_names.proofs.decls.replace_decls.Goals as goal

pub overflow_sub-end : goal.overflow_sub-end
overflow_sub-end c =
    let start : StartsAt c.args.file c.args.decls.now.items c.start_of-start.result = rw c.deref.ensures.value at c.start_of-start.ensures in
    let end : EndsAt c.args.file c.args.decls.now.items c.end_of-end.result = rw c.deref-2.ensures.value at c.end_of-end.ensures in
    ends_behind c.args.files.now c.args.file c.args.decls.now.items c.requires c.start_of-start.result c.end_of-end.result start end

pub returns-then-as_slice-end : goal.returns-then-as_slice-end
returns-then-as_slice-end c =
    let start : StartsAt c.args.file c.args.decls.now.items c.start_of-start.result = rw c.deref.ensures.value at c.start_of-start.ensures in
    let end : EndsAt c.args.file c.args.decls.now.items c.end_of-end.result = rw c.deref-2.ensures.value at c.end_of-end.ensures in
    let count : length (decls_at c.args.files.now c.args.file) ≡ c.end_of-end.result - c.start_of-start.result =
    ap length (decls_are c.args.files.now c.args.file c.args.decls.now.items c.requires c.start_of-start.result c.end_of-end.result start end c.index-files-file.result ∙ ap (λ (facts : FileFacts). facts.decls) (sym c.get.ensures) ∙ sym c.as_slice.ensures)
    ∙ c.if-as_slice-end.true in
    as_many c.args.files.now c.args.file c.args.decls.now.items c.requires c.start_of-start.result c.end_of-end.result start end count

pub put-requires-clause-ordered : goal.put-requires-clause-ordered
put-requires-clause-ordered c =
    let start : StartsAt c.args.file c.args.decls.now.items c.start_of-start.result = rw c.deref.ensures.value at c.start_of-start.ensures in
    let end : EndsAt c.args.file c.args.decls.now.items c.end_of-end.result = rw c.deref-2.ensures.value at c.end_of-end.ensures in
    ends_behind c.args.files.now c.args.file c.args.decls.now.items c.requires c.start_of-start.result c.end_of-end.result start end

pub put-requires-clause-within : goal.put-requires-clause-within
put-requires-clause-within c =
    let start : StartsAt c.args.file c.args.decls.now.items c.start_of-start.result = rw c.deref.ensures.value at c.start_of-start.ensures in
    let end : EndsAt c.args.file c.args.decls.now.items c.end_of-end.result = rw c.deref-2.ensures.value at c.end_of-end.ensures in
    ends_within c.args.files.now c.args.file c.args.decls.now.items c.requires c.start_of-start.result c.end_of-end.result start end

pub returns : goal.returns
returns c =
    let start : StartsAt c.args.file c.args.decls.now.items c.start_of-start.result = rw c.deref.ensures.value at c.start_of-start.ensures in
    let end : EndsAt c.args.file c.args.decls.now.items c.end_of-end.result = rw c.deref-2.ensures.value at c.end_of-end.ensures in
    on_ok_weaker c.put.result
    (λ is. is ∙ ap (λ own. splice c.args.decls.now.items c.start_of-start.result c.end_of-end.result own) c.in_ok-own.ensures
    ∙ others_come c.args.files.now c.args.file c.args.decls.now.items c.requires c.start_of-start.result c.end_of-end.result start end)
    c.put.ensures
