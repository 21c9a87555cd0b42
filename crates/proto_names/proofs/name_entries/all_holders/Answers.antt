use Rattle.std.proofs.Common.{◌∙◌, ◌++◌, ◌+◌, ap, append_assoc, sym, arith}
use Rattle.proto_names.proofs.Entries.{holders_from, next_holders}
use Rattle.proto_names.proofs.name_entries.all_holders.Goals as goal

pub loop-file-preserved : goal.loop-file-preserved
loop-file-preserved c =
    let behind = holders_from c.args.files.now (c.loop-file.file + 1) in
    ap (λ es. es ++ behind) c.in_ok-append.ensures.items
    ∙ append_assoc c.loop-file.holders.items c.in_ok-holders_in.field-0.items behind
    ∙ ap (λ es. c.loop-file.holders.items ++ (es ++ behind)) c.in_ok-holders_in.ensures
    ∙ ap (λ es. c.loop-file.holders.items ++ es) (sym (next_holders c.args.files.now c.loop-file.file (omega arith)))
    ∙ c.loop-file.invariant
