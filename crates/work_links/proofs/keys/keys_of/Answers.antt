use Rattle.std.proofs.Common.{◌≡◌, ◌∙◌, sym, ap}
use Rattle.proto_decls.specs.FullNames.{behind_dot, last_of, scope_of}
use Rattle.proto_decls.proofs.ApartNames.{joined_again}
use Rattle.work_links.specs.Keys.{key, last_key}
use Rattle.work_links.proofs.AskedNames.{behind_joined}
use Rattle.work_links.proofs.keys.keys_of.Goals as goal

pub returns-clause-last : goal.returns-clause-last
returns-clause-last c =
    let n = c.args.name.now in
    let same : behind_dot (last_of n) ≡ behind_dot n = sym (behind_joined (scope_of n) (last_of n)) ∙ ap behind_dot (joined_again n) in
    c.last_key.ensures ∙ ap last_key (c.as_bytes.ensures.value ∙ c.last.ensures) ∙ ap key same
