use Rattle.std.proofs.Common.{◌≡◌, true, false}
use Rattle.serde_json.specs.Errors.{IsMemory}
use Rattle.lsp_rpc.proofs.BodyLemmas.{no_value, value_of}
use Rattle.lsp_rpc.proofs.body.json_of.Goals as goal

pub returns-in-Ok : goal.returns-in-Ok
returns-in-Ok c = value_of c.args.body.now _ c.in-Ok.ensures.ok.0 c.in-Ok.ensures.ok.1

pub returns-else-is_memory : goal.returns-else-is_memory
returns-else-is_memory c =
    let other : ¬ IsMemory c.in-Err.error = λ memory. let told : false ≡ true = c.if-is_memory.ensures.1 memory in cc in
    no_value c.args.body.now (c.in-Err.ensures.err other)
