use Rattle.std.proofs.Common.{codes}
use Rattle.serde_json.specs.Data.{Members, number, unsigned, string, member, no_members}
use Rattle.lsp_rpc.specs.Location.{location_value}
use Rattle.lsp_rpc.specs.Symbol.{kind_number}
use Rattle.lsp_rpc.proofs.SymbolLemmas.{with_container-written}
use Rattle.lsp_rpc.proofs.WritingLemmas.{one, ◌▹◌}
use Rattle.lsp_rpc.proofs.symbol.write_symbol.Goals as goal

pub returns : goal.returns
returns c =
    let s = c.args.symbol in
    let ms : Members =
    member (codes "kind") (number (unsigned (kind_number s.kind)))
    (member (codes "location") (location_value (record { range = s.range; uri = c.args.uri.now }))
    (member (codes "name") (string s.name.now) no_members)) in
    one c.in_ok-begin_object.ensures ▹ with_container-written s.container.now ms
    (c.in_ok-write_container.ensures ▹ one c.in_ok-key.ensures ▹ (rw c.number.ensures at (one c.in_ok-u64.ensures)) ▹ one c.in_ok-key-2.ensures ▹ c.in_ok-write_location.ensures ▹ one c.in_ok-key-3.ensures ▹ one c.in_ok-string.ensures ▹ one c.in_ok-end_object.ensures)
