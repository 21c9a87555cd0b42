use Rattle.std.proofs.Common.{◌∙◌, ap, cond, true}
use Rattle.std.specs.Str.{bytes_eq}
use Rattle.std.proofs.lemmas.Map.Text.{is_eq-slice_cmp}
use Rattle.proto_facts.specs.Seen.{has_name}
use Rattle.proto_facts.proofs.Places.{or-is}
use Rattle.proto_facts.proofs.seen.note_name.Goals as goal

pub returns-clause-more : goal.returns-clause-more
returns-clause-more c = λ q.
    c.in_ok-insert.ensures.updates.0 (record { ref_ptr = (0, 0); now = q })
    ∙ ap (λ b. cond b true (has_name c.args.seen.now q)) (is_eq-slice_cmp c.args.name.now q)
    ∙ or-is (bytes_eq c.args.name.now q) (has_name c.args.seen.now q)
