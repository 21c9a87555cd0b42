use Rattle.std.proofs.Common.{◌++◌, take, drop, ap, sym, ◌∙◌}
use Rattle.std.specs.String.{string_bytes}
use Rattle.std.proofs.lemmas.Result.{on_ok_weaker}
use Rattle.doc_text.specs.Positions.{offset_of}
use Rattle.doc_text.proofs.Walks.{replaced_all, replaced_range}
use Rattle.doc_text.proofs.text.Text.apply.Goals as goal

pub returns-in-None-clause-ok : goal.returns-in-None-clause-ok
returns-in-None-clause-ok c = replaced_all _ _ _ _ c.in-None.is

pub returns-in-Some-clause-ok : goal.returns-in-Some-clause-ok
returns-in-Some-clause-ok c =
    rw (← c.self.view_is)
    (on_ok_weaker c.replace_range.result
    (λ is. replaced_range _ _ c.in-Some.range _ _ _ _ _ _ _ c.in-Some.is
    (c.offset_of-start.ensures.value ∙ ap (offset_of c.args.encoding c.in-Some.range.start) (c.as_str.ensures ∙ sym c.self.view_is))
    (c.offset_of-end.ensures.value ∙ ap (offset_of c.args.encoding c.in-Some.range.end) (c.as_str-in-Some.ensures ∙ sym c.self.view_is))
    c.min.ensures c.max.ensures
    (is ∙ ap (λ ys. take c.min.result (string_bytes c.self.inside.text) ++ ys ++ drop c.max.result (string_bytes c.self.inside.text)) c.as_str-in-Some-2.ensures.value))
    c.replace_range.ensures.bytes)
