use Rattle.std.proofs.Common.{◌∙◌, ap, sym, map, length, option_map, string_bytes}
use Rattle.std.proofs.lemmas.List.{length-map}
use Rattle.work_config.proofs.ConfigLemmas.{refusal_of}
use Rattle.work_config.proofs.config.Config.make.Goals as goal

pub returns-in-Some-clause-refused : goal.returns-in-Some-clause-refused
returns-in-Some-clause-refused c = λ other.
    refusal_of (map string_bytes c.args.roots.items) c.args.files.items c.args.reads_others (length c.as_slice-texts.result.now) c.first_bad.result (rw c.as_slice-texts.ensures.value at c.in_ok-parsed.ensures.ok)
    (ap length c.as_slice-texts.ensures.value ∙ sym (length-map c.args.roots.items string_bytes)) (rw c.as_slice.ensures.value at c.first_bad.ensures)
    ∙ ap (option_map _) c.in-Some.is

pub returns-clause-good : goal.returns-clause-good
returns-clause-good c =
    refusal_of (map string_bytes c.args.roots.items) c.args.files.items c.args.reads_others (length c.as_slice-texts.result.now) c.first_bad.result (rw c.as_slice-texts.ensures.value at c.in_ok-parsed.ensures.ok)
    (ap length c.as_slice-texts.ensures.value ∙ sym (length-map c.args.roots.items string_bytes)) (rw c.as_slice.ensures.value at c.first_bad.ensures)
    ∙ ap (option_map _) c.in-None.is
