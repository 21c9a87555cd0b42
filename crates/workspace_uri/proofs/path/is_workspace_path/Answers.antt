use Rattle.std.proofs.Common.{rules, ◌==◌, ◌∙◌}
use borrow.Author.Tests.{tests}
use Rattle.std.proofs.lemmas.Iterator.Search.{all_from_yields_List}
use Rattle.std.proofs.lemmas.Iterator.Splits.{YieldsList-from_slice_split}
use Rattle.workspace_uri.specs.Path.{is_segment}
use Rattle.workspace_uri.proofs.path.is_workspace_path.Goals as goal

pub returns : goal.returns
returns c =
    all_from_yields_List is_segment _ _ _ c.all.ensures.ran
    (YieldsList-from_slice_split _ (λ b. b == 47) c.args.path.now (c.split.ensures.rest ∙ c.as_bytes.ensures.value) c.split.ensures.done c.split.ensures.closure (λ x b q k. search (rules, tests)))
    (λ x b q k. search (rules, tests))
