use Rattle.std.proofs.Common.{◌∙◌}
use Rattle.proto_names.proofs.Search.{searched}
use Rattle.proto_resolve.proofs.view.View.has.Goals as goal

pub returns : goal.returns
returns c =
    c.is_ok.ensures.value
    ∙ searched c.args.self.now.files c.args.self.now.ascending c.args.file c.binary_search.result
    (rw c.as_slice.ensures at c.binary_search.ensures.bound) (rw c.as_slice.ensures at c.binary_search.ensures.position)
