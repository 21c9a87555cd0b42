use Rattle.std.proofs.Common.{◌∙◌, sym}
use Rattle.workspace_uri.proofs.UriLemmas.{below_no_text, below_here, boundary, EndsInSlash-folder_of}
use Rattle.workspace_uri.proofs.root.Root.below.Goals as goal

pub returns-in_default : goal.returns-in_default
returns-in_default c = below_no_text _ _ c.in_default.ensures.cases.0

pub range_from-rest-requires : goal.range_from-rest-requires
range_from-rest-requires c = λ positive.
    let starts = rw c.as_slice-root.ensures.value at (sym c.starts_with.ensures.value ∙ c.if-not-starts_with.false) in
    let fits = rw c.as_slice-root.ensures.value at (c.starts_with.ensures.bound c.if-not-starts_with.false) in
    let cut = boundary c.args.self.now.folder.items c.args.path.now (EndsInSlash-folder_of _ _ c.args.self.now.of_text) c.in-Ok.ensures.cases.1 starts fits in
    rw (c.in-Ok.ensures.cases.0, c.as_slice-root.ensures.value) cut

pub returns : goal.returns
returns c =
    let starts = rw c.as_slice-root.ensures.value at (sym c.starts_with.ensures.value ∙ c.if-not-starts_with.false) in
    let behind = rw (c.in-Ok.ensures.cases.0, c.as_slice-root.ensures.value) at c.range_from-rest.ensures.value in
    rw c.in_ok-from_str.ensures.ok
    (below_here c.args.self.now.folder.items c.args.path.now c.range_from-rest.result.now c.in-Ok.ensures.cases.1 starts behind (sym c.is_workspace_path.ensures ∙ c.if-not-is_workspace_path.false))
