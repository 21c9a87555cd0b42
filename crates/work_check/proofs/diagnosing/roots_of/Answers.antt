use Rattle.std.proofs.Common.{◌≡◌, ◌∷◌, ◌++◌, [], ◌∙◌, rules, ap, sym, append_assoc, append-nil}
use Rattle.work_files.specs.Files.{text_of}
use Rattle.work_files.specs.View.{file_view, files_view}
use Rattle.work_check.specs.Listing.{file_roots, root_of_text}
use Rattle.work_check.proofs.diagnosing.roots_of.Goals as goal

pub loop-path-preserved : goal.loop-path-preserved
loop-path-preserved c =
    let file = c.in-Some.file.now in
    let step : c.loop-path.path-iterator ≡ (c.in-Some.path.now, file) ∷ c.next.new.self = search rules in
    let rest = file_roots (files_view c.next.new.self) in
    c.loop-path.invariant ∙ ap (λ es. c.loop-path.roots.items ++ file_roots (files_view es)) step
    ∙ sym (append_assoc c.loop-path.roots.items (root_of_text file.root (text_of (file_view file))) rest) ∙ ap (λ front. front ++ rest) (sym c.in_ok-add_root.ensures)

pub returns : goal.returns
returns c =
    let done : c.loop-path.path-iterator ≡ [] = search rules in
    sym (c.loop-path.invariant ∙ ap (λ es. c.loop-path.roots.items ++ file_roots (files_view es)) done ∙ append-nil c.loop-path.roots.items)
