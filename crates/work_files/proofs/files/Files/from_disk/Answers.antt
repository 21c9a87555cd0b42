use Rattle.std.proofs.Common.{◌∙◌, ap, sym, map, ◌∷◌, []}
use Rattle.std.proofs.lemmas.List.{map-append}
use Rattle.work_files.specs.Disk.{disk_view}
use Rattle.work_files.specs.Files.{with_disk_files}
use Rattle.work_files.proofs.FilesLemmas.{with_one_more}
use Rattle.work_files.proofs.files.Files.from_disk.Goals as goal

pub files-preserved : goal.files-preserved
files-preserved c =
    let left = map disk_view c.pop.new.self.items in
    let last = disk_view c.in-Some.file in
    let all = ap (map disk_view) c.in-Some.ensures.items ∙ map-append disk_view c.pop.new.self.items (c.in-Some.file ∷ []) in
    ap (with_disk_files left) c.in_ok-put_disk_file.ensures ∙ sym (with_one_more left last c.files.found)
    ∙ ap (λ l. with_disk_files l c.files.found) (sym all) ∙ c.files.invariant
