use Rattle.std.proofs.Common.{◌≡◌, ◌∙◌, List, ℕ, String, true, ap₂, bytes_eq, map, string_bytes, sym}
use Rattle.std.specs.List.{list_any}
use Rattle.std.specs.declared.alloc.Global.{Global}
use Rattle.work_space.proofs.Noted.{found_path, noted_before, noted_now}
use Rattle.work_space.proofs.last_analysis.noted.Goals as goal

pub returns-then-have_path-clause-changes : goal.returns-then-have_path-clause-changes
returns-then-have_path-clause-changes c =
    let paths : List (String Global) = c.args.known.changes.items in
    let path = string_bytes c.args.path in
    let found : list_any (λ own. bytes_eq (string_bytes own) path) paths ≡ true =
    ap₂ (λ (ps : List (String Global)) (p : List ℕ). list_any (λ own. bytes_eq (string_bytes own) p) ps) (sym c.as_slice.ensures.value) (sym c.as_str.ensures.value) ∙ sym c.have_path.ensures ∙ c.if-have_path.true in
    noted_before (map string_bytes paths) path (found_path paths path found)

pub returns-in-Ok-clause-changes : goal.returns-in-Ok-clause-changes
returns-in-Ok-clause-changes c = noted_now c.args.known.changes.items c.try_push.new.self.items c.args.path c.in-Ok.ensures.ok
