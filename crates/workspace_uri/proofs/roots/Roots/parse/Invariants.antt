use Rattle.std.proofs.Common.{◌≡◌, ◌++◌, ◌==◌, false, length, map, drop, is_some, string_bytes}
use Rattle.std.specs.List.{list_all}
use Rattle.workspace_uri.specs.Uri.{folder_of}
use Rattle.workspace_uri.specs.View.{root_text}
use Rattle.workspace_uri.proofs.roots.Roots.parse.Given as goal

-- the texts before are those of the roots that were made
abbrev pub invariant-loop-text : goal.invariant-loop-text
invariant-loop-text l = record {
  some : (length l.texts == 0) ≡ false;
  made : map root_text l.list.items ++ map string_bytes (drop l.text-index l.texts) ≡ map string_bytes l.texts;
  left :
      let are_named = list_all (λ text. is_some (folder_of text)) in
      are_named (map string_bytes (drop l.text-index l.texts)) ≡ are_named (map string_bytes l.texts);
}
