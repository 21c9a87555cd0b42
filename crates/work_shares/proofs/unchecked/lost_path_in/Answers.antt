use Rattle.std.proofs.Common.{◌≡◌, ◌∙◌, ◌+◌, ℕ, List, ap, drop, flat_map, get_or, sym}
use Rattle.std.specs.Prelude.{slice_get}
use Rattle.std.specs.List.{enumerate_from}
use Rattle.proto_decls.specs.declared.fact.FileFacts.{FileFacts}
use Rattle.proto_decls.specs.declared.fact.ImportFact.{ImportFact}
use Rattle.proto_decls.specs.declared.named_facts.NamedFacts.{NamedFacts}
use Rattle.proto_names.specs.Files.{facts_at}
use Rattle.work_shares.specs.Unchecked.{lost_path, lost_paths}
use Rattle.work_shares.proofs.FirstLost.{first-of, from-here, rest-of}
use Rattle.work_shares.proofs.unchecked.lost_path_in.Goals as goal

-- the first of a file's paths, where its imports are read from its facts
here : (files : List NamedFacts) (f : ℕ) (facts : FileFacts) (is : List ImportFact) → facts ≡ facts_at files f → is ≡ facts.imports
    → slice_get (lost_paths files f) 0 ≡ slice_get (flat_map (lost_path files f) (enumerate_from 0 is)) 0
here files f facts is at from = ap (λ (is : List ImportFact). slice_get (flat_map (lost_path files f) (enumerate_from 0 is)) 0) (sym (from ∙ ap (λ (x : FileFacts). x.imports) at))

pub returns-in-Some : goal.returns-in-Some
returns-in-Some c =
    let paths = lost_paths c.args.table.now in
    let files = c.args.files.now in
    let at = c.loop-file.file-index in
    sym (first-of (paths (get_or files at 0)) (flat_map paths (drop (at + 1) files)) (flat_map paths (drop at files)) (flat_map paths files) c.in-Some.path
    (from-here paths files at 0 c.loop-file-test.true) c.loop-file.invariant (here c.args.table.now (get_or files at 0) c.facts.result.now c.as_slice-imports.result.now c.facts.ensures c.as_slice-imports.ensures ∙ sym c.in_ok-path.ensures ∙ c.in-Some.is))

pub loop-file-preserved : goal.loop-file-preserved
loop-file-preserved c =
    let paths = lost_paths c.args.table.now in
    let files = c.args.files.now in
    let at = c.loop-file.file-index in
    rest-of (paths (get_or files at 0)) (flat_map paths (drop (at + 1) files)) (flat_map paths (drop at files)) (flat_map paths files)
    (from-here paths files at 0 c.loop-file-test.true) c.loop-file.invariant (here c.args.table.now (get_or files at 0) c.facts.result.now c.as_slice-imports.result.now c.facts.ensures c.as_slice-imports.ensures ∙ sym c.in_ok-path.ensures ∙ c.in-None.is)
