use Rattle.std.proofs.Common.{◌≡◌, ◌↔◌, ◌∙◌, ◌&&◌, ◌<◌, List, length, get_or, map, option_map, arith, ap, subst, sym}
use Rattle.std.specs.Prelude.{IsSomeAnd, IsTrue, string_bytes, unwrap_or}
use Rattle.std.proofs.lemmas.List.{get_or_default}
use Rattle.proto_decls.specs.declared.fact.FileFacts.{FileFacts}
use Rattle.proto_decls.specs.declared.named_facts.NamedFacts.{NamedFacts}
use Rattle.proto_names.specs.Files.{facts_at}
use Rattle.work_index.specs.Workspace.{Source, SourceAt, Workspace, all_facts, no_file, source_facts}
use Rattle.work_changes.specs.Changes.{IsLinked, file_source}
use Rattle.work_meaning.specs.Edited.{with_text}
use Rattle.work_meaning.specs.Quiet.{IsQuiet, KeepsWith, other_text}
use Rattle.work_meaning.proofs.Quiet.{all-compared, one-compared, source-of}
use Rattle.work_changes.proofs.LinkedAgain.{facts_in}
use Rattle.work_meaning.proofs.keeping.keep_meaning.Goals as goal
use Rattle.work_meaning.proofs.keeping.keep_meaning.Goals.{then-keep, else-keep}

pub keeps-requires-clause-source : goal.keeps-requires-clause-source
keeps-requires-clause-source c =
    let w : Workspace = c.args.files.now in
    let n = c.loop-file.file in
    let there : n < length w = c.loop-file-test.true in
    let at : get_or w n no_file ≡ c.index-files-file.result = get_or_default w n no_file c.index-files-file.result there ∙ sym c.index-files-file.is in
    let so_far = c.loop-file.invariant in
    ap (λ f. source_facts f.1) (sym at) ∙ sym (facts_in w n there) ∙ ap (λ (fs : List NamedFacts). facts_at fs n) (sym (so_far.table ∙ c.requires.table))

pub keeps-requires-clause-linked : goal.keeps-requires-clause-linked
keeps-requires-clause-linked c = λ idle.
    let w : Workspace = c.args.files.now in
    let n = c.loop-file.file in
    let at : get_or w n no_file ≡ c.index-files-file.result = get_or_default w n no_file c.index-files-file.result c.loop-file-test.true ∙ sym c.index-files-file.is in
    let so_far = c.loop-file.invariant in
    let found = c.args.now.now.resolutions in
    subst (λ (fs : List NamedFacts). IsLinked fs n c.index-files-file.result.1 found) (sym so_far.table) (subst (λ f. IsLinked c.args.table n f.1 found) at (c.requires.linked.linked n idle))

pub loop-file-preserved : goal.loop-file-preserved
loop-file-preserved c =
    let a = c.args.earlier.now in
    let own = c.args.others.now.own in
    let texts = map (option_map string_bytes) c.args.others.now.texts.now in
    let w : Workspace = c.args.files.now in
    let n = c.loop-file.file in
    let source = c.index-files-file.result in
    let at : get_or w n no_file ≡ source = get_or_default w n no_file source c.loop-file-test.true ∙ sym c.index-files-file.is in
    let so_far = c.loop-file.invariant in
    let keep = c.loop-file.keep in
    let keeps = c.in-Some.keeps in
    let table_is : c.loop-file.table ≡ all_facts w = so_far.table ∙ c.requires.table in
    let now : Source = with_text source.1 (unwrap_or (option_map (λ t. t.now) c.other_text-other.result) source.1.text) in
    let now_is : now ≡ source-of own texts w n =
    ap (λ o. with_text source.1 (unwrap_or o source.1.text)) c.other_text-other.ensures ∙ ap (λ (f : SourceAt). with_text f.1 (unwrap_or (other_text own texts n) f.1.text)) (sym at) in
    let both : c.if-keep.keep ≡ (keep && keeps) = elim c.if-keep.branch [
      | then-keep x ↦ x.keep-is ∙ sym (ap (λ b. b && keeps) x.if-keep.true)
      | else-keep x ↦ x.keep-is ∙ x.if-keep.false ∙ sym (ap (λ b. b && keeps) x.if-keep.false)
    ] in
    let quiet : IsQuiet (facts_at c.loop-file.table n) (source_facts now) = c.in_ok-keeps.ensures.quiet (λ none. absurd (cc (none, c.in-Some.is))) in
    let here : IsTrue keeps ↔ KeepsWith c.loop-file.table n now a = rw c.in-Some.is at c.in_ok-keeps.ensures.keeps in
    record {
      table = c.in_ok-keeps.ensures.table ∙ so_far.table;
      compared = one-compared a own texts w n keep so_far.compared keeps c.if-keep.keep both
          (subst (λ s. IsQuiet (facts_at (all_facts w) n) (source_facts s)) now_is (subst (λ (fs : List NamedFacts). IsQuiet (facts_at fs n) (source_facts now)) table_is quiet))
          (subst (λ s. IsTrue keeps ↔ KeepsWith (all_facts w) n s a) now_is (subst (λ (fs : List NamedFacts). IsTrue keeps ↔ KeepsWith fs n now a) table_is here));
    }

pub returns-clause-keep : goal.returns-clause-keep
returns-clause-keep c = λ w has.
    let so_far = c.loop-file.invariant in
    all-compared c.args.earlier.now c.args.others.now.own _ c.args.files.now c.loop-file.file c.loop-file.keep so_far.compared c.seen_law.ensures w has c.known.ensures c.requires.as_many (omega arith)

pub returns-in-None-clause-other : goal.returns-in-None-clause-other
returns-in-None-clause-other c = λ none.
    let w : Workspace = c.args.files.now in
    let n = c.loop-file.file in
    let there : n < length w = c.loop-file-test.true in
    let so_far = c.loop-file.invariant in
    let s = file_source w n in
    let at : get_or w n no_file ≡ c.index-files-file.result = get_or_default w n no_file c.index-files-file.result there ∙ sym c.index-files-file.is in
    let before : facts_at c.loop-file.table n ≡ source_facts s = ap (λ (fs : List NamedFacts). facts_at fs n) (so_far.table ∙ c.requires.table) ∙ facts_in w n there in
    let says = c.in_ok-keeps.ensures.other c.in-None.is in
    let other = option_map (λ t. t.now) c.other_text-other.result in
    record {
      file = n;
      within = there;
      differs = subst (λ o. IsSomeAnd o (λ text. ¬ IsQuiet (source_facts s) (source_facts (with_text s text)))) c.other_text-other.ensures
          (subst (λ (f : FileFacts). IsSomeAnd other (λ text. ¬ IsQuiet f (source_facts (with_text s text)))) before
          (subst (λ (t : SourceAt). IsSomeAnd other (λ text. ¬ IsQuiet (facts_at c.loop-file.table n) (source_facts (with_text t.1 text)))) (sym at) says));
    }
