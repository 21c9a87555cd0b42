use Rattle.std.proofs.Common.{refl, sym, ◌∙◌, arith, below_more}
use Rattle.work_meaning.specs.Bindings.{SameInFile}
use Rattle.work_meaning.proofs.FileByFile.{as_many-same, files-same, means-same, same-in, same-means}
use Rattle.work_meaning.proofs.comparing.same_meaning.Goals as goal

pub returns-then-file_count : goal.returns-then-file_count
returns-then-file_count c = (
  λ h. absurd (cc (h)),
  λ same. absurd (c.if-file_count.true
      (c.file_count.ensures ∙ as_many-same c.args.a.now c.args.b.now c.known.ensures c.known-2.ensures same ∙ sym c.file_count-2.ensures)),
)

pub returns-then-not-means : goal.returns-then-not-means
returns-then-not-means c = (
  λ h. absurd (cc (h)),
  λ same. absurd (cc (c.if-not-means.ensures.1 (same-means c.args.a.now c.args.b.now c.loop-file.file _ _ c.links.ensures c.diagnostics.ensures (same-in c.args.a.now c.args.b.now c.loop-file.file same)))),
)

pub loop-file-preserved : goal.loop-file-preserved
loop-file-preserved c =
    let a = c.args.a.now in
    let b = c.args.b.now in
    below_more (λ k. SameInFile a b k) c.loop-file.file c.loop-file.invariant (means-same a b c.loop-file.file _ _ c.links.ensures c.diagnostics.ensures (c.if-not-means.ensures.0 refl))

pub returns : goal.returns
returns c =
    let long = sym c.file_count.ensures ∙ c.if-file_count.false ∙ c.file_count-2.ensures in
    let end = c.file_count-file-end.ensures in (
      λ h. files-same c.args.a.now c.args.b.now c.known.ensures c.known-2.ensures long (λ k lt. c.loop-file.invariant k (omega (arith, end, lt))),
      λ same. refl,
    )
