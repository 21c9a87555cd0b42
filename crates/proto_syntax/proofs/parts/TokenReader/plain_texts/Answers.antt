use Rattle.std.proofs.Common.{sym, ◌∙◌, arith, length-take, length-drop}
use Rattle.proto_tree.proofs.PartLemmas.{texts-no, texts-yes, texts-none}
use Rattle.proto_syntax.proofs.parts.TokenReader.plain_texts.Goals as goal

pub returns-then-ne-clause-reads : goal.returns-then-ne-clause-reads
returns-then-ne-clause-reads c = c.texts.invariant.so_far ∙ texts-no c.texts.found c.texts.self.rest.now _ (sym c.ne.ensures ∙ c.if-ne.true)

pub texts-preserved : goal.texts-preserved
texts-preserved c = record {
  left = simp (length-take, length-drop) (omega arith);
  so_far = rw c.in_ok-push.ensures.ok (c.texts.invariant.so_far ∙ texts-yes c.texts.found c.texts.self.rest.now _ c.in-len1-up.len_at_least (sym c.ne.ensures ∙ c.if-ne.false));
}

pub returns-clause-reads : goal.returns-clause-reads
returns-clause-reads c = c.texts.invariant.so_far ∙ texts-none c.texts.found c.texts.self.rest.now c.in_default.len_below
