use Rattle.std.proofs.Common.{◌≡◌, ◌∙◌, sym, ap, ◌∷◌, ◌++◌, take, drop, ◌+◌, arith, false}
use Rattle.proto_decls.specs.FullNames.{has_dot, last_of, scope_of}
use Rattle.proto_decls.proofs.LastParts.{last_plain, last_alone, last_apart, last_leading, scope_alone, scope_apart, scope_leading, at_dot, some_front, to_end}
use Rattle.proto_decls.proofs.full_name.split_name.Goals as goal

pub returns-then-at-eq0-clause-scope : goal.returns-then-at-eq0-clause-scope
returns-then-at-eq0-clause-scope c =
    let found = c.in-Some.ensures in
    let first : c.in-Some.at ≡ 0 = c.if-at-eq0.true in
    let plain : has_dot (drop (c.in-Some.at + 1) c.args.name.now) ≡ false = last_plain c.args.name.now c.in-Some.at found.2 in
    let whole : c.args.name.now ≡ take c.in-Some.at c.args.name.now ++ 46 ∷ drop (c.in-Some.at + 1) c.args.name.now = at_dot c.args.name.now c.in-Some.at found.0 found.1 in
    let short : c.args.name.now ≡ 46 ∷ drop (c.in-Some.at + 1) c.args.name.now = whole ∙ ap (λ k. take k c.args.name.now ++ 46 ∷ drop (c.in-Some.at + 1) c.args.name.now) first in
    scope_leading (drop (c.in-Some.at + 1) c.args.name.now) plain ∙ ap scope_of (sym short)

pub returns-then-at-eq0-clause-last : goal.returns-then-at-eq0-clause-last
returns-then-at-eq0-clause-last c =
    let found = c.in-Some.ensures in
    let first : c.in-Some.at ≡ 0 = c.if-at-eq0.true in
    let plain : has_dot (drop (c.in-Some.at + 1) c.args.name.now) ≡ false = last_plain c.args.name.now c.in-Some.at found.2 in
    let whole : c.args.name.now ≡ take c.in-Some.at c.args.name.now ++ 46 ∷ drop (c.in-Some.at + 1) c.args.name.now = at_dot c.args.name.now c.in-Some.at found.0 found.1 in
    let short : c.args.name.now ≡ 46 ∷ drop (c.in-Some.at + 1) c.args.name.now = whole ∙ ap (λ k. take k c.args.name.now ++ 46 ∷ drop (c.in-Some.at + 1) c.args.name.now) first in
    rw short (last_leading (drop (c.in-Some.at + 1) c.args.name.now) plain)

pub returns-in-None-clause-scope : goal.returns-in-None-clause-scope
returns-in-None-clause-scope c = scope_alone c.args.name.now c.in-None.ensures

pub returns-in-None-clause-last : goal.returns-in-None-clause-last
returns-in-None-clause-last c = last_alone c.args.name.now c.in-None.ensures

pub returns-else-at-eq0-clause-scope : goal.returns-else-at-eq0-clause-scope
returns-else-at-eq0-clause-scope c =
    let found = c.in-Some.ensures in
    let plain : has_dot (drop (c.in-Some.at + 1) c.args.name.now) ≡ false = last_plain c.args.name.now c.in-Some.at found.2 in
    let whole : c.args.name.now ≡ take c.in-Some.at c.args.name.now ++ 46 ∷ drop (c.in-Some.at + 1) c.args.name.now = at_dot c.args.name.now c.in-Some.at found.0 found.1 in
    scope_apart (take c.in-Some.at c.args.name.now) (drop (c.in-Some.at + 1) c.args.name.now) (some_front c.args.name.now c.in-Some.at (omega (arith, c.if-at-eq0.false)) found.0) plain ∙ ap scope_of (sym whole)

pub returns-else-at-eq0-clause-last : goal.returns-else-at-eq0-clause-last
returns-else-at-eq0-clause-last c =
    let found = c.in-Some.ensures in
    let plain : has_dot (drop (c.in-Some.at + 1) c.args.name.now) ≡ false = last_plain c.args.name.now c.in-Some.at found.2 in
    let whole : c.args.name.now ≡ take c.in-Some.at c.args.name.now ++ 46 ∷ drop (c.in-Some.at + 1) c.args.name.now = at_dot c.args.name.now c.in-Some.at found.0 found.1 in
    let is = last_apart (take c.in-Some.at c.args.name.now) (drop (c.in-Some.at + 1) c.args.name.now) (some_front c.args.name.now c.in-Some.at (omega (arith, c.if-at-eq0.false)) found.0) plain in
    to_end (c.in-Some.at + 1) c.args.name.now ∙ is ∙ ap last_of (sym whole)
