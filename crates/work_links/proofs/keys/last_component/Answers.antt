use Rattle.std.proofs.Common.{rules, ◌≡◌, ◌≢◌, ◌∙◌, sym, ap, refl, inl, inr, ℕ, List, [], ◌∷◌, ◌++◌, ◌==◌, ◌+◌, ◌<◌, length, take, drop, get_or, true, false}
use Rattle.std.proofs.lemmas.Bool.{cases_Bool}
use Rattle.std.proofs.iter.runs.Made.{chains}
use Rattle.proto_decls.specs.FullNames.{has_dot, behind_dot}
use Rattle.proto_decls.proofs.LastParts.{at_dot, last_plain, no_dot}
use Rattle.proto_names.proofs.PackageFronts.{to_end}
use Rattle.work_links.proofs.keys.last_component.Goals as goal

dot_inside : (b p : List ℕ) → has_dot (b ++ 46 ∷ p) ≡ true
dot_inside [] p = refl
dot_inside (x ∷ b) p = elim (cases_Bool (x == 46)) [
  | inl holds ↦ rw holds refl
  | inr fails ↦ rw fails (dot_inside b p)
]

behind_at : (a q : List ℕ) → has_dot q ≡ false → behind_dot (a ++ 46 ∷ q) ≡ q
behind_at [] q plain = rw plain refl
behind_at (x ∷ a) q plain = rw (dot_inside a q) (behind_at a q plain)

behind_none : (n : List ℕ) → has_dot n ≡ false → behind_dot n ≡ n
behind_none [] plain = refl
behind_none (c ∷ cs) plain = elim (cases_Bool (c == 46)) [
  | inl holds ↦ absurd (cc (rw holds at plain))
  | inr fails ↦ let tail : has_dot cs ≡ false = rw fails at plain in rw (tail, fails) refl
]

pub returns-in-Some : goal.returns-in-Some
returns-in-Some c =
    let name = c.args.name.now in
    let at = c.in-Some.at in
    let within : at < length name = search (rules, chains) in
    let here : get_or name at 0 ≡ 46 = search (rules, chains) in
    let later : (k : ℕ) → at < k → k < length name → get_or name k 0 ≢ 46 = search (rules, chains) in
    let rest = drop (at + 1) name in
    to_end (at + 1) name ∙ sym (ap behind_dot (at_dot name at within here) ∙ behind_at (take at name) rest (last_plain name at later))

pub returns-in-None : goal.returns-in-None
returns-in-None c =
    let none : (k : ℕ) → k < length c.args.name.now → get_or c.args.name.now k 0 ≢ 46 = search (rules, chains) in
    sym (behind_none c.args.name.now (no_dot c.args.name.now none))
