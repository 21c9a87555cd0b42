-- The last use of a name is what the name means.
use Rattle.std.proofs.Common.{◌≡◌, ℕ, suc, ◌-◌, ◌<◌, ◌∷◌, ◌++◌, [], List, Some, length, take, get_or, map, refl, subst, sym, ◌∙◌, arith}
use Rattle.std.proofs.Math.Seq.{take-suc}
use Rattle.std.proofs.lemmas.List.{append_assoc, take_all}
use Rattle.std.proofs.lemmas.List.Elements.{filter_map-append}
use Rattle.proto_decls.specs.declared.named_facts.NamedFacts.{NamedFacts}
use Rattle.proto_decls.specs.Text.{joined}
use Rattle.proto_resolve.specs.declared.site.Component.{Component}
use Rattle.proto_resolve.specs.declared.target.Target.{Target}
use Rattle.proto_resolve.specs.declared.uses.NameUse.{NameUse}
use Rattle.proto_resolve.specs.Names.{found, joined_all}
use Rattle.proto_resolve.specs.Uses.{prefixes, use_at, uses_in}

abbrev texts : List Component → List (List ℕ)
texts cs = map (λ c. c.text) cs

last_prefix : (s : List ℕ) (cs : List Component) (c : Component) → prefixes s (cs ++ c ∷ []) ≡ prefixes s cs ++ (joined_all s (texts (cs ++ c ∷ [])), c.span) ∷ []
last_prefix s [] c = refl
last_prefix s (d ∷ cs) c = rw (last_prefix (joined s d.text) cs c) refl

last_use : (files : List NamedFacts) (f : ℕ) (view : List ℕ) (i : ℕ) (s : List ℕ) (cs : List Component) (c : Component) (t : Target)
    → found files f view (joined_all s (texts (cs ++ c ∷ []))) ≡ Some t
    → uses_in files f view i s (cs ++ c ∷ []) ≡ uses_in files f view i s cs ++ record { span = c.span; name = i; target = t } ∷ []
last_use files f view i s cs c t e =
    rw (last_prefix s cs c, filter_map-append (use_at files f view i) (prefixes s cs) ((joined_all s (texts (cs ++ c ∷ [])), c.span) ∷ []), e) refl

all_uses : (files : List NamedFacts) (f : ℕ) (view : List ℕ) (i : ℕ) (s : List ℕ) (cs : List Component) (d : Component) (t : Target)
    → 0 < length cs → found files f view (joined_all s (texts cs)) ≡ Some t
    → uses_in files f view i s cs ≡ uses_in files f view i s (take (length cs - 1) cs) ++ record { span = (let c = get_or cs (length cs - 1) d in c.span); name = i; target = t } ∷ []
all_uses files f view i s cs d t some e =
    let whole : take (suc (length cs - 1)) cs ≡ cs = take_all (suc (length cs - 1)) cs (omega arith) in
    let parted : cs ≡ take (length cs - 1) cs ++ get_or cs (length cs - 1) d ∷ [] = sym whole ∙ take-suc cs (length cs - 1) d (omega (arith, some)) in
    let found_here = subst (λ x. found files f view (joined_all s (texts x)) ≡ Some t) parted e in
    let last : List NameUse = record { span = (let c = get_or cs (length cs - 1) d in c.span); name = i; target = t } ∷ [] in
    subst (λ x. uses_in files f view i s x ≡ uses_in files f view i s (take (length cs - 1) cs) ++ last) (sym parted)
    (last_use files f view i s (take (length cs - 1) cs) (get_or cs (length cs - 1) d) t found_here)

-- the last use put behind the others
pub used : (files : List NamedFacts) (f : ℕ) (view : List ℕ) (i : ℕ) (s : List ℕ) (cs : List Component) (d : Component) (t : Target) (old before : List NameUse)
    → 0 < length cs → found files f view (joined_all s (texts cs)) ≡ Some t → before ≡ old ++ uses_in files f view i s (take (length cs - 1) cs)
    → before ++ record { span = (let c = get_or cs (length cs - 1) d in c.span); name = i; target = t } ∷ [] ≡ old ++ uses_in files f view i s cs
used files f view i s cs d t old before some e others =
    let last : List NameUse = record { span = (let c = get_or cs (length cs - 1) d in c.span); name = i; target = t } ∷ [] in
    rw (others, all_uses files f view i s cs d t some e) (append_assoc old (uses_in files f view i s (take (length cs - 1) cs)) last)
