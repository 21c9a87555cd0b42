-- The uses of a name are those of its components.
use Rattle.std.proofs.Common.{◌≡◌, ℕ, zero, suc, ◌+◌, ◌<◌, List, [], ◌∷◌, length, Option, Some, None, map, take, refl, arith}
use Rattle.std.specs.Prelude.{◌≢◌, All, IsSome, option_and_then}
use Rattle.std.specs.List.{range_with_len}
use Rattle.std.specs.Option.{option_map_or}
use Rattle.std.proofs.lemmas.List.Elements.{All-cons, All-head, All-nil, All-tail}
use Rattle.proto_decls.specs.declared.named_facts.NamedFacts.{NamedFacts}
use Rattle.proto_decls.specs.Text.{joined}
use Rattle.proto_resolve.specs.declared.site.Component.{Component}
use Rattle.proto_resolve.specs.declared.site.NameSite.{NameSite}
use Rattle.proto_resolve.specs.declared.target.Target.{Target}
use Rattle.proto_resolve.specs.Laws.{UsesLaw}
use Rattle.proto_resolve.proofs.Outers.{AreOutersFound, outers_found}
use Rattle.proto_resolve.specs.Names.{found, joined_all, scope_of, texts_of}
use Rattle.proto_resolve.specs.Uses.{uses_at, uses_in, uses_of}

some_is : {X : Type 0} (o : Option X) → IsSome o → (x : X) × (o ≡ Some x)
some_is (Some x) there = (x, refl)
some_is None there = absurd (cc (there))

shifted : {X : Type 0} (g : ℕ → X) (a n : ℕ) → map g (range_with_len (a + 1) n) ≡ map (λ k. g (suc k)) (range_with_len a n)
shifted g a zero = refl
shifted g a (suc n) = let next : a + 1 ≡ suc a = omega arith in rw (shifted g (a + 1) n, next) refl

not_empty : (s name : List ℕ) → name ≢ [] → joined s name ≢ []
not_empty [] name some e = some e
not_empty (c ∷ s) name some e = absurd (cc (e))

abbrev texts : List Component → List (List ℕ)
texts cs = map (λ c. c.text) cs

module _ (files : List NamedFacts) (f : ℕ) (view : List ℕ) (i : ℕ) where
  -- something is found at each full name on the way
  abbrev AllFound : List ℕ → List Component → Type 0
  AllFound s cs = (k : ℕ) → k < length cs → IsSome (found files f view (joined_all s (take (suc k) (texts cs))))

  all_found : AreOutersFound files f view → (s : List ℕ) (cs : List Component) → All (λ c. c ≢ []) (texts cs) → IsSome (found files f view (joined_all s (texts cs))) → AllFound s cs
  all_found outers s [] named there k lt = absurd (omega (arith, lt))
  all_found outers s (c ∷ []) named there zero lt = there
  all_found outers s (c ∷ []) named there (suc k) lt = absurd (omega (arith, lt))
  all_found outers s (c ∷ d ∷ cs) named there zero lt =
      outers (joined s c.text) d.text (not_empty s c.text (All-head (λ c. c ≢ []) c.text (texts (d ∷ cs)) named))
      (all_found outers (joined s c.text) (d ∷ cs) (All-tail (λ c. c ≢ []) c.text (texts (d ∷ cs)) named) there zero (omega arith))
  all_found outers s (c ∷ d ∷ cs) named there (suc k) lt =
      all_found outers (joined s c.text) (d ∷ cs) (All-tail (λ c. c ≢ []) c.text (texts (d ∷ cs)) named) there k (omega (arith, lt))

  numbers : (s : List ℕ) (cs : List Component) → AllFound s cs → All (λ u. u.name ≡ i) (uses_in files f view i s cs)
  numbers s [] there = All-nil (λ u. u.name ≡ i)
  numbers s (c ∷ cs) there =
      let first = some_is (found files f view (joined s c.text)) (there zero (omega arith)) in
      rw first.1 (All-cons (λ u. u.name ≡ i) (record { span = c.span; name = i; target = first.0 }) (uses_in files f view i (joined s c.text) cs) refl
      (numbers (joined s c.text) cs (λ k lt. there (suc k) (omega (arith, lt)))))

  spans : (s : List ℕ) (cs : List Component) → AllFound s cs → map (λ u. u.span) (uses_in files f view i s cs) ≡ map (λ c. c.span) cs
  spans s [] there = refl
  spans s (c ∷ cs) there =
      let first = some_is (found files f view (joined s c.text)) (there zero (omega arith)) in
      rw (first.1, spans (joined s c.text) cs (λ k lt. there (suc k) (omega (arith, lt)))) refl

  targets : (s : List ℕ) (cs : List Component) → AllFound s cs
      → map (λ u. Some u.target) (uses_in files f view i s cs) ≡ map (λ k. found files f view (joined_all s (take (suc k) (texts cs)))) (range_with_len 0 (length cs))
  targets s [] there = refl
  targets s (c ∷ cs) there =
      let first = some_is (found files f view (joined s c.text)) (there zero (omega arith)) in
      let later = targets (joined s c.text) cs (λ k lt. there (suc k) (omega (arith, lt))) in
      rw (shifted (λ k. found files f view (joined_all s (take (suc k) (texts (c ∷ cs))))) 0 (length cs), first.1, later) refl

  none : (site : NameSite) (scope : Option (List ℕ)) → option_and_then (λ s. found files f view (joined_all s (texts_of site))) scope ≡ None → option_map_or (uses_at files f view i site) scope [] ≡ []
  none site None e = refl
  none site (Some s) e = rw e refl

  some : (site : NameSite) (s : List ℕ) (t : Target) → found files f view (joined_all s (texts_of site)) ≡ Some t → uses_at files f view i site s ≡ uses_in files f view i s site.components
  some site s t e = rw e refl

pub uses_law : UsesLaw
uses_law files f view i site = (
  none files f view i site (scope_of files f view site),
  λ s t nest own named scope means.
      let whole : found files f view (joined_all s (texts_of site)) ≡ Some t = rw scope at means in
      let all = all_found files f view i (outers_found files f view nest own) s site.components named (rw whole refl) in
      let uses : uses_of files f view i site ≡ uses_in files f view i s site.components = rw scope (some files f view i site s t whole) in
      rw uses (record { numbers = numbers files f view i s site.components all; spans = spans files f view i s site.components all; targets = targets files f view i s site.components all }),
)
