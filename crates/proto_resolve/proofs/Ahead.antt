-- Scopes without a message, an enum or a service of a name are passed over.
use Rattle.std.proofs.Common.{◌≡◌, ◌∙◌, ap, refl, inl, inr, ◌<◌, ◌≤◌, ◌+◌, ◌-◌, ℕ, zero, suc, List, [], ◌∷◌, Bool, true, false, Option, Some, None, get_or, length, drop, find, if◌then◌else◌, arith, ◌==◌}
use Rattle.std.specs.Prelude.{All, option_map}
use Rattle.std.specs.List.{list_any}
use Rattle.std.specs.Option.{option_or}
use Rattle.std.proofs.lemmas.Bool.{cases_Bool}
use Rattle.std.proofs.lemmas.List.{drop_all, drop_more}
use Rattle.std.proofs.lemmas.List.Elements.{All-cons, All-nil}
use Rattle.proto_decls.specs.declared.fact.DeclKind.{DeclKind}
use Rattle.proto_decls.specs.declared.fact.DeclKind.TheVariants.{Message, EnumDef, Service, Rpc, Oneof, Field, Extension, Value}
use Rattle.proto_decls.specs.Text.{joined}
use Rattle.proto_decls.specs.declared.named_facts.NamedFacts.{NamedFacts}
use Rattle.proto_resolve.specs.declared.site.NameSite.{NameSite}
use Rattle.proto_resolve.specs.declared.site.Needs.TheVariants as needs
use Rattle.proto_names.specs.declared.decl_ref.DeclRef.{DeclRef}
use Rattle.proto_resolve.specs.declared.target.Target.TheVariants.{Declared, Package}
use Rattle.proto_names.specs.Files.{all_named, decl_at, has_package}
use Rattle.proto_names.specs.Holders.{is_held, is_holder}
use Rattle.proto_resolve.specs.Names.{first_declared, first_text, has_kind, is_type, settles, settles_at, texts_of}
use Rattle.proto_resolve.proofs.Firsts.{found_has, is_own, is_visible}

none_passes : {X : Type 0} (p : X → Bool) (xs : List X) → list_any p xs ≡ false → All (λ x. p x ≡ false) xs
none_passes p [] e = All-nil (λ x. p x ≡ false)
none_passes p (x ∷ xs) e = elim (cases_Bool (p x)) [
  | inl passes ↦ absurd (cc (rw passes at e))
  | inr fails ↦ All-cons (λ x. p x ≡ false) x xs fails (none_passes p xs (rw fails at e))
]

no_type : (k : DeclKind) → is_holder k ≡ false → is_type needs.MessageOrEnum k ≡ false
no_type Message e = absurd (cc (e))
no_type EnumDef e = absurd (cc (e))
no_type Service e = absurd (cc (e))
no_type Rpc e = refl
no_type Oneof e = refl
no_type Field e = refl
no_type Extension e = refl
no_type Value e = refl

-- the first of declarations has what all of them have
first_has : (P : DeclRef → Type 0) (f : ℕ) (view : List ℕ) (rs : List DeclRef) (r : DeclRef) → All P rs → first_declared f view rs ≡ Some r → P r
first_has P f view rs r all e = by_own (find (is_own f) rs) (λ s own. found_has (is_own f) P rs s all own) e
  where
    by_own : (own : Option DeclRef) → ((s : DeclRef) → own ≡ Some s → P s) → option_or own (find (is_visible view) rs) ≡ Some r → P r
    by_own None known e' = found_has (is_visible view) P rs r all e'
    by_own (Some s) known e' = known r e'

no_kind : (files : List NamedFacts) (name : List ℕ) (has : Bool) (first : Option DeclRef) → ((r : DeclRef) → first ≡ Some r → is_holder (let d = decl_at files r in d.kind) ≡ false)
    → has_kind files (is_type needs.MessageOrEnum) (option_or (option_map Declared first) (if has then Some (Package name) else None)) ≡ false
no_kind files name true None known = refl
no_kind files name false None known = refl
no_kind files name has (Some r) known = no_type (let d = decl_at files r in d.kind) (known r refl)

-- a name of one component isn't settled where nothing of the name is declared that could
pub unsettled : (files : List NamedFacts) (f : ℕ) (view : List ℕ) (site : NameSite) (s : List ℕ) → length (texts_of site) ≡ 1 → is_held files (joined s (first_text site)) ≡ false
    → settles_at files f view site s ≡ false
unsettled files f view site s one none =
    let name = joined s (first_text site) in
    let each = none_passes (λ r. is_holder (let d = decl_at files r in d.kind)) (all_named files name) none in
    rw one (no_kind files name (list_any (has_package files name) view) (first_declared f view (all_named files name))
    (λ r first. first_has (λ r. is_holder (let d = decl_at files r in d.kind) ≡ false) f view (all_named files name) r each first))

both_fail : (files : List NamedFacts) (name : List ℕ) (is_alone : Bool) (first : Option DeclRef) → ((r : DeclRef) → first ≡ Some r → is_holder (let d = decl_at files r in d.kind) ≡ false)
    → settles files is_alone (option_or (option_map Declared first) (if false then Some (Package name) else None)) ≡ false
both_fail files name true None known = refl
both_fail files name false None known = refl
both_fail files name true (Some r) known = no_type (let d = decl_at files r in d.kind) (known r refl)
both_fail files name false (Some r) known = known r refl

-- no name is settled where there is no such declaration and no package either
pub unsettled_whole : (files : List NamedFacts) (f : ℕ) (view : List ℕ) (site : NameSite) (s : List ℕ) → is_held files (joined s (first_text site)) ≡ false
    → list_any (has_package files (joined s (first_text site))) view ≡ false → settles_at files f view site s ≡ false
unsettled_whole files f view site s none none' =
    let name = joined s (first_text site) in
    let each = none_passes (λ r. is_holder (let d = decl_at files r in d.kind)) (all_named files name) none in
    rw none' (both_fail files name (length (texts_of site) == 1) (first_declared f view (all_named files name))
    (λ r first. first_has (λ r. is_holder (let d = decl_at files r in d.kind) ≡ false) f view (all_named files name) r each first))

module _ {X : Type 0} (p : X → Bool) (xs : List X) (d : X) where
  pub passes_one : (number : ℕ) → number < length xs → p (get_or xs number d) ≡ false → find p (drop number xs) ≡ find p (drop (number + 1) xs)
  passes_one number lt fails = rw (drop_more xs number d lt, fails) refl

  pub found_at : (number : ℕ) → number < length xs → p (get_or xs number d) ≡ true → find p (drop number xs) ≡ Some (get_or xs number d)
  found_at number lt holds = rw (drop_more xs number d lt, holds) refl

  by_gap : (gap number : ℕ) → number + gap ≤ length xs → ((j : ℕ) → number ≤ j → j < number + gap → p (get_or xs j d) ≡ false)
      → find p (drop number xs) ≡ find p (drop (number + gap) xs)
  by_gap zero number le none = ap (λ k. find p (drop k xs)) (omega arith)
  by_gap (suc gap) number le none =
      let first = passes_one number (omega (arith, le)) (none number (omega arith) (omega arith)) in
      let rest = by_gap gap (number + 1) (omega (arith, le)) (λ j low high. none j (omega (arith, low)) (omega (arith, high))) in
      let same : number + 1 + gap ≡ number + suc gap = omega arith in
      first ∙ rest ∙ ap (λ k. find p (drop k xs)) same

  -- those between two places don't pass
  pub passes_over : (number next : ℕ) → number ≤ next → next ≤ length xs → ((j : ℕ) → number ≤ j → j < next → p (get_or xs j d) ≡ false)
      → find p (drop number xs) ≡ find p (drop next xs)
  passes_over number next up le none =
      let same : number + (next - number) ≡ next = omega (arith, up) in
      by_gap (next - number) number (omega (arith, up, le)) (λ j low high. none j low (omega (arith, high, up))) ∙ ap (λ k. find p (drop k xs)) same

  pub none_ahead : (number : ℕ) → number ≤ length xs → ((j : ℕ) → number ≤ j → j < length xs → p (get_or xs j d) ≡ false) → find p (drop number xs) ≡ None
  none_ahead number le none = passes_over number (length xs) le (omega arith) none ∙ ap (find p) (drop_all (length xs) xs (omega arith))
