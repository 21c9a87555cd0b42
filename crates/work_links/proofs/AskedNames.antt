-- What is kept of the names for which a file asks.
use Rattle.std.proofs.Common.{◌≡◌, ◌∙◌, sym, ap, refl, ℕ, List, [], ◌∷◌, ◌++◌, ◌==◌, ◌||◌, Bool, true, false, drop, map, nat_eq, Result, Ok, Err, OnOk, if◌then◌else◌, inl, inr, arith, append_assoc}
use Rattle.std.specs.List.{dedup, dedup_from, flat_map, list_all, list_any}
use Rattle.std.proofs.lemmas.Bool.{cases_Bool, cases_eq, and_parts, and_from, and_right, or_parts, or_right}
use Rattle.std.proofs.lemmas.Bool.Decides.{nat_tests}
use Rattle.std.proofs.lemmas.List.Concat.{flat_map-append}
use Rattle.std.proofs.lemmas.List.Folds.{list_all-append, list_any-append}
use Rattle.std.specs.List.Sorted.{IsPermutation}
use Rattle.std.proofs.lemmas.List.Sorted.{list_any-IsPermutation}
use Rattle.proto_tree.specs.declared.node.Field.{Field}
use Rattle.proto_tree.specs.declared.node.MapField.{MapField}
use Rattle.proto_tree.specs.declared.node.Node.{Node, roll-Node, map-Node}
use Rattle.proto_tree.specs.declared.node.Node.TheVariants as node
use Rattle.proto_tree.specs.declared.node.Node.TheOpen.{Node-F}
use Rattle.proto_tree.specs.declared.node.Node.TheFolds.{fold-roll-Node}
use Rattle.proto_tree.specs.declared.node.Span.{Span}
use Rattle.proto_tree.specs.declared.node.TypeName.{TypeName}
use Rattle.proto_decls.specs.declared.fact.Decl.{Decl}
use Rattle.proto_decls.specs.Text.{joined}
use Rattle.proto_resolve.specs.declared.site.Component.{Component}
use Rattle.proto_resolve.specs.declared.site.NameSite.{NameSite}
use Rattle.proto_resolve.specs.declared.site.Needs.TheVariants as needs
use Rattle.proto_decls.specs.FullNames.{has_dot, behind_dot}
use Rattle.proto_resolve.specs.Names.{joined_all, texts_of}
use Rattle.proto_resolve.specs.Sites.{Named, inner, names_in, names_of, names_step, site, type_names}
use Rattle.proto_resolve.specs.Uses.{prefixes}
use Rattle.work_links.specs.declared.asked.Asked.{Asked}
use Rattle.work_links.specs.declared.keys.NameKeys.{NameKeys}
use Rattle.work_links.specs.declared.touched.Touched.{Touched}
use Rattle.work_links.specs.Asked.{asked_by, asks_any, names_asked_in, has_all, may_ask, names_asked, scopes_asked}
use Rattle.work_links.specs.Keys.{key, last_key}
use Rattle.work_links.specs.Touched.{are_keys_of, is_touched}

-- ---- keys

dot_inside : (b p : List ℕ) → has_dot (b ++ 46 ∷ p) ≡ true
dot_inside [] p = refl
dot_inside (x ∷ b) p = elim (cases_Bool (x == 46)) [
  | inl holds ↦ rw holds refl
  | inr fails ↦ rw fails (dot_inside b p)
]

behind_plain : (p : List ℕ) → has_dot p ≡ false → p ≡ behind_dot p
behind_plain [] plain = refl
behind_plain (c ∷ cs) plain = elim (cases_Bool (c == 46)) [
  | inl holds ↦ absurd (cc (rw holds at plain))
  | inr fails ↦ let rest = rw fails at plain in rw (rest, fails) refl
]

behind_append : (a p : List ℕ) → behind_dot (a ++ 46 ∷ p) ≡ behind_dot p
behind_append [] p = elim (cases_Bool (has_dot p)) [
  | inl holds ↦ rw holds refl
  | inr fails ↦ rw fails (behind_plain p fails)
]
behind_append (x ∷ a) p = rw (dot_inside a p) (behind_append a p)

pub behind_joined : (scope name : List ℕ) → behind_dot (joined scope name) ≡ behind_dot name
behind_joined [] name = refl
behind_joined (c ∷ scope) name = behind_append (c ∷ scope) name

-- ---- what may be asked for

-- what the first may ask for, the second may ask for
abbrev pub Grows : Asked → Asked → Type 0
Grows old new = (name : List ℕ) → may_ask old name ≡ true → may_ask new name ≡ true

-- the second has each key that the first has
abbrev pub HasKeys : List ℕ → List ℕ → Type 0
HasKeys old new = (key : ℕ) → list_any (λ k. k == key) old ≡ true → list_any (λ k. k == key) new ≡ true

pub has_keys-all : (keys : List ℕ) → HasKeys keys keys
has_keys-all keys key has = has

pub has_keys-append : (old new more : List ℕ) → new ≡ old ++ more → HasKeys old new
has_keys-append old new more is key has = rw (is, list_any-append (λ k. k == key) old more, has) refl

any-dedup_from : (test : ℕ → Bool) (keys : List ℕ) (last : ℕ) → list_any test (dedup_from nat_eq last keys) ≡ (test last || list_any test keys)
any-dedup_from test [] last = refl
any-dedup_from test (k ∷ ks) last = elim (cases_eq k last) [
  | inl equal ↦
      let same : nat_eq k last ≡ true = grind (arith, nat_tests) in
      rw same (elim (cases_Bool (test last)) [
        | inl holds ↦ rw (any-dedup_from test ks last, holds) refl
        | inr fails ↦ rw (any-dedup_from test ks last, equal, fails) refl
      ])
  | inr other ↦
      let same : nat_eq k last ≡ false = grind (arith, nat_tests) in
      rw (same, any-dedup_from test ks k) refl
]

any-dedup : (test : ℕ → Bool) (keys : List ℕ) → list_any test (dedup nat_eq keys) ≡ list_any test keys
any-dedup test [] = refl
any-dedup test (k ∷ ks) = any-dedup_from test ks k

-- of keys in another order, each but once where it repeats, none is lost
pub has_keys-dedup : (keys moved once : List ℕ) → IsPermutation keys moved → once ≡ dedup nat_eq moved → HasKeys keys once
has_keys-dedup keys moved once permutation is key has =
    rw (is, any-dedup (λ k. k == key) moved, ← list_any-IsPermutation (λ k. k == key) keys moved permutation) has

pub grows : (old new : Asked) → (old.all ≡ true → new.all ≡ true) → HasKeys old.uses.items new.uses.items → HasKeys old.declares.items new.declares.items → Grows old new
grows old new all uses declares name asks = elim (cases_Bool old.all) [
  | inl holds ↦ rw (all holds) refl
  | inr fails ↦ elim (cases_Bool (list_any (λ k. k == last_key name) old.uses.items)) [
    | inl used ↦ rw (uses (last_key name) used) (or_right new.all true refl)
    | inr unused ↦
        let own : list_any (λ k. k == key name) old.declares.items ≡ true = rw (fails, unused) at asks in
        rw (declares (key name) own, or_right (list_any (λ k. k == last_key name) new.uses.items) true refl) (or_right new.all true refl)
  ]
]

pub has_all-grows : (old new : Asked) (names : List (List ℕ)) → Grows old new → has_all old names ≡ true → has_all new names ≡ true
has_all-grows old new [] more all = refl
has_all-grows old new (n ∷ ns) more all =
    let both = and_parts (may_ask old n) (has_all old ns) all in
    and_from (may_ask new n) (has_all new ns) (more n both.0) (has_all-grows old new ns more both.1)

-- what may ask for any name has all
pub has_all-any : (asked : Asked) (names : List (List ℕ)) → asked.all ≡ true → has_all asked names ≡ true
has_all-any asked [] all = refl
has_all-any asked (n ∷ ns) all = and_from (may_ask asked n) (has_all asked ns) (rw all refl) (has_all-any asked ns all)

key-at : (before after : List ℕ) (key : ℕ) → list_any (λ k. k == key) (before ++ key ∷ after) ≡ true
key-at before after key =
    let same : (key == key) ≡ true = grind (arith, nat_tests) in
    let here : list_any (λ k. k == key) (key ∷ after) ≡ true = rw same refl in
    rw (list_any-append (λ k. k == key) before (key ∷ after), here) (or_right (list_any (λ k. k == key) before) true refl)

-- it has the names of the keys that it has
pub has_all-declares : (asked : Asked) (before : List ℕ) (names : List (List ℕ)) → asked.declares.items ≡ before ++ map key names → has_all asked names ≡ true
has_all-declares asked before [] keys = refl
has_all-declares asked before (n ∷ ns) keys =
    let found : list_any (λ k. k == key n) asked.declares.items ≡ true = rw keys (key-at before (map key ns) (key n)) in
    and_from (may_ask asked n) (has_all asked ns) (rw (found, or_right (list_any (λ k. k == last_key n) asked.uses.items) true refl) (or_right asked.all true refl))
    (has_all-declares asked (before ++ key n ∷ []) ns (keys ∙ sym (append_assoc before (key n ∷ []) (map key ns))))

-- whether a name may be asked for by its last component
abbrev pub may_use : Asked → List ℕ → Bool
may_use asked name = asked.all || list_any (λ k. k == last_key name) asked.uses.items

abbrev pub uses_all : Asked → List (List ℕ) → Bool
uses_all asked names = list_all (may_use asked) names

pub uses_all-keys : (asked : Asked) (before : List ℕ) (names : List (List ℕ)) → asked.uses.items ≡ before ++ map last_key names → uses_all asked names ≡ true
uses_all-keys asked before [] keys = refl
uses_all-keys asked before (n ∷ ns) keys =
    let found : list_any (λ k. k == last_key n) asked.uses.items ≡ true = rw keys (key-at before (map last_key ns) (last_key n)) in
    and_from (may_use asked n) (uses_all asked ns) (rw found (or_right asked.all true refl))
    (uses_all-keys asked (before ++ last_key n ∷ []) ns (keys ∙ sym (append_assoc before (last_key n ∷ []) (map last_key ns))))

asks-used : (asked : Asked) (name : List ℕ) → may_use asked name ≡ true → may_ask asked name ≡ true
asks-used asked name uses = elim (cases_Bool asked.all) [
  | inl holds ↦ rw holds refl
  | inr fails ↦
      let used : list_any (λ k. k == last_key name) asked.uses.items ≡ true = rw fails at uses in
      rw used (or_right asked.all true refl)
]

-- a name is asked for as its last component is
uses_in : (asked : Asked) (scope name : List ℕ) → may_use asked name ≡ true → may_use asked (joined scope name) ≡ true
uses_in asked scope name uses = rw (behind_joined scope name) uses

asks_in : (asked : Asked) (scope name : List ℕ) → may_use asked name ≡ true → may_ask asked (joined scope name) ≡ true
asks_in asked scope name uses = asks-used asked (joined scope name) (uses_in asked scope name uses)

has_all-append : (asked : Asked) (a b : List (List ℕ)) → has_all asked a ≡ true → has_all asked b ≡ true → has_all asked (a ++ b) ≡ true
has_all-append asked a b first second = rw (list_all-append (may_ask asked) a b, first, second) refl

module _ (asked : Asked) where
  in_prefixes : (scope : List ℕ) (components : List Component) → uses_all asked (map (λ c. c.text) components) ≡ true
      → has_all asked (map (λ c. c.0) (prefixes scope components)) ≡ true
  in_prefixes scope [] all = refl
  in_prefixes scope (c ∷ cs) all =
      let both = and_parts (may_use asked c.text) (uses_all asked (map (λ c. c.text) cs)) all in
      and_from (may_ask asked (joined scope c.text)) (has_all asked (map (λ c. c.0) (prefixes (joined scope c.text) cs)))
      (asks_in asked scope c.text both.0) (in_prefixes (joined scope c.text) cs both.1)

  in_joined : (scope text : List ℕ) (texts : List (List ℕ)) → uses_all asked (text ∷ texts) ≡ true → may_ask asked (joined_all scope (text ∷ texts)) ≡ true
  in_joined scope text [] all = asks_in asked scope text (and_parts (may_use asked text) true all).0
  in_joined scope text (next ∷ texts) all =
      in_joined (joined scope text) next texts (and_parts (may_use asked text) (uses_all asked (next ∷ texts)) all).1

  in_scope : (site : NameSite) (components : List Component) → site.components ≡ components → (components ≡ [] → asked.all ≡ true) → uses_all asked (map (λ c. c.text) components) ≡ true
      → (scope : List ℕ) → has_all asked (names_asked_in site scope) ≡ true
  in_scope site [] is none all scope = has_all-any asked (names_asked_in site scope) (none refl)
  in_scope site (c ∷ cs) is none all scope =
      let first = (and_parts (may_use asked c.text) (uses_all asked (map (λ c. c.text) cs)) all).0 in
      rw is (and_from (may_ask asked (joined scope c.text)) _ (asks_in asked scope c.text first)
      (and_from (may_ask asked (joined_all scope (c.text ∷ map (λ c. c.text) cs))) _ (in_joined scope c.text (map (λ c. c.text) cs) all)
      (in_prefixes scope (c ∷ cs) all)))

  in_scopes : (site : NameSite) → ((scope : List ℕ) → has_all asked (names_asked_in site scope) ≡ true) → (scopes : List (List ℕ)) → has_all asked (flat_map (names_asked_in site) scopes) ≡ true
  in_scopes site all [] = refl
  in_scopes site all (s ∷ ss) = has_all-append asked (names_asked_in site s) (flat_map (names_asked_in site) ss) (all s) (in_scopes site all ss)

  -- it has the names for which a name asks if it has those of the components, and there is one
  pub has_all-asked_by : (site : NameSite) → (site.components ≡ [] → asked.all ≡ true) → uses_all asked (texts_of site) ≡ true → has_all asked (asked_by site) ≡ true
  has_all-asked_by site none all = in_scopes site (in_scope site site.components refl none all) (scopes_asked site)

-- the names of a statement and of those behind it
pub has_all-more : (asked : Asked) (text : List ℕ) (nodes : List Node) (node : Node) (i j : ℕ) (scopes : List (List ℕ)) → drop i nodes ≡ node ∷ drop j nodes
    → has_all asked (flat_map asked_by (names_of text node scopes)) ≡ true → has_all asked (flat_map asked_by (names_in text (drop j nodes) scopes)) ≡ true
    → has_all asked (flat_map asked_by (names_in text (drop i nodes) scopes)) ≡ true
has_all-more asked text nodes node i j scopes front first rest =
    rw (front, flat_map-append asked_by (names_of text node scopes) (names_in text (drop j nodes) scopes)) (has_all-append asked _ _ first rest)

-- the names of a file, if they are asked for, and those that it declares
pub has_all-names_asked : (asked : Asked) (are_asked : Bool) (sites : List NameSite) (decls : List Decl)
    → has_all asked (flat_map asked_by sites) ≡ true → has_all asked (map (λ d. d.full_name) decls) ≡ true
    → has_all asked (names_asked (if are_asked then sites else []) decls) ≡ true
has_all-names_asked asked true sites decls named declares = has_all-append asked (flat_map asked_by sites) (map (λ d. d.full_name) decls) named declares
has_all-names_asked asked false sites decls named declares = declares

-- ---- what isn't touched

-- whether it has one of the keys of a name
abbrev pub has_key : Asked → NameKeys → Bool
has_key asked name = list_any (λ k. k == name.last) asked.uses.items || list_any (λ k. k == name.whole) asked.declares.items

not_keys : (asked : Asked) (name : List ℕ) (keys : NameKeys) → has_key asked keys ≡ false → has_key asked (record { last = last_key name; whole = key name }) ≡ true → are_keys_of name keys ≡ false
not_keys asked name keys none some = elim (cases_eq keys.last (last_key name)) [
  | inl last ↦ elim (cases_eq keys.whole (key name)) [
    | inl whole ↦ absurd (cc (rw (last, whole) at none, some))
    | inr other ↦
        let fails : (keys.whole == key name) ≡ false = grind (arith, nat_tests) in
        and_right (keys.last == last_key name) (keys.whole == key name) fails
  ]
  | inr other ↦
      let fails : (keys.last == last_key name) ≡ false = grind (arith, nat_tests) in
      rw fails refl
]

no_keys : (asked : Asked) (name : List ℕ) (names : List NameKeys) → list_any (has_key asked) names ≡ false → has_key asked (record { last = last_key name; whole = key name }) ≡ true
    → list_any (are_keys_of name) names ≡ false
no_keys asked name [] none some = refl
no_keys asked name (n ∷ ns) none some =
    let neither = or_parts (has_key asked n) (list_any (has_key asked) ns) none in
    rw (not_keys asked name n neither.0 some) (no_keys asked name ns neither.1 some)

-- a name that may be asked for isn't touched if none of the touched is
pub none_touched : (asked : Asked) (touched : Touched) → asks_any asked touched.names.items ≡ false → (name : List ℕ) → may_ask asked name ≡ true → is_touched touched name ≡ false
none_touched asked touched none name asks =
    let neither = or_parts asked.all (list_any (has_key asked) touched.names.items) none in
    no_keys asked name touched.names.items neither.1 (rw neither.0 at asks)

-- ---- what is kept where a call succeeds

-- a name that may be left out, and one before others
module _ {A E : Type 0} where
  pub ok-inside : (result : Result A E) (asked : Asked) (is_left_out : Bool) (site : NameSite) → OnOk result (has_all asked (asked_by site) ≡ true)
      → OnOk result (has_all asked (flat_map asked_by (if is_left_out then [] else site ∷ [])) ≡ true)
  ok-inside (Ok x) asked true site all = refl
  ok-inside (Ok x) asked false site all = has_all-append asked (asked_by site) [] all refl
  ok-inside (Err e) asked is_left_out site all = tt

  pub ok-behind : (result : Result A E) (old new : Asked) (site : NameSite) (more : List NameSite) → has_all old (asked_by site) ≡ true
      → ((name : List ℕ) → may_ask old name ≡ true → OnOk result (may_ask new name ≡ true))
      → OnOk result (has_all new (flat_map asked_by more) ≡ true) → OnOk result (has_all new (flat_map asked_by (site ∷ more)) ≡ true)
  ok-behind (Ok x) old new site more first grows rest = has_all-append new (asked_by site) (flat_map asked_by more) (has_all-grows old new (asked_by site) grows first) rest
  ok-behind (Err e) old new site more first grows rest = tt

-- ---- the names of each statement

-- one level opened
opened : (text : List ℕ) (layer : Node-F Node) (node : Node) (scopes : List (List ℕ)) → roll-Node layer ≡ node
    → names_of text node scopes ≡ names_step text (map-Node Node Named (names_of text) layer) scopes
opened text layer node scopes same =
    ap (λ (n : Node). names_of text n scopes) (sym same) ∙ ap (λ (named : Named). named scopes) (fold-roll-Node Named (names_step text) layer)

module _ (text : List ℕ) (scopes : List (List ℕ)) (span : Span) where
  pub names-Message : (name : Span) (items : List Node) → names_of text (node.Message span name items) scopes ≡ names_in text items (inner text name scopes)
  names-Message name items = opened text (Node-F.Message span name items) _ scopes (node.rolls-Message span name items)

  pub names-Service : (name : Span) (items : List Node) → names_of text (node.Service span name items) scopes ≡ names_in text items (inner text name scopes)
  names-Service name items = opened text (Node-F.Service span name items) _ scopes (node.rolls-Service span name items)

  pub names-Oneof : (name : Span) (items : List Node) → names_of text (node.Oneof span name items) scopes ≡ names_in text items scopes
  names-Oneof name items = opened text (Node-F.Oneof span name items) _ scopes (node.rolls-Oneof span name items)

  pub names-Extend : (target : TypeName) (items : List Node) → names_of text (node.Extend span target items) scopes ≡ site text needs.Message target scopes ∷ names_in text items scopes
  names-Extend target items = opened text (Node-F.Extend span target items) _ scopes (node.rolls-Extend span target items)

  pub names-Rpc : (name : Span) (request response : TypeName) (items : List Node)
      → names_of text (node.Rpc span name request response items) scopes ≡ site text needs.Message request scopes ∷ site text needs.Message response scopes ∷ []
  names-Rpc name request response items = opened text (Node-F.Rpc span name request response items) _ scopes (node.rolls-Rpc span name request response items)

module _ (text : List ℕ) (scopes : List (List ℕ)) where
  pub names-Field : (field : Field) → names_of text (node.Field field) scopes ≡ type_names text field.type_name scopes
  names-Field field = opened text (Node-F.Field field) _ scopes (node.rolls-Field field)

  pub names-MapField : (field : MapField) → names_of text (node.MapField field) scopes ≡ type_names text field.value scopes
  names-MapField field = opened text (Node-F.MapField field) _ scopes (node.rolls-MapField field)
