-- The names that the statements of a text declare, and the type names in them, stand in the order of its tokens.
use Rattle.std.proofs.Common.{◌≡◌, ℕ, ◌+◌, Bool, true, false, List, [], ◌∷◌, ◌++◌, length, map, arith, cond}
use Rattle.std.specs.Prelude.{not, filter}
use Rattle.std.specs.List.Sorted.{IsStrictlyIncreasing}
use Rattle.proto_lex.specs.declared.token.Token.{Token}
use Rattle.proto_lex.specs.Laws.{IsOrderedFrom}
use Rattle.proto_tree.specs.declared.lexeme.Lexeme.{Lexeme}
use Rattle.proto_tree.specs.declared.lexeme.Body.{Body}
use Rattle.proto_tree.specs.declared.lexeme.Body.TheVariants as b
use Rattle.proto_tree.specs.declared.node.Header.TheVariants as header
use Rattle.proto_tree.specs.declared.node.Node.{Node, roll-Node, map-Node}
use Rattle.proto_tree.specs.declared.node.Node.TheVariants as node
use Rattle.proto_tree.specs.declared.node.Node.TheOpen.{Node-F}
use Rattle.proto_tree.specs.declared.node.Span.{Span}
use Rattle.proto_tree.specs.declared.node.TypeName.{TypeName}
use Rattle.proto_tree.specs.Lexeme.{lexemes, lexeme_of, is_bad}
use Rattle.proto_tree.specs.Grammar.{◌⊳◌, IsIdent, IsType, IsInParentheses, IsHeader, is_syntax, is_import, is_package, is_option, is_field, is_map_field, is_value, is_reserved_in_message, is_reserved_in_enum, is_rpc, is_empty}
use Rattle.proto_tree.specs.Names.{names_step, names_of, names_in, type_names_step, type_names_of, type_names_in, type_components_in}
use Rattle.proto_tree.specs.Read.{max_blocks, body_tree, tree_of}
use Rattle.proto_laws.proofs.Rise.{Rise, rise-sooner, increasing-from_rise}
use Rattle.proto_laws.proofs.Spelled.{Spell, spell-one, spell-later, spell-joined, spell-sooner, spell-behind, spell-before, spell-turn, spell-parts, type-spelled, start_of, spelled-rise, ident-begins, type-begins}
use Rattle.proto_laws.proofs.TreeSpells.{StatementsSpell, BlocksSpell, by_level, body-spells}

-- ---- declared names

at_level : (ts : List Lexeme) (y : Node-F Node) (n : Node) → roll-Node y ≡ n → Spell IsIdent ts (names_step (map-Node Node (List Span) names_of y)) → Spell IsIdent ts (names_of n)
at_level = by_level IsIdent names_step

-- the name is the first form, or stands in the second
named : {Q : List Lexeme → Type 0} (name : Span) (ts : List Lexeme) → (IsIdent name ⊳ Q) ts → Spell IsIdent ts (name ∷ [])
named name ts h = spell-before IsIdent (name ∷ []) (spell-one IsIdent name) ts h

behind : {P Q : List Lexeme → Type 0} (name : Span) → ((rest : List Lexeme) → Q rest → Spell IsIdent rest (name ∷ [])) → (ts : List Lexeme) → (P ⊳ Q) ts → Spell IsIdent ts (name ∷ [])
behind name q ts h = spell-behind IsIdent (name ∷ []) q ts h

statement-names : StatementsSpell IsIdent names_of
statement-names body first span n ts (is_syntax {value = value} h) = at_level ts _ _ (node.rolls-Syntax span value) tt
statement-names body first span n ts (is_import {is_public = is_public} {path = path} h) = at_level ts _ _ (node.rolls-Import span is_public path) tt
statement-names body first span n ts (is_package {name = name} {components = components} h) = at_level ts _ _ (node.rolls-Package span name components) tt
statement-names body first span n ts (is_option {name = name} {value = value} fits h) = at_level ts _ _ (node.rolls-OptionDef span name value) tt
statement-names body first span n ts (is_field {f = f} fits whole h) =
    at_level ts _ _ (node.rolls-Field f) (behind f.name (λ rest p. behind f.name (named f.name) rest p.1) ts h)
statement-names body first span n ts (is_map_field {f = f} fits whole h) =
    let its = f.name in
    let found = behind its (behind its (behind its (behind its (behind its (behind its (named its)))))) in
    at_level ts _ _ (node.rolls-MapField f) (behind its (λ rest p. found rest p.1) ts h)
statement-names body first span n ts (is_value {name = name} {n = number} fits h) = at_level ts _ _ (node.rolls-Value span name number) (named name ts h)
statement-names body first span n ts (is_reserved_in_message {list = list} h) = at_level ts _ _ (node.rolls-Reserved span list) tt
statement-names body first span n ts (is_reserved_in_enum {list = list} h) = at_level ts _ _ (node.rolls-Reserved span list) tt
statement-names body first span n ts (is_rpc {name = name} {request = request} {response = response} h) =
    at_level ts _ _ (node.rolls-Rpc span name request response []) (spell-before IsIdent (name ∷ []) (behind name (named name)) ts h)
statement-names body first span n ts (is_empty h) = at_level ts _ _ (node.rolls-Empty span) tt

-- the name in a header, if any, and those of the block's body behind it
block-names : BlocksSpell IsIdent names_of
block-names span (header.Message name) nodes front back h q =
    at_level (front ++ back) _ _ (node.rolls-Message span name nodes) (spell-joined IsIdent front back (name ∷ []) (names_in nodes) (behind name (spell-one IsIdent name) front h) q)
block-names span (header.Enum name) nodes front back h q =
    at_level (front ++ back) _ _ (node.rolls-EnumDef span name nodes) (spell-joined IsIdent front back (name ∷ []) (names_in nodes) (behind name (spell-one IsIdent name) front h) q)
block-names span (header.Service name) nodes front back h q =
    at_level (front ++ back) _ _ (node.rolls-Service span name nodes) (spell-joined IsIdent front back (name ∷ []) (names_in nodes) (behind name (spell-one IsIdent name) front h) q)
block-names span (header.Oneof name) nodes front back h q =
    at_level (front ++ back) _ _ (node.rolls-Oneof span name nodes) (spell-joined IsIdent front back (name ∷ []) (names_in nodes) (behind name (spell-one IsIdent name) front h) q)
block-names span (header.Extend target) nodes front back h q =
    at_level (front ++ back) _ _ (node.rolls-Extend span target nodes) (spell-later IsIdent front back (names_in nodes) q)
block-names span (header.Group name) nodes front back h q =
    at_level (front ++ back) _ _ (node.rolls-Message span name nodes) (spell-joined IsIdent front back (name ∷ []) (names_in nodes) (behind name (named name) front h) q)
block-names span (header.Rpc name request response) nodes front back h q =
    at_level (front ++ back) _ _ (node.rolls-Rpc span name request response nodes) (spell-sooner IsIdent front back (name ∷ []) (behind name (named name) front h))

pub names-spelled : (limit : ℕ) (body : Body) (ts : List Lexeme) → Spell IsIdent ts (names_in (body_tree limit body ts).nodes)
names-spelled = body-spells IsIdent names_of statement-names block-names

-- ---- type names

type_level : (ts : List Lexeme) (y : Node-F Node) (n : Node) → roll-Node y ≡ n → Spell IsType ts (type_names_step (map-Node Node (List TypeName) type_names_of y)) → Spell IsType ts (type_names_of n)
type_level = by_level IsType type_names_step

type_behind : {P Q : List Lexeme → Type 0} (its : TypeName) → ((rest : List Lexeme) → Q rest → Spell IsType rest (its ∷ [])) → (ts : List Lexeme) → (P ⊳ Q) ts → Spell IsType ts (its ∷ [])
type_behind its q ts h = spell-behind IsType (its ∷ []) q ts h

type_first : {Q : List Lexeme → Type 0} (its : TypeName) (ts : List Lexeme) → (IsType its ⊳ Q) ts → Spell IsType ts (its ∷ [])
type_first its ts h = spell-before IsType (its ∷ []) (spell-one IsType its) ts h

in_parentheses : (its : TypeName) (ts : List Lexeme) → IsInParentheses its ts → Spell IsType ts (its ∷ [])
in_parentheses its ts h = type_behind its (λ inside p. type_behind its (type_first its) inside p) ts h

-- the types of an rpc
rpc-types : (name : Span) (request response : TypeName) (ts : List Lexeme) → IsHeader (header.Rpc name request response) ts → Spell IsType ts (request ∷ response ∷ [])
rpc-types name request response ts h =
    let both = request ∷ response ∷ [] in
    let types = spell-turn IsType (request ∷ []) (response ∷ []) (in_parentheses request) (type_behind response (in_parentheses response)) in
    spell-behind IsType both (spell-behind IsType both types) ts h

statement-types : StatementsSpell IsType type_names_of
statement-types body first span n ts (is_syntax {value = value} h) = type_level ts _ _ (node.rolls-Syntax span value) tt
statement-types body first span n ts (is_import {is_public = is_public} {path = path} h) = type_level ts _ _ (node.rolls-Import span is_public path) tt
statement-types body first span n ts (is_package {name = name} {components = components} h) = type_level ts _ _ (node.rolls-Package span name components) tt
statement-types body first span n ts (is_option {name = name} {value = value} fits h) = type_level ts _ _ (node.rolls-OptionDef span name value) tt
statement-types body first span n ts (is_field {f = f} fits whole h) =
    type_level ts _ _ (node.rolls-Field f) (type_behind f.type_name (λ rest p. type_first f.type_name rest p.1) ts h)
statement-types body first span n ts (is_map_field {f = f} fits whole h) =
    let its = f.value in
    let found = type_behind its (type_behind its (type_behind its (type_behind its (type_first its)))) in
    type_level ts _ _ (node.rolls-MapField f) (type_behind its (λ rest p. found rest p.1) ts h)
statement-types body first span n ts (is_value {name = name} {n = number} fits h) = type_level ts _ _ (node.rolls-Value span name number) tt
statement-types body first span n ts (is_reserved_in_message {list = list} h) = type_level ts _ _ (node.rolls-Reserved span list) tt
statement-types body first span n ts (is_reserved_in_enum {list = list} h) = type_level ts _ _ (node.rolls-Reserved span list) tt
statement-types body first span n ts (is_rpc {name = name} {request = request} {response = response} h) =
    type_level ts _ _ (node.rolls-Rpc span name request response []) (spell-before IsType (request ∷ response ∷ []) (rpc-types name request response) ts h)
statement-types body first span n ts (is_empty h) = type_level ts _ _ (node.rolls-Empty span) tt

-- the types in a header, if any, and those of the block's body behind them
block-types : BlocksSpell IsType type_names_of
block-types span (header.Message name) nodes front back h q = type_level (front ++ back) _ _ (node.rolls-Message span name nodes) (spell-later IsType front back (type_names_in nodes) q)
block-types span (header.Enum name) nodes front back h q = type_level (front ++ back) _ _ (node.rolls-EnumDef span name nodes) (spell-later IsType front back (type_names_in nodes) q)
block-types span (header.Service name) nodes front back h q = type_level (front ++ back) _ _ (node.rolls-Service span name nodes) (spell-later IsType front back (type_names_in nodes) q)
block-types span (header.Oneof name) nodes front back h q = type_level (front ++ back) _ _ (node.rolls-Oneof span name nodes) (spell-later IsType front back (type_names_in nodes) q)
block-types span (header.Extend target) nodes front back h q =
    type_level (front ++ back) _ _ (node.rolls-Extend span target nodes) (spell-joined IsType front back (target ∷ []) (type_names_in nodes) (type_behind target (spell-one IsType target) front h) q)
block-types span (header.Group name) nodes front back h q = type_level (front ++ back) _ _ (node.rolls-Message span name nodes) (spell-later IsType front back (type_names_in nodes) q)
block-types span (header.Rpc name request response) nodes front back h q =
    type_level (front ++ back) _ _ (node.rolls-Rpc span name request response nodes) (spell-sooner IsType front back (request ∷ response ∷ []) (rpc-types name request response front h))

pub types-spelled : (limit : ℕ) (body : Body) (ts : List Lexeme) → Spell IsType ts (type_names_in (body_tree limit body ts).nodes)
types-spelled = body-spells IsType type_names_of statement-types block-types

-- and their components
pub components-spelled : (limit : ℕ) (body : Body) (ts : List Lexeme) → Spell IsIdent ts (type_components_in (body_tree limit body ts).nodes)
components-spelled limit body ts = spell-parts IsType IsIdent (λ t. t.components) type-spelled ts (type_names_in (body_tree limit body ts).nodes) (types-spelled limit body ts)

-- ---- texts

-- tokens in order, the bad ones left out
pub lexemes-rise : (text : List ℕ) (limit at : ℕ) (ts : List Token) → IsOrderedFrom limit at ts → Rise start_of at (lexemes text ts)
lexemes-rise text limit at [] h = tt
lexemes-rise text limit at (t ∷ ts) h = by (is_bad t.kind) (lexemes-rise text limit t.«end» ts h.2)
  where
    by : (b : Bool) → Rise start_of t.«end» (lexemes text ts) → Rise start_of at (map (lexeme_of text) (cond {A = List Token} (not b) (t ∷ filter (λ t. not (is_bad t.kind)) ts) (filter (λ t. not (is_bad t.kind)) ts)))
    by true behind = rise-sooner start_of at t.«end» (lexemes text ts) (omega (arith, h.0, h.1)) behind
    by false behind = (h.0, rise-sooner start_of (t.start + 1) t.«end» (lexemes text ts) (omega (arith, h.1)) behind)

module _ (text : List ℕ) (ts : List Token) (at : ℕ) (ordered : IsOrderedFrom (length text) at ts) where
  abbrev its : List Lexeme
  its = lexemes text ts

  up : Rise start_of at its
  up = lexemes-rise text (length text) at ts ordered

  pub names-rise : IsStrictlyIncreasing (map (λ s. s.start) (names_in (tree_of text ts).nodes))
  unfolding tree_of
  names-rise = increasing-from_rise (λ s. s.start) at _ (spelled-rise IsIdent (λ s. s.start) ident-begins at its _ up (names-spelled max_blocks b.File its))

  pub type_names-rise : IsStrictlyIncreasing (map (λ t. t.span.start) (type_names_in (tree_of text ts).nodes))
  unfolding tree_of
  type_names-rise = increasing-from_rise (λ t. t.span.start) at _ (spelled-rise IsType (λ t. t.span.start) type-begins at its _ up (types-spelled max_blocks b.File its))

  pub components-rise : IsStrictlyIncreasing (map (λ s. s.start) (type_components_in (tree_of text ts).nodes))
  unfolding tree_of
  components-rise = increasing-from_rise (λ s. s.start) at _ (spelled-rise IsIdent (λ s. s.start) ident-begins at its _ up (components-spelled max_blocks b.File its))
