-- The names of the packages of a text stand in its tokens.
use Rattle.std.proofs.Common.{◌≡◌, ℕ, List, [], ◌++◌}
use Rattle.proto_tree.specs.declared.lexeme.Lexeme.{Lexeme}
use Rattle.proto_tree.specs.declared.lexeme.Body.{Body}
use Rattle.proto_tree.specs.declared.node.Header.TheVariants as header
use Rattle.proto_tree.specs.declared.node.Node.{Node, roll-Node, map-Node}
use Rattle.proto_tree.specs.declared.node.Node.TheVariants as node
use Rattle.proto_tree.specs.declared.node.Node.TheOpen.{Node-F}
use Rattle.proto_tree.specs.declared.node.Span.{Span}
use Rattle.proto_tree.specs.Grammar.{IsIdent, is_syntax, is_import, is_package, is_option, is_field, is_map_field, is_value, is_reserved_in_message, is_reserved_in_enum, is_rpc, is_empty}
use Rattle.proto_tree.specs.Names.{package_components_step, package_components_of, package_components_in}
use Rattle.proto_tree.specs.Read.{body_tree}
use Rattle.proto_laws.proofs.Spelled.{Spell, spell-behind, spell-before, full-spelled}
use Rattle.proto_laws.proofs.TreeSpells.{StatementsSpell, BlocksSpell, by_level, body-spells}

at_level : (ts : List Lexeme) (y : Node-F Node) (n : Node) → roll-Node y ≡ n → Spell IsIdent ts (package_components_step (map-Node Node (List Span) package_components_of y)) → Spell IsIdent ts (package_components_of n)
at_level = by_level IsIdent package_components_step

statement-packages : StatementsSpell IsIdent package_components_of
statement-packages body first span n ts (is_syntax {value = value} h) = at_level ts _ _ (node.rolls-Syntax span value) tt
statement-packages body first span n ts (is_import {is_public = is_public} {path = path} h) = at_level ts _ _ (node.rolls-Import span is_public path) tt
statement-packages body first span n ts (is_package {name = name} {components = components} h) =
    at_level ts _ _ (node.rolls-Package span name components)
    (spell-behind IsIdent components (spell-before IsIdent components (λ front full. full-spelled components front full.0)) ts h)
statement-packages body first span n ts (is_option {name = name} {value = value} fits h) = at_level ts _ _ (node.rolls-OptionDef span name value) tt
statement-packages body first span n ts (is_field {f = f} fits whole h) = at_level ts _ _ (node.rolls-Field f) tt
statement-packages body first span n ts (is_map_field {f = f} fits whole h) = at_level ts _ _ (node.rolls-MapField f) tt
statement-packages body first span n ts (is_value {name = name} {n = number} fits h) = at_level ts _ _ (node.rolls-Value span name number) tt
statement-packages body first span n ts (is_reserved_in_message {list = list} h) = at_level ts _ _ (node.rolls-Reserved span list) tt
statement-packages body first span n ts (is_reserved_in_enum {list = list} h) = at_level ts _ _ (node.rolls-Reserved span list) tt
statement-packages body first span n ts (is_rpc {name = name} {request = request} {response = response} h) = at_level ts _ _ (node.rolls-Rpc span name request response []) tt
statement-packages body first span n ts (is_empty h) = at_level ts _ _ (node.rolls-Empty span) tt

block-packages : BlocksSpell IsIdent package_components_of
block-packages span (header.Message name) nodes front back h q = at_level (front ++ back) _ _ (node.rolls-Message span name nodes) tt
block-packages span (header.Enum name) nodes front back h q = at_level (front ++ back) _ _ (node.rolls-EnumDef span name nodes) tt
block-packages span (header.Service name) nodes front back h q = at_level (front ++ back) _ _ (node.rolls-Service span name nodes) tt
block-packages span (header.Oneof name) nodes front back h q = at_level (front ++ back) _ _ (node.rolls-Oneof span name nodes) tt
block-packages span (header.Extend target) nodes front back h q = at_level (front ++ back) _ _ (node.rolls-Extend span target nodes) tt
block-packages span (header.Group name) nodes front back h q = at_level (front ++ back) _ _ (node.rolls-Message span name nodes) tt
block-packages span (header.Rpc name request response) nodes front back h q = at_level (front ++ back) _ _ (node.rolls-Rpc span name request response nodes) tt

pub packages-spelled : (limit : ℕ) (body : Body) (ts : List Lexeme) → Spell IsIdent ts (package_components_in (body_tree limit body ts).nodes)
packages-spelled = body-spells IsIdent package_components_of statement-packages block-packages
