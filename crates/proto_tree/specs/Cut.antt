-- How a list of tokens is cut into items.
use Rattle.std.specs.Prelude.{◌≡◌, Bool, true, false, not, ◌||◌, ◌&&◌, ◌==◌, IsTrue, List, [], ◌∷◌, ◌++◌, count_by, if◌then◌else◌}
use Rattle.proto_tree.specs.declared.lexeme.Lexeme.{Lexeme}
use Rattle.proto_tree.specs.declared.lexeme.Body.{Body}
use Rattle.proto_tree.specs.declared.lexeme.Body.TheVariants as b
use Rattle.proto_tree.specs.declared.lexeme.Terminal.{Terminal}
use Rattle.proto_tree.specs.declared.lexeme.Terminal.TheVariants as w
use Rattle.proto_tree.specs.Lexeme.{is, is_block_word, is_plain}

-- The braces of an item so far are in pairs. Equal counts mean depth 0 here, since no item holds a `}` that closes
-- nothing: in the file such a brace ends the item before it and is an item of its own, and between the braces of a
-- block there is none, as the block's item ends with the first `}` that returns to depth 0.
abbrev pub is_at_depth_0 : List Lexeme → Bool
is_at_depth_0 ts = count_by (is w.OpenBrace) ts == count_by (is w.CloseBrace) ts

-- the first token is this terminal
abbrev pub begins : Terminal → List Lexeme → Bool
begins terminal [] = false
begins terminal (t ∷ ts) = is terminal t

-- the last token is this terminal
abbrev pub ends_in : Terminal → List Lexeme → Bool
ends_in terminal [] = false
ends_in terminal (t ∷ []) = is terminal t
ends_in terminal (t ∷ u ∷ ts) = ends_in terminal (u ∷ ts)

abbrev pub is_file : Body → Bool
is_file b.File = true
is_file _ = false

-- in an enum there are no block words
abbrev pub has_block_words : Body → Bool
has_block_words b.Enum = false
has_block_words _ = true

-- the first token is a block terminal, in a body that has them
abbrev pub begins_block : Body → List Lexeme → Bool
begins_block body [] = false
begins_block body (t ∷ ts) = has_block_words body && is_block_word t.terminal

-- a statement ends with a `;` at depth 0, and a block with the `}` that returns to depth 0
abbrev pub is_finished : Body → List Lexeme → Bool
is_finished body item = is_at_depth_0 item && (ends_in w.Semicolon item || (begins_block body item && ends_in w.CloseBrace item))

-- at the top a `}` that closes nothing is an item of its own
abbrev pub is_stray : Body → List Lexeme → Bool
is_stray body (t ∷ []) = is_file body && is w.CloseBrace t
is_stray body _ = false

-- the body ends, or at the top a `}` that closes nothing follows
abbrev pub is_cut_off : Body → List Lexeme → List Lexeme → Bool
is_cut_off body item [] = true
is_cut_off body item (t ∷ rest) = is_file body && is w.CloseBrace t && is_at_depth_0 item

-- whether an item that has come so far ends here, with the rest of the body behind it
abbrev pub ends : Body → List Lexeme → List Lexeme → Bool
ends body item rest = is_finished body item || is_stray body item || is_cut_off body item rest

-- The first token is neither a `;` nor a brace, and one follows that is no closing brace: whatever came before, no item
-- ends between the two.
abbrev pub is_quiet : List Lexeme → Bool
is_quiet (t ∷ u ∷ ts) = is_plain t.terminal && not (is w.CloseBrace u)
is_quiet _ = false

-- The items of a body: each grows token by token up to the first place at which it ends.
unfoldable pub items_from : Body → List Lexeme → List Lexeme → List (List Lexeme)
items_from body item [] = []
items_from body item (t ∷ rest) =
    if ends body (item ++ t ∷ []) rest then (item ++ t ∷ []) ∷ items_from body [] rest else items_from body (item ++ t ∷ []) rest

-- the items of a body
abbrev pub items : Body → List Lexeme → List (List Lexeme)
items body ts = items_from body [] ts

-- ---- the same, said of whole lists

-- the item ends where the rest begins, and no shorter front of it ends
pub record IsFirstItem (body : Body) (item rest : List Lexeme) : Type 0 where
  pub some : ¬ (item ≡ [])
  pub ends_here : IsTrue (ends body item rest)
  pub no_sooner : (front : List Lexeme) (t u : Lexeme) (more : List Lexeme) → item ≡ (front ++ t ∷ []) ++ u ∷ more → ¬ IsTrue (ends body (front ++ t ∷ []) (u ∷ more ++ rest))

-- the body is its items joined, each up to the least place at which it ends
abbrev pub AreItems : Body → List Lexeme → List (List Lexeme) → Type 0
AreItems body ts [] = ts ≡ []
AreItems body ts (item ∷ more) = (rest : List Lexeme) × (ts ≡ item ++ rest) × IsFirstItem body item rest × AreItems body rest more
