-- Shares of the pieces of a workspace, and what is made of each.
use Rattle.std.specs.Prelude.{◌≡◌, ℕ, ◌+◌, ◌≤◌, Bool, List, [], ◌∷◌, map, length, Result, Ok, Some, true, slice_get, flat_map, ⊤, All}
use Rattle.std.specs.List.{enumerate_from}
use Rattle.std.specs.declared.alloc.AllocError.{AllocError}
use Rattle.piece_collector.specs.Views.{TextAt}
use Rattle.proto_decls.specs.declared.named_facts.NamedFacts.{NamedFacts}
use Rattle.work_shares.specs.declared.shares.Share.{Share}
use Rattle.work_shares.specs.declared.linked.LinkedShare.{LinkedShare}
use Rattle.work_index.specs.Pieces.{AreNumbersIn, workspace_of}
use Rattle.work_index.specs.Workspace.{Workspace, all_facts, resolution_of, diagnostics_of}

-- ---- the shares

-- the pieces of all shares, one share after the other
abbrev pub pieces_in : List Share → List TextAt
pieces_in shares = flat_map (λ s. s.pieces.items) shares

-- the links of all shares are kept, or those of none
abbrev pub AreKept : Bool → List Share → Type 0
AreKept keeps_links shares = All (λ s. s.keeps_links ≡ keeps_links) shares

-- the texts of all shares that aren't proto3 are read for what they declare, or those of none
abbrev pub AreRead : Bool → List Share → Type 0
AreRead reads_others shares = All (λ s. s.reads_others ≡ reads_others) shares

-- the first share begins at n, and each other one where the one before it ends
abbrev pub AreConsecutive : ℕ → List Share → Type 0
AreConsecutive n [] = ⊤
AreConsecutive n (s ∷ rest) = (s.first ≡ n) × AreConsecutive (n + length s.pieces.items) rest

-- each size is that of every later one, or one more
abbrev pub AreBalanced : List ℕ → Type 0
AreBalanced [] = ⊤
AreBalanced (a ∷ rest) = All (λ b. (b ≤ a) × (a ≤ b + 1)) rest × AreBalanced rest

-- the files of each share have numbers below `files`
abbrev pub ArePlacedIn : ℕ → List Share → Type 0
ArePlacedIn files shares = All (λ s. AreNumbersIn files s.first (length s.pieces.items)) shares

-- ---- what is made of them

-- the pieces of a share, as they were, what is wrong in each of them as files of the workspace, and their links, if these are kept
pub record IsLinkedIn (w : Workspace) (share : Share) (linked : LinkedShare) : Type 0 where
  pub pieces : linked.pieces.items ≡ share.pieces.items
  pub links : share.keeps_links ≡ true → linked.resolutions.links.items ≡ map (resolution_of w) (enumerate_from share.first (workspace_of share.reads_others share.pieces.items))
  pub diagnostics : linked.resolutions.diagnostics.items ≡ map (diagnostics_of w) (enumerate_from share.first (workspace_of share.reads_others share.pieces.items))

-- the same in the workspace of these files
abbrev pub IsLinkedBy : List NamedFacts → Share → LinkedShare → Type 0
IsLinkedBy files share linked = (w : Workspace) → files ≡ all_facts w → IsLinkedIn w share linked

-- each answer that isn't a refusal is the share at its place, linked
pub record AreLinkedBy (files : List NamedFacts) (shares : List Share) (answers : List (Result LinkedShare AllocError)) : Type 0 where
  pub len : length answers ≡ length shares
  pub each : (i : ℕ) (s : Share) (linked : LinkedShare) → slice_get shares i ≡ Some s → slice_get answers i ≡ Some (Ok linked) → IsLinkedBy files s linked

-- no answer is a refusal, and these are all of them, one after the other
pub record AreJoined (answers : List (Result LinkedShare AllocError)) (joined : LinkedShare) : Type 0 where
  pub parts : List LinkedShare
  pub none_refused : answers ≡ map Ok parts
  pub pieces : joined.pieces.items ≡ flat_map (λ part. part.pieces.items) parts
  pub links : joined.resolutions.links.items ≡ flat_map (λ part. part.resolutions.links.items) parts
  pub diagnostics : joined.resolutions.diagnostics.items ≡ flat_map (λ part. part.resolutions.diagnostics.items) parts
