-- Tables of stretches of a workspace, and the table of all its files.
use Rattle.std.specs.Prelude.{◌≡◌, ℕ, List, map, length, Result, Ok, Some, slice_get}
use Rattle.std.specs.declared.alloc.AllocError.{AllocError}
use Rattle.work_shares.specs.declared.indexed.IndexedShare.{IndexedShare}
use Rattle.work_shares.specs.declared.indexed.IndexedShares.{IndexedShares}
use Rattle.work_shares.specs.declared.shares.Share.{Share}
use Rattle.work_index.specs.Pieces.{workspace_of}
use Rattle.work_shares.specs.Stretches.{PartData}
use Rattle.work_index.specs.Workspace.{all_facts}

-- the stretch of a share
abbrev pub part_of : Share → PartData
part_of share = record { first = share.first; files = all_facts (workspace_of share.reads_others share.pieces.items) }

-- a share as it was, with the table of its files
pub record IsIndexed (share : Share) (named : IndexedShare) : Type 0 where
  pub share_is : named.share ≡ share
  pub part_is : named.part ≡ part_of share

-- each answer that isn't a refusal is the share at its place, with its table
pub record AreIndexed (shares : List Share) (answers : List (Result IndexedShare AllocError)) : Type 0 where
  pub len : length answers ≡ length shares
  pub each : (i : ℕ) (s : Share) (named : IndexedShare) → slice_get shares i ≡ Some s → slice_get answers i ≡ Some (Ok named) → IsIndexed s named

-- no answer is a refusal, and these are the shares and the tables of all, in their order
pub record AreTaken (answers : List (Result IndexedShare AllocError)) (taken : IndexedShares) : Type 0 where
  pub all : List IndexedShare
  pub none_refused : answers ≡ map Ok all
  pub shares : taken.shares.items ≡ map (λ n. n.share) all
  pub parts : taken.parts.items ≡ map (λ n. n.part) all
