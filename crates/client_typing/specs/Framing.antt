-- Bytes for the server in frames.
use Rattle.std.specs.Prelude.{◌≡◌, ℕ, ◌≤◌, List, ◌++◌, length}
use Rattle.std.specs.List.{AllByRecursion, flat_map}
use Rattle.attach_proto.specs.declared.kind.Kind.{Kind}
use Rattle.attach_proto.specs.Spelling.{frame}

-- these bytes were added to the frames for the server, in pieces that fit in a frame: none is lost or doubled
pub record Sends (old new : List ℕ) (kind : Kind) (bytes : List ℕ) : Type 0 where
  pub pieces : List (List ℕ)
  pub whole : flat_map (λ piece. piece) pieces ≡ bytes
  pub fit : AllByRecursion (λ piece. length piece ≤ 8192) pieces
  pub added : new ≡ old ++ flat_map (frame kind) pieces
