-- A line after its commit by a core.
use Rattle.std.specs.Prelude.{ℕ, true, false, Some}
use Rattle.rules_maps.specs.Lines.{Lines, with_sharer, with_owner, with_tag, with_asked}

-- the committer owns it and is a sharer, with the commit's tag; the owner isn't asked yet
abbrev pub owned_line : (line core tid : ℕ) → Lines → Lines
owned_line l c t ls = with_asked l false (with_tag l t (with_owner l (Some c) (with_sharer l c true ls)))
