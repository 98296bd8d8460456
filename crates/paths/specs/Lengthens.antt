-- What the path rule needs of the longer path: the path itself only where it has at most 64 bytes.
use Rattle.std.specs.Prelude.{ℕ, ◌≤◌, ◌<◌, List, length}
use Rattle.meaning.specs.Limits.{path_limit}
use Rattle.meaning.specs.Number.{node_path_index, compose_paths, bytes_of}
use Rattle.paths.specs.declared.path_rule.Lengthened.{Lengthened}
use Rattle.paths.specs.Wide.{Longer}

-- l is the longer path and the misreading, or both have over 64 bytes
pub record Lengthens (b : List ℕ) (q : ℕ) (l : Lengthened) : Type 0 where
  pub fits : l.path.len ≤ path_limit → Longer b q l
  pub over : path_limit < l.path.len → path_limit < length (bytes_of (compose_paths (node_path_index b) q))
