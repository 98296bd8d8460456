-- What the code's byte arrays say: a number 65 bytes wide, and one with the count of its shortest bytes.
use Rattle.std.specs.Prelude.{ℕ, ◌-◌, ◌≤◌, ◌≡◌, List, length, take, drop}
use Rattle.meaning.specs.Number.{number, node_path_index, compose_paths, bytes_of}
use Rattle.meaning.specs.Rules.{misread}
use Rattle.paths.specs.declared.casts.Number.{Number}
use Rattle.paths.specs.declared.path_rule.Lengthened.{Lengthened}

-- 65 bytes whose big-endian number is v
pub record Wide (v : ℕ) (bs : List ℕ) : Type 0 where
  pub wide : length bs ≡ 65
  pub value : number bs ≡ v

-- the first i bytes are 0
pub record Zeros (bs : List ℕ) (i : ℕ) : Type 0 where
  pub within : i ≤ length bs
  pub none : number (take i bs) ≡ 0

-- the shortest unsigned bytes start at index z
pub record Shortest (bs : List ℕ) (z : ℕ) : Type 0 where
  pub within : z ≤ length bs
  pub shown : drop z bs ≡ bytes_of (number bs)

-- n is the number v: the last `len` of its 65 bytes are v's shortest
pub record Holds (v : ℕ) (n : Number) : Type 0 where
  pub wide : length n.bytes ≡ 65
  pub value : number n.bytes ≡ v
  pub within : n.len ≤ 65
  pub shown : drop (65 - n.len) n.bytes ≡ bytes_of v

-- the path rule on an atom b: the composed path, and whether the atom was misread
pub record Longer (b : List ℕ) (q : ℕ) (l : Lengthened) : Type 0 where
  pub path : Holds (compose_paths (node_path_index b) q) l.path
  pub misread : l.misread ≡ misread b
