-- `f` and `r`, alike: false is left, true is right, as in a path's turns. Assumes nothing.
use Prim.Native.Nat.{ℕ}
use mathlib.Core.List.{List}
use mathlib.Core.Bool.{Bool, true, false}
use Rattle.meaning.specs.Tree.{Tree}
use Rattle.meaning.specs.Substitute.{first_name, rest_name}

-- the part of a pair
unfoldable pub side : Bool → Tree → Tree → Tree
side false l r = l
side true l r = r

-- the operator's byte
unfoldable pub part_byte : Bool → ℕ
part_byte false = 5
part_byte true = 6

-- the path to the part
unfoldable pub part_path : Bool → ℕ
part_path false = 2
part_path true = 3

-- what the part is called in a pattern for (c A B)
unfoldable pub part_name : Bool → List ℕ
part_name false = first_name
part_name true = rest_name
