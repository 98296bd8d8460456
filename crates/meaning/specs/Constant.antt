-- optimize.rs, `seems_constant` and `seems_constant_tail`.
use Rattle.std.specs.Prelude.{Bool, true, false, ◌&&◌}
use Rattle.meaning.specs.Tree.{Tree, atom, pair, is_empty, is_byte}

unfoldable mutual
  unfolding is_empty is_byte

  -- "an atom only if nil; operator byte 1 yes; 8 no; other operator atoms pass, an operator that is a pair must itself seem constant; then every argument, with a nil end"
  pub seems_constant : Tree → Bool
  seems_constant (atom b) = is_empty b
  seems_constant (pair (atom o) r) = elim (is_byte 1 o) [
    | true ↦ true
    | false ↦ elim (is_byte 8 o) [ true ↦ false | false ↦ seems_constant_tail r ]
  ]
  seems_constant (pair (pair a b) r) = seems_constant (pair a b) && seems_constant_tail r

  pub seems_constant_tail : Tree → Bool
  seems_constant_tail (atom b) = is_empty b
  seems_constant_tail (pair l r) = seems_constant l && seems_constant_tail r
