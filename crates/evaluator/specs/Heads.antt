-- The code's operators and heads, said in the definition's; and what is asked of an argument list.
use Rattle.std.specs.Prelude.{List, [], ◌∷◌, Bool, false, length}
use Rattle.std.proofs.Math.Option.{Option, none, some}
use Rattle.meaning.specs.Tree.{Tree, atom, pair}
use Rattle.meaning.specs.Operator.{Op, apply, choose, cons, first, rest, listp, raise, same, quoted, op, other, head_of, takes}
use Rattle.meaning.specs.Operator.{Head as Operator-as-Head}
use Rattle.evaluator.specs.declared.Operator.{Operator}
use Rattle.evaluator.specs.declared.Operator.TheVariants.{Apply, Choose, Cons, First, Rest, Listp, Raise, Same}
use Rattle.evaluator.specs.declared.Head.{Head}
use Rattle.evaluator.specs.declared.Head.TheVariants.{Quote, Call, Other}

-- `a`, `i`, `c`, `f`, `r`, `l`, `x`, `=`
abbrev pub op_of : Operator → Op
op_of Apply = apply
op_of Choose = choose
op_of Cons = cons
op_of First = first
op_of Rest = rest
op_of Listp = listp
op_of Raise = raise
op_of Same = same

abbrev pub head_as : Head → Operator-as-Head
head_as Quote = quoted
head_as (Call o) = op (op_of o)
head_as Other = other

-- the head of an expression, from its left part; a pair is no operator
unfoldable pub head_tree : Tree → Operator-as-Head
unfolding head_of
head_tree (atom b) = head_of b
head_tree (pair l r) = other

-- the argument list ends in nil, and the operator takes as many
unfoldable pub accepted : Op → Option (List Tree) → Bool
unfolding takes
accepted o none = false
accepted o (some es) = takes o (length es)

-- the elements of a list, whatever its end
unfoldable pub items : Tree → List Tree
items (atom b) = []
items (pair l r) = l ∷ items r

-- the arguments that an operator looks at, of the first three
unfoldable pub args_of : Op → Tree → Tree → Tree → List Tree
args_of apply a b c = a ∷ b ∷ []
args_of choose a b c = a ∷ b ∷ c ∷ []
args_of cons a b c = a ∷ b ∷ []
args_of first a b c = a ∷ []
args_of rest a b c = a ∷ []
args_of listp a b c = a ∷ []
args_of raise a b c = []
args_of same a b c = a ∷ b ∷ []
