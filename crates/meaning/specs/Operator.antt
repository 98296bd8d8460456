-- Document 01, "Evaluator": the operators, how many arguments each takes, and what each makes of their values.
use Rattle.std.specs.Prelude.{ℕ, List, [], ◌∷◌, Bool, true, false, eqb, get_or}
use Rattle.meaning.specs.Tree.{Tree, atom, pair, nil, byte, same_bytes}
use Rattle.meaning.specs.Limits.{pair_cost}

-- `a`, `i`, `c`, `f`, `r`, `l`, `x`, `=`
pub data Op : Type 0 where
  apply choose cons first rest listp raise same : Op

-- what stands at the head of an expression
pub data Head : Type 0 where
  quoted : Head
  op : Op → Head
  other : Head

-- the table: "`(1 . v)` gives v. Otherwise the operator is one byte: 2 `a` .., 3 `i` .., 4 `c`, 5 `f`, 6 `r`, 7 `l`, 8 `x`, 9 `=`"
unfoldable pub head_number : ℕ → Head
head_number n = get_or (other ∷ quoted ∷ op apply ∷ op choose ∷ op cons ∷ op first ∷ op rest ∷ op listp ∷ op raise ∷ op same ∷ []) n other

unfoldable pub head_of : List ℕ → Head
unfolding head_number
head_of [] = other
head_of (b ∷ []) = head_number b
head_of (b ∷ c ∷ bs) = other

-- does it take n arguments?
unfoldable pub takes : Op → ℕ → Bool
takes apply n = eqb n 2
takes choose n = eqb n 3
takes cons n = eqb n 2
takes first n = eqb n 1
takes rest n = eqb n 1
takes listp n = eqb n 1
takes raise n = true
takes same n = eqb n 2

-- what becomes of the arguments' values: a value and the units it is charged, a program to run in an environment, or a failure
pub data Made : Type 0 where
  makes : Tree → ℕ → Made
  runs : Tree → Tree → Made
  cannot : Made

unfoldable pub one : List Tree → (Tree → Made) → Made
one [] f = cannot
one (a ∷ []) f = f a
one (a ∷ b ∷ ts) f = cannot

unfoldable pub two : List Tree → (Tree → Tree → Made) → Made
two [] f = cannot
two (a ∷ []) f = cannot
two (a ∷ b ∷ []) f = f a b
two (a ∷ b ∷ c ∷ ts) f = cannot

unfoldable pub three : List Tree → (Tree → Tree → Tree → Made) → Made
three [] f = cannot
three (a ∷ []) f = cannot
three (a ∷ b ∷ []) f = cannot
three (a ∷ b ∷ c ∷ []) f = f a b c
three (a ∷ b ∷ c ∷ d ∷ ts) f = cannot

-- "a yes from `l` or `=`" is charged "the atom 1"; a no is nil
unfoldable pub yes_no : Bool → Made
yes_no true = makes (byte 1) 5
yes_no false = makes nil 0

-- `i`: "a nil condition picks the third"
unfoldable pub chosen : Tree → Tree → Tree → Tree
chosen (atom []) a b = b
chosen (atom (x ∷ xs)) a b = a
chosen (pair l r) a b = a

unfoldable pub left_of : Tree → Made
left_of (atom b) = cannot
left_of (pair l r) = makes l 0

unfoldable pub right_of : Tree → Made
right_of (atom b) = cannot
right_of (pair l r) = makes r 0

-- `l`: "the atom 1 for a pair, else nil"; the driver asks it too
unfoldable pub is_pair : Tree → Bool
is_pair (atom b) = false
is_pair (pair l r) = true

-- `=`: "2 atoms; the atom 1 or nil by their bytes"
unfoldable pub same_atom : Tree → Tree → Made
unfolding same_bytes yes_no
same_atom (atom a) (atom b) = yes_no (same_bytes a b)
same_atom (atom a) (pair l r) = cannot
same_atom (pair l r) t = cannot

-- what an operator does, from the values of its arguments alone
unfoldable pub perform : Op → List Tree → Made
unfolding one two three yes_no chosen left_of right_of is_pair same_atom
perform apply vs = two vs runs
perform choose vs = three vs λ c a b. makes (chosen c a b) 0
perform cons vs = two vs λ l r. makes (pair l r) pair_cost
perform first vs = one vs left_of
perform rest vs = one vs right_of
perform listp vs = one vs λ t. yes_no (is_pair t)
perform raise vs = cannot
perform same vs = two vs same_atom
