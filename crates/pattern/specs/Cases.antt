-- The cases of match_sexp at a pattern that is a pair.
use Rattle.std.specs.Prelude.{Bool, true, false, ◌&&◌, not, List}
use Rattle.meaning.specs.Tree.{Tree, atom, pair, is_byte}
use Rattle.meaning.specs.Match.{Match, Binding, sexp_match, ◌and_then◌, in_part, match_sexp}

-- the pattern (: . name), where name is not ":", takes any pair
unfoldable pub takes_any : Tree → Tree → Bool
unfolding is_byte
takes_any (atom a) (atom b) = is_byte sexp_match a && not (is_byte sexp_match b)
takes_any (atom a) (pair c d) = false
takes_any (pair c d) q = false

-- any other pair is matched part by part, left before right
abbrev pub in_parts : (a b l r : Tree) → List Binding → Match
in_parts a b l r ks = in_part false (match_sexp a l ks) and_then λ js. in_part true (match_sexp b r js)
