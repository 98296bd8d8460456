-- What is printed for the outcome of a match: the names as their own bytes.
use Rattle.std.specs.Prelude.{ℕ, List, [], ◌∷◌, ◌++◌, take, drop}
use Rattle.refusals.specs.Numbers.{number_of}
use Rattle.meaning.specs.Meter.{Out, done, stop}
use Rattle.meaning.specs.Form.{Reading, write_atom, write}
use Rattle.meaning.specs.Number.{number, bytes_of}
use Rattle.meaning.specs.Match as meaning
use Rattle.meaning.specs.Outcome.{Outcome, plain, no_match, too_many_names, answered, refused}
use Rattle.matcher.specs.Outcome.{worked, outcome}
use Rattle.lines.specs.Hex.{hex_of}
use Rattle.lines.specs.Text.{no_number}

-- a blank, a name's bytes, `=` and a tree's bytes
unfoldable pub binding_text : List ℕ → List ℕ → List ℕ
unfolding hex_of
binding_text name tree = 32 ∷ (hex_of name ++ (61 ∷ hex_of tree))

-- each name in the order in which the names were bound
unfoldable pub bindings_text : List meaning.Binding → List ℕ
unfolding binding_text write
bindings_text [] = []
bindings_text (b ∷ bs) = binding_text b.name (write b.node) ++ bindings_text bs

-- `ok` and what each name is bound to
unfoldable pub bound_line : List meaning.Binding → List ℕ
unfolding bindings_text
bound_line ks = 111 ∷ 107 ∷ (bindings_text ks ++ (10 ∷ []))

-- `no match` and a path as its atom's form
unfoldable pub no_match_at : List ℕ → List ℕ
unfolding write_atom hex_of
no_match_at path = 110 ∷ 111 ∷ 32 ∷ 109 ∷ 97 ∷ 116 ∷ 99 ∷ 104 ∷ 32 ∷ (hex_of (write_atom path) ++ (10 ∷ []))

-- a place is a path in 64 bytes: its shortest are printed
unfoldable pub no_match_line : List ℕ → List ℕ
unfolding number bytes_of no_match_at
no_match_line place = no_match_at (bytes_of (number place))

-- `too many names`
unfoldable pub too_many_line : List ℕ
too_many_line = 116 ∷ 111 ∷ 111 ∷ 32 ∷ 109 ∷ 97 ∷ 110 ∷ 121 ∷ 32 ∷ 110 ∷ 97 ∷ 109 ∷ 101 ∷ 115 ∷ 10 ∷ []

-- what work on two forms bound
unfoldable pub bound : Out Reading meaning.Match → List meaning.Binding
bound (done (meaning.matched ks) s) = ks
bound (done (meaning.no_match ds) s) = []
bound (done meaning.too_many_names s) = []
bound (stop n s) = []

-- the line of an outcome, where ks are bound
unfoldable pub line_of : List meaning.Binding → Outcome → List ℕ
unfolding bound_line no_match_line too_many_line no_number
line_of ks (answered bytes plain ns) = bound_line ks
line_of ks (answered bytes no_match ns) = no_match_line ns
line_of ks (answered bytes too_many_names ns) = too_many_line
line_of ks (refused n) = no_number (number_of n)

-- the two forms, how long the first is, how many bytes of room are lent, how many of output
unfoldable pub match_line : List ℕ → ℕ → ℕ → ℕ → List ℕ
unfolding bound line_of
match_line forms first room-length out-length = line_of (bound (worked (take first forms) (drop first forms))) (outcome forms first room-length out-length)
