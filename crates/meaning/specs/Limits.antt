-- Document 01, "Numbers that bound a run": each limit and each charge, by name.
use Rattle.std.specs.Prelude.{ℕ, ◌+◌, ◌-◌, List, [], ◌∷◌, length}

-- bytes of a form
abbrev pub form_limit : ℕ
form_limit = 8_192

-- bytes of an atom of a form
abbrev pub atom_limit : ℕ
atom_limit = 64

-- bytes of lent working room, at least
abbrev pub room_least : ℕ
room_least = 65_536

-- bytes of a trace: 02, "Ask 5"
abbrev pub trace_limit : ℕ
trace_limit = 65_536

abbrev pub unit_limit : ℕ
unit_limit = 32_768

abbrev pub pass_limit : ℕ
pass_limit = 65_536

abbrev pub nesting_limit : ℕ
nesting_limit = 64

-- driver calls that may nest from this nesting on, its own included: 64 at nesting 1, none at 65
abbrev pub height_at : ℕ → ℕ
height_at nest = nesting_limit + 1 - nest

-- steps of one evaluation
abbrev pub step_limit : ℕ
step_limit = 4_096

-- bytes of the path rule's result
abbrev pub path_limit : ℕ
path_limit = 64

-- turns of a path that 64 bytes hold, below its top bit
abbrev pub place_turns : ℕ
place_turns = 511

abbrev pub pair_cost : ℕ
pair_cost = 8

-- "an atom of n bytes costs 4 + n, nil costs nothing"
unfoldable pub atom_cost : List ℕ → ℕ
atom_cost [] = 0
atom_cost (b ∷ bs) = 4 + length (b ∷ bs)
