-- What the growing form is promised to hold.
use Rattle.std.specs.Prelude.{ℕ, ◌≤◌, ◌<◌, ◌≡◌, List, [], ◌∷◌, ◌++◌, Bool, true, false, Option, Some, None, length, take}
use Rattle.meaning.specs.Limits.{form_limit}
use Rattle.meaning.specs.Form.{write_length}

-- e stands at the front of f
pub record Stands (e f : List ℕ) (n : ℕ) : Type 0 where
  pub count : n ≡ length e
  pub front : take n f ≡ e

-- as many bytes as a form may have at most; none is said where more would have to stand in it
abbrev pub Within : Option ℕ → Type 0
Within (Some n) = n ≤ form_limit
Within None = Unit {0}

-- e stands at the front, or a form may not be so long
unfoldable pub Holds : List ℕ → List ℕ → Option ℕ → Type 0
Holds e f (Some n) = Stands e f n
Holds e f None = form_limit < length e

-- e was emitted into f
pub record Emitted (e f : List ℕ) (g : Option ℕ) : Type 0 where
  pub long : form_limit ≤ length f
  pub within : Within g
  pub holds : Holds e f g

-- more is emitted after whatever was emitted before
pub record Emits (more f f' : List ℕ) (g g' : Option ℕ) : Type 0 where
  pub long : length f' ≡ length f
  pub within : Within g'
  pub so : (e : List ℕ) → Emitted e f g → Emitted (e ++ more) f' g'

-- an atom's bytes, after their length where they need it
unfoldable pub prefixed : Bool → List ℕ → List ℕ
unfolding write_length
prefixed true b = write_length (length b) ++ b
prefixed false b = b

-- ff, where a pair begins
abbrev pub pair_byte : Bool → List ℕ
pair_byte true = 0xff ∷ []
pair_byte false = []
