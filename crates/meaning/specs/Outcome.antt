-- The outcome of a function over lent bytes: what it tells, and what every lent byte holds after it. Every public function cites this.
use Rattle.std.specs.Prelude.{ℕ, ◌≡◌, List, [], ◌∷◌, ◌++◌, true, false, leb, length, drop}
use Rattle.refusals.specs.declared.Refusal.{Refusal}
use Rattle.refusals.specs.declared.Refusal.TheVariants.{RoomSmall, OutputShort}
use Rattle.refusals.specs.Numbers.{number_of, leaves_room}
use Rattle.meaning.specs.Tree.{Tree}
use Rattle.meaning.specs.Limits.{room_least}
use Rattle.meaning.specs.Meter.{Out, done, stop}
use Rattle.meaning.specs.Form.{write}

-- what kind of answer it is: a plain one, or one of the matcher's two failures
pub data Tag : Type 0 where
  plain no_match too_many_names : Tag

-- the bytes written, and what is told: a tag and numbers; or a refusal
pub data Outcome : Type 0 where
  answered : (bytes : List ℕ) (tag : Tag) (numbers : List ℕ) → Outcome
  refused : Refusal → Outcome

-- ---- how outcomes come about

-- "14 last": bytes are delivered where the output has room for them
unfoldable pub deliver : ℕ → List ℕ → List ℕ → Outcome
deliver out-length bytes numbers = elim (leb (length bytes) out-length) [
  | true ↦ answered bytes plain numbers
  | false ↦ refused OutputShort
]

-- a tree, written: its length is told before the other numbers
unfoldable pub deliver_tree : ℕ → Tree → List ℕ → Outcome
unfolding deliver write
deliver_tree out-length t numbers = deliver out-length (write t) (length (write t) ∷ numbers)

-- the end of work: what comes of its result, or its refusal
unfoldable pub ended : {S A : Type 0} → (A → S → Outcome) → Out S A → Outcome
ended then (done a s) = then a s
ended then (stop n s) = refused n

-- refusal 1 before all else
unfoldable pub in_room : ℕ → Outcome → Outcome
in_room room-length o = elim (leb room_least room-length) [ true ↦ o | false ↦ refused RoomSmall ]

-- ---- every lent byte

-- the output after: the bytes written over its beginning; "every refusal .. leaves the output as it came in"
unfoldable pub out_after : Outcome → List ℕ → List ℕ
out_after (answered bytes tag numbers) out = bytes ++ drop (length bytes) out
out_after (refused n) out = out

-- as many zeros
unfoldable pub zeroed : List ℕ → List ℕ
zeroed [] = []
zeroed (b ∷ bs) = 0 ∷ zeroed bs

-- the room after: all zero, but for the refusals that come before it is touched
unfoldable pub room_after : Outcome → List ℕ → List ℕ
unfolding zeroed
room_after (answered bytes tag numbers) room = zeroed room
room_after (refused n) room = elim (leaves_room n) [ true ↦ room | false ↦ zeroed room ]

-- ---- what is told

-- a tag and numbers, or a refusal's number: "every refusal returns only its number"
pub data Told : Type 0 where
  values : Tag → List ℕ → Told
  number : ℕ → Told

unfoldable pub told : Outcome → Told
told (answered bytes tag numbers) = values tag numbers
told (refused n) = number (number_of n)

-- ---- the promises: an outcome o; the room s and the output w before, s' and w' after; the answer a, which tells what `tells` says

-- a result is delivered, the room aside
pub record Delivers {A : Type 0} (tells : A → Told) (o : Outcome) (w w' : List ℕ) (a : A) : Type 0 where
  pub answer : tells a ≡ told o
  pub out : w' ≡ out_after o w

-- the answer and every lent byte
pub record Settles {A : Type 0} (tells : A → Told) (o : Outcome) (s s' w w' : List ℕ) (a : A) : Type 0 where
  pub delivers : Delivers tells o w w' a
  pub room : s' ≡ room_after o s
