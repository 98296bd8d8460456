-- What every lent byte holds after an outcome, that a delivery fits, and that one outcome only meets a promise: once, for every public function. Assumes nothing.
use Prim.Native.Nat.{ℕ, zero, suc, ◌+◌, ◌-◌, ◌<◌, ◌≤◌}
use mathlib.Core.Path.{◌≡◌, refl, sym, ◌∙◌, ap, subst}
use mathlib.Core.List.{List, [], ◌∷◌, ◌++◌}
use mathlib.Core.Bool.{Bool, true, false, not}
use lib.Dec.{leb}
use lib.ListN.{length, take, drop, get_or, length-append, length-drop}
use lib.Seq.{take_at, drop_at}
use native.Mathlib.Omega.{arith}
use Rattle.refusals.specs.declared.Refusal.{Refusal}
use Rattle.refusals.specs.declared.Refusal.TheVariants.{RoomSmall, OutputShort}
use Rattle.refusals.specs.Numbers.{number_of, leaves_room}
use Rattle.refusals.proofs.Only.{number_only}
use Rattle.meaning.specs.Tree.{Tree}
use Rattle.meaning.specs.Limits.{room_least}
use Rattle.meaning.specs.Meter.{Out, done, stop}
use Rattle.meaning.specs.Form.{write}
use Rattle.meaning.specs.Outcome.{Tag, plain, Outcome, answered, refused, deliver, deliver_tree, ended, in_room, out_after, zeroed, room_after, Told, values, number, told, Delivers, Settles}
use Rattle.meaning.proofs.Tests.{not_false, and_inv, leb_yes, leb_true, leb_no}
use Rattle.meaning.proofs.Yields.{either_way}
use Rattle.meaning.proofs.Walk.{OfWork}
use Rattle.meaning.proofs.Late.{Touched}

-- ---- zeros

pub zeroed_length : (room : List ℕ) → length (zeroed room) ≡ length room
unfolding zeroed
zeroed_length [] = refl
zeroed_length (b ∷ bs) = ap suc (zeroed_length bs)

pub zeroed_zero : (room : List ℕ) (i : ℕ) → get_or (zeroed room) i 0 ≡ 0
unfolding zeroed
zeroed_zero [] i = refl
zeroed_zero (b ∷ bs) zero = refl
zeroed_zero (b ∷ bs) (suc i) = zeroed_zero bs i

pub zeroed_same : (a b : List ℕ) → length a ≡ length b → zeroed a ≡ zeroed b
unfolding zeroed
zeroed_same [] [] e = refl
zeroed_same [] (y ∷ b) e = absurd (omega arith)
zeroed_same (x ∷ a) [] e = absurd (omega arith)
zeroed_same (x ∷ a) (y ∷ b) e = ap (λ (l : List ℕ). 0 ∷ l) (zeroed_same a b (omega arith))

-- ---- the room

-- the room keeps its length
pub room_kept : (o : Outcome) (room : List ℕ) → length (room_after o room) ≡ length room
unfolding room_after
room_kept (answered bytes tag ns) room = zeroed_length room
room_kept (refused n) room = either_way (λ l. length l ≡ length room) (leaves_room n) room (zeroed room) refl (zeroed_length room)

-- an outcome after which the room is all zero
pub record Zeros (o : Outcome) : Type 0 where
  pub so : (room : List ℕ) → room_after o room ≡ zeroed room

pub zeros_answered : (bytes : List ℕ) (tag : Tag) (ns : List ℕ) → Zeros (answered bytes tag ns)
unfolding room_after
zeros_answered bytes tag ns = record { so = λ room. refl }

pub zeros_refused : (n : Refusal) → leaves_room n ≡ false → Zeros (refused n)
unfolding room_after
zeros_refused n h = record { so = λ room. rw (h, room_after) }

pub zeros_deliver : (limit : ℕ) (bytes ns : List ℕ) → Zeros (deliver limit bytes ns)
unfolding deliver
zeros_deliver limit bytes ns = either_way Zeros (leb (length bytes) limit) (answered bytes plain ns) (refused OutputShort) (zeros_answered bytes plain ns) (zeros_refused OutputShort refl)

pub zeros_tree : (limit : ℕ) (t : Tree) (ns : List ℕ) → Zeros (deliver_tree limit t ns)
unfolding deliver_tree
zeros_tree limit t ns = zeros_deliver limit (write t) (length (write t) ∷ ns)

-- what a refusal of work does not leave, and where its number stands
of_work_touched : (n : Refusal) → OfWork n → leaves_room n ≡ false
of_work_touched n h = let (t, k) = and_inv (not (leaves_room n)) (leb (number_of n) 14) h in go (leaves_room n) t
  where
    go : (b : Bool) → not b ≡ true → b ≡ false
    go true e = not_false e
    go false e = refl

of_work_number : (n : Refusal) → OfWork n → number_of n ≤ 14
of_work_number n h = let (t, k) = and_inv (not (leaves_room n)) (leb (number_of n) 14) h in leb_yes (number_of n) 14 k

-- work that has touched the room, and whose result's outcome leaves it zero
pub zeros_ended : {S A : Type 0} (then : A → S → Outcome) → ((a : A) (s : S) → Zeros (then a s)) → (o : Out S A) → Touched o → Zeros (ended then o)
unfolding ended Touched
zeros_ended then h (done a s) t = h a s
zeros_ended then h (stop n s) t = zeros_refused n (of_work_touched n t)

-- ---- 01's table

-- a refusal, if it is one, has one of 01's numbers
unfoldable pub InTable : Outcome → Type 0
InTable (answered bytes tag ns) = Unit {0}
InTable (refused n) = number_of n ≤ 14

pub table_tree : (limit : ℕ) (t : Tree) (ns : List ℕ) → InTable (deliver_tree limit t ns)
unfolding deliver_tree deliver InTable
table_tree limit t ns = either_way InTable (leb (length (write t)) limit) (answered (write t) plain (length (write t) ∷ ns)) (refused OutputShort) tt (omega arith)

pub table_ended : {S A : Type 0} (then : A → S → Outcome) → ((a : A) (s : S) → InTable (then a s)) → (room-length : ℕ) (o : Out S A) → Touched o → InTable (in_room room-length (ended then o))
unfolding in_room ended Touched InTable
table_ended {S} {A} then h room-length o t = either_way InTable (leb room_least room-length) (ended then o) (refused RoomSmall) (go o t) (omega arith)
  where
    go : (o : Out S A) → Touched o → InTable (ended then o)
    go (done a s) t = h a s
    go (stop n s) t = of_work_number n t

-- ---- a law of every outcome

-- P holds of every refusal and of what comes of every result, so of the outcome of work in a room
pub every : {S A : Type 0} (P : Outcome → Type 0) (then : A → S → Outcome) → ((n : Refusal) → P (refused n)) → ((a : A) (s : S) → P (then a s))
    → (room-length : ℕ) (o : Out S A) → P (in_room room-length (ended then o))
unfolding in_room ended
every {S} {A} P then h k room-length o = either_way P (leb room_least room-length) (ended then o) (refused RoomSmall) (go o) (h RoomSmall)
  where
    go : (x : Out S A) → P (ended then x)
    go (done a s) = k a s
    go (stop n s) = h n

-- ---- the output

-- what an outcome writes fits into n bytes
unfoldable pub Fits : ℕ → Outcome → Type 0
Fits n (answered bytes tag ns) = length bytes ≤ n
Fits n (refused r) = Unit {0}

pub fits_deliver : (n : ℕ) (bytes ns : List ℕ) → Fits n (deliver n bytes ns)
unfolding deliver Fits
fits_deliver n bytes ns = go (leb (length bytes) n) refl
  where
    go : (b : Bool) → leb (length bytes) n ≡ b → Fits n (elim b [ true ↦ answered bytes plain ns | false ↦ refused OutputShort ])
    go true e = leb_yes _ _ e
    go false e = tt

pub fits_tree : (n : ℕ) (t : Tree) (ns : List ℕ) → Fits n (deliver_tree n t ns)
unfolding deliver_tree
fits_tree n t ns = fits_deliver n (write t) (length (write t) ∷ ns)

-- the output keeps its length
pub output_kept : (o : Outcome) (out : List ℕ) → Fits (length out) o → length (out_after o out) ≡ length out
unfolding out_after Fits
output_kept (answered bytes tag ns) out h =
    let i : length (bytes ++ drop (length bytes) out) ≡ length bytes + length (drop (length bytes) out) = length-append bytes (drop (length bytes) out) in
    let j : length (drop (length bytes) out) ≡ length out - length bytes = length-drop (length bytes) out in
    omega arith
output_kept (refused n) out h = refl

-- ---- refusal 1

module _ (room-length : ℕ) (o : Outcome) where
  pub room_small : room-length < room_least → in_room room-length o ≡ refused RoomSmall
  unfolding in_room
  room_small h = rw (leb_no room_least room-length h, in_room)

  pub room_enough : room_least ≤ room-length → in_room room-length o ≡ o
  unfolding in_room
  room_enough h = rw (leb_true room_least room-length h, in_room)

-- ---- promises

module _ {A : Type 0} (tells : A → Told) where
  -- a refusal is told, and writes nothing
  pub refusal_delivered : (n : Refusal) (w : List ℕ) (a : A) → tells a ≡ number (number_of n) → Delivers tells (refused n) w w a
  unfolding told out_after
  refusal_delivered n w a e = record { answer = e; out = refl }

  module _ {S B : Type 0} (then : B → S → Outcome) (o : Out S B) where
    -- work that was refused
    pub ended_refused : (n : Refusal) (x : S) (w : List ℕ) (a : A) → o ≡ stop n x → tells a ≡ number (number_of n) → Delivers tells (ended then o) w w a
    unfolding ended
    ended_refused n x w a i e = rw i (refusal_delivered n w a e)

    -- work that was done
    pub ended_done : (b : B) (x : S) (w w₁ : List ℕ) (a : A) → o ≡ done b x → Delivers tells (then b x) w w₁ a → Delivers tells (ended then o) w w₁ a
    unfolding ended
    ended_done b x w w₁ a i d = rw i d

  -- the room is too small: nothing is touched
  pub small_settles : (o : Outcome) (s w : List ℕ) (a : A) → tells a ≡ number 1 → length s < room_least → Settles tells (in_room (length s) o) s s w w a
  unfolding room_after
  small_settles o s w a e h = rw (room_small (length s) o h) (record { delivers = refusal_delivered RoomSmall w a e; room = refl })

  -- it is large enough, and zeroed after the work
  pub zeroed_settles : (o : Outcome) (s s₁ s₂ w w₁ : List ℕ) (a : A) → Delivers tells o w w₁ a → Zeros o → room_least ≤ length s → s₂ ≡ zeroed s₁ → length s₁ ≡ length s
      → Settles tells (in_room (length s) o) s s₂ w w₁ a
  zeroed_settles o s s₁ s₂ w w₁ a d z h e l = rw (room_enough (length s) o h) (record { delivers = d; room = e ∙ zeroed_same s₁ s l ∙ sym (z.so s) })

  -- what `tells` tells of an answer loses nothing of it
  pub record Lossless : Type 0 where
    pub same : (a b : A) → tells a ≡ tells b → a ≡ b

  -- then one answer only, and one content of every lent byte, meets a promise
  pub only_one : Lossless → (o : Outcome) (s s₁ s₂ w w₁ w₂ : List ℕ) (a b : A) → Settles tells o s s₁ w w₁ a → Settles tells o s s₂ w w₂ b → (a ≡ b) × (s₁ ≡ s₂) × (w₁ ≡ w₂)
  only_one l o s s₁ s₂ w w₁ w₂ a b h k =
      (l.same a b (h.delivers.answer ∙ sym k.delivers.answer), h.room ∙ sym k.room, h.delivers.out ∙ sym k.delivers.out)

-- ---- what was told, of the outcome

-- the outcome answered so: its bytes stand at the front of the output, which is as it was from there on
pub record Answers (o : Outcome) (tag : Tag) (ns w w' : List ℕ) : Type 0 where
  pub bytes : List ℕ
  pub is : o ≡ answered bytes tag ns
  pub front : take (length bytes) w' ≡ bytes
  pub rest : drop (length bytes) w' ≡ drop (length bytes) w
  pub within : length bytes ≤ length w'

pub told_answer : (o : Outcome) (tag : Tag) (ns w w' : List ℕ) → values tag ns ≡ told o → w' ≡ out_after o w → Answers o tag ns w w'
unfolding told out_after
told_answer (answered bytes t ms) tag ns w w' e k =
    let i : t ≡ tag = cc in
    let j : ms ≡ ns = cc in
    let l : length w' ≡ length bytes + length (drop (length bytes) w) = ap length k ∙ length-append bytes (drop (length bytes) w) in
    record {
      bytes = bytes;
      is = cc;
      front = ap (take (length bytes)) k ∙ take_at bytes (drop (length bytes) w) (length bytes) refl;
      rest = ap (drop (length bytes)) k ∙ drop_at bytes (drop (length bytes) w) (length bytes) refl;
      within = omega arith;
    }
told_answer (refused n) tag ns w w' e k = absurd (let z : ◌≡◌ {A = ℕ} 0 1 = cc in omega arith)

pub told_refusal : (o : Outcome) (n : Refusal) → number (number_of n) ≡ told o → o ≡ refused n
unfolding told
told_refusal (answered bytes tag ns) n e = absurd (let z : ◌≡◌ {A = ℕ} 0 1 = cc in omega arith)
told_refusal (refused m) n e = let i : number_of m ≡ number_of n = cc in ap refused (number_only m n i)

-- ---- a plain answer of a tree tells its length first

-- the first number of a plain answer is how many bytes it writes
unfoldable pub Long : Outcome → Type 0
Long (answered bytes tag ns) = (n : ℕ) (ms : List ℕ) → ns ≡ n ∷ ms → length bytes ≡ n
Long (refused r) = Unit {0}

pub long_tree : (limit : ℕ) (t : Tree) (ns : List ℕ) → Long (deliver_tree limit t ns)
unfolding deliver_tree deliver Long
long_tree limit t ns = either_way Long (leb (length (write t)) limit) (answered (write t) plain (length (write t) ∷ ns)) (refused OutputShort) (λ n ms e. cc) tt

pub long_told : (o : Outcome) (bytes : List ℕ) (tag : Tag) (n : ℕ) (ms : List ℕ) → Long o → o ≡ answered bytes tag (n ∷ ms) → length bytes ≡ n
unfolding Long
long_told o bytes tag n ms h e = let k : Long (answered bytes tag (n ∷ ms)) = subst Long e h in k n ms refl
