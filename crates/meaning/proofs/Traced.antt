-- What a trace that was written says of its run, and that such a run is written so. Assumes nothing.
use Prim.Native.Nat.{ℕ, ◌≤◌}
use mathlib.Core.Path.{◌≡◌, refl, sym, ◌∙◌, ap, subst}
use mathlib.Core.List.{List, [], ◌∷◌}
use mathlib.Core.Bool.{Bool, true, false}
use native.Mathlib.Omega.{arith}
use lib.Dec.{leb}
use lib.ListN.{length}
use Rattle.refusals.specs.declared.Refusal.{Refusal}
use Rattle.refusals.specs.declared.Refusal.TheVariants.{RoomSmall, OutputShort, TraceLong}
use Rattle.meaning.specs.Tree.{Tree}
use Rattle.meaning.specs.Limits.{room_least, trace_limit}
use Rattle.meaning.specs.Meter.{Out, done, stop, Spent}
use Rattle.meaning.specs.Outcome.{Tag, plain, Outcome, answered, refused, deliver, ended, in_room}
use Rattle.meaning.specs.Run.{mark_number, worked}
use Rattle.meaning.specs.Trace.{trace_bytes, deliver_trace, trace_run}
use Rattle.meaning.proofs.Tests.{leb_yes, leb_true}
use Rattle.meaning.proofs.Lent.{room_enough}

-- a refusal is no answer
pub not_answered : {X : Type 0} {n : Refusal} {bytes : List ℕ} {tag : Tag} {ns : List ℕ} → refused n ≡ answered bytes tag ns → X
not_answered h = absurd (let z : ◌≡◌ {A = ℕ} 0 1 = cc in omega arith)

-- what a trace that was written says of its run
pub record Traced (form : List ℕ) (room-length out-length : ℕ) (bytes : List ℕ) (tag : Tag) (numbers : List ℕ) : Type 0 where
  pub tree : Tree
  pub spent : Spent
  pub finished : worked form ≡ done tree spent
  pub written : bytes ≡ trace_bytes form spent
  pub short : length bytes ≤ trace_limit
  pub fits : length bytes ≤ out-length
  pub room : room_least ≤ room-length
  pub kind : tag ≡ plain
  pub told : numbers ≡ length bytes ∷ spent.passes ∷ spent.units ∷ mark_number spent.mark ∷ []

-- An answer of a trace is of work that ended, and is what that left.
pub trace_inv : (form : List ℕ) (room-length out-length : ℕ) (bytes : List ℕ) (tag : Tag) (numbers : List ℕ) → trace_run form room-length out-length ≡ answered bytes tag numbers
    → Traced form room-length out-length bytes tag numbers
unfolding trace_run ended deliver_trace deliver in_room
trace_inv form room-length out-length bytes tag numbers h = go (leb room_least room-length) refl h
  where
    end : Out Spent Tree → Outcome
    end o = ended (λ t s. deliver_trace out-length (trace_bytes form s) s) o

    told_of : Spent → List ℕ
    told_of s = length (trace_bytes form s) ∷ s.passes ∷ s.units ∷ mark_number s.mark ∷ []

    at : room_least ≤ room-length → (t : Tree) (s : Spent) → worked form ≡ done t s → (a b : Bool)
        → leb (length (trace_bytes form s)) trace_limit ≡ a → leb (length (trace_bytes form s)) out-length ≡ b
        → elim a [ true ↦ elim b [ true ↦ answered (trace_bytes form s) plain (told_of s) | false ↦ refused OutputShort ] | false ↦ refused TraceLong ] ≡ answered bytes tag numbers
        → Traced form room-length out-length bytes tag numbers
    at r t s w true true p q k =
        let i : bytes ≡ trace_bytes form s = cc in
        let j : tag ≡ plain = cc in
        let n : numbers ≡ told_of s = cc in
        record {
          tree = t;
          spent = s;
          finished = w;
          written = i;
          short = subst (λ (x : List ℕ). length x ≤ trace_limit) (sym i) (leb_yes _ _ p);
          fits = subst (λ (x : List ℕ). length x ≤ out-length) (sym i) (leb_yes _ _ q);
          room = r;
          kind = j;
          told = n ∙ ap (λ (x : List ℕ). length x ∷ s.passes ∷ s.units ∷ mark_number s.mark ∷ []) (sym i);
        }
    at r t s w true false p q k = not_answered k
    at r t s w false b p q k = not_answered k

    on : room_least ≤ room-length → (o : Out Spent Tree) → worked form ≡ o → end o ≡ answered bytes tag numbers → Traced form room-length out-length bytes tag numbers
    on r (done t s) w k = at r t s w (leb (length (trace_bytes form s)) trace_limit) (leb (length (trace_bytes form s)) out-length) refl refl k
    on r (stop n s) w k = not_answered k

    go : (b : Bool) → leb room_least room-length ≡ b → elim b [ true ↦ end (worked form) | false ↦ refused RoomSmall ] ≡ answered bytes tag numbers
        → Traced form room-length out-length bytes tag numbers
    go true q k = on (leb_yes _ _ q) (worked form) refl k
    go false q k = not_answered k

-- Such work is answered so, where the output has room for it.
pub trace_at : (form : List ℕ) (room-length out-length : ℕ) (t : Tree) (s : Spent) → worked form ≡ done t s → length (trace_bytes form s) ≤ trace_limit → length (trace_bytes form s) ≤ out-length
    → room_least ≤ room-length → trace_run form room-length out-length ≡ answered (trace_bytes form s) plain (length (trace_bytes form s) ∷ s.passes ∷ s.units ∷ mark_number s.mark ∷ [])
unfolding trace_run ended deliver_trace deliver
trace_at form room-length out-length t s w p q r =
    room_enough room-length _ r
    ∙ ap (ended (λ u x. deliver_trace out-length (trace_bytes form x) x)) w
    ∙ go (leb (length (trace_bytes form s)) trace_limit) (leb (length (trace_bytes form s)) out-length) (leb_true _ _ p) (leb_true _ _ q)
  where
    o : Outcome
    o = answered (trace_bytes form s) plain (length (trace_bytes form s) ∷ s.passes ∷ s.units ∷ mark_number s.mark ∷ [])

    go : (a b : Bool) → a ≡ true → b ≡ true → elim a [ true ↦ elim b [ true ↦ o | false ↦ refused OutputShort ] | false ↦ refused TraceLong ] ≡ o
    go a b i j = rw (i, j)
