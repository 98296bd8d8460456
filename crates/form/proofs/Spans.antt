-- Laws of a stretch of bytes, and of what is refused. Assumes nothing.
use mathlib.Core.Path.{◌≡◌, sym, ◌∙◌, ap}
use mathlib.Core.List.{List, [], ◌∷◌}
use mathlib.Core.Bool.{Bool, false}
use Prim.Native.Nat.{ℕ, zero, suc, ◌+◌, ◌-◌, ◌<◌, ◌≤◌}
use native.Mathlib.Omega.{arith}
use native.Mathlib.Numerals.{add-one}
use lib.ListN.{length, take, drop, get_or, length-drop}
use lib.Seq.{drop-cons, take-take, take_all, drop-drop, length-take-le, take-nil}
use borrow.Author.Tests.{lt-leb}
use Rattle.refusals.specs.declared.Refusal.{Refusal}
use Rattle.refusals.specs.declared.Refusal.TheVariants.{EndsEarly, UnitsOut}
use Rattle.meaning.specs.Limits.{unit_limit}
use Rattle.meaning.specs.Meter.{Out, done, M, ◌>>=◌, ◌>>◌, hold, refuse}
use Rattle.meaning.specs.Form.{Reading, limits, next, first_of, spend}
use Rattle.form.specs.Spans.{span, left_from, Stops, stops}

drop_take : (n m : ℕ) (l : List ℕ) → drop n (take m l) ≡ take (m - n) (drop n l)
drop_take zero m l = let e : m - 0 ≡ m = omega arith in rw e
drop_take (suc n) zero l = let e : 0 - suc n ≡ 0 = omega arith in rw e
drop_take (suc n) (suc m) [] = sym (take-nil (suc m - suc n))
drop_take (suc n) (suc m) (x ∷ l) = let e : suc m - suc n ≡ m - n = omega arith in rw e (drop_take n m l)

module _ (f : List ℕ) (at end : ℕ) where
  pub span_long : end ≤ length f → length (span f at end) ≡ end - at
  unfolding span
  span_long h = length-take-le (end - at) (drop at f) (simp length-drop (omega arith))

  pub span_none : end ≤ at → span f at end ≡ []
  unfolding span
  span_none h = let e : end - at ≡ 0 = omega arith in rw e

  pub span_cons : at < end → end ≤ length f → span f at end ≡ get_or f at 0 ∷ span f (at + 1) end
  unfolding span
  span_cons h k =
      let e : end - at ≡ suc (end - (at + 1)) = omega arith in
      let i : at < length f = omega arith in
      rw (e, drop-cons f at 0 i, add-one)

  pub span_take : (n : ℕ) → at + n ≤ end → take n (span f at end) ≡ take n (drop at f)
  unfolding span
  span_take n h = take-take n (end - at) (drop at f) (omega arith)

  pub span_drop : (n : ℕ) → drop n (span f at end) ≡ span f (at + n) end
  unfolding span
  span_drop n =
      let e : end - at - n ≡ end - (at + n) = omega arith in
      drop_take n (end - at) (drop at f) ∙ rw (drop-drop n at f, e)

  pub next_here : (u : ℕ) → at < end → end ≤ length f → next (left_from f at end u) ≡ done (get_or f at 0) (left_from f (at + 1) end u)
  unfolding next first_of
  next_here u h k = ap (λ (l : List ℕ). first_of l u) (span_cons h k)

  pub next_none : (u : ℕ) → end ≤ at → Stops (next (left_from f at end u)) EndsEarly
  unfolding next first_of
  next_none u h = stops _ (ap (λ (l : List ℕ). first_of l u) (span_none h))

-- the whole
pub span_all : (f : List ℕ) → span f 0 (length f) ≡ f
unfolding span
span_all f = let e : length f - 0 ≡ length f = omega arith in rw e (take_all (length f) f (omega arith))

-- what is refused first is what is refused
pub bind_stops : {A B : Type 0} (m : M Reading A) (k : A → M Reading B) (s : Reading) (n : Refusal) → Stops (m s) n → Stops ((m >>= k) s) n
unfolding ◌>>=◌
bind_stops m k s n (stops t e) = stops t (rw (e, ◌>>=◌))

pub seq_stops : {A B : Type 0} (m : M Reading A) (k : M Reading B) (s : Reading) (n : Refusal) → Stops (m s) n → Stops ((m >> k) s) n
unfolding ◌>>◌
seq_stops m k s n h = bind_stops m (λ _. k) s n h

pub hold_stops : (b : Bool) (n : Refusal) (s : Reading) → b ≡ false → Stops (hold b n s) n
unfolding hold refuse
hold_stops b n s e = stops s (rw (e, hold))

pub spend_stops : (c : ℕ) (s : Reading) → unit_limit < s.units + c → Stops (spend limits c s) UnitsOut
unfolding spend
spend_stops c s h = stops (record { left = s.left; units = unit_limit }) (rw (lt-leb (s.units + c) unit_limit h, spend))

pub same_stops : {A : Type 0} {o p : Out Reading A} {n : Refusal} → o ≡ p → Stops p n → Stops o n
same_stops e (stops t i) = stops t (e ∙ i)
