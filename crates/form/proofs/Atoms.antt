-- Reading an atom from a stretch of bytes. Assumes nothing.
use mathlib.Core.Path.{◌≡◌, refl, sym, ◌∙◌, ap}
use mathlib.Core.List.{List, [], ◌∷◌, ◌++◌}
use Prim.Native.Nat.{ℕ, zero, suc, ◌+◌, ◌-◌, ◌<◌, ◌≤◌}
use native.Mathlib.Omega.{arith}
use lib.ListN.{length, get_or, take, drop, take-append-drop}
use lib.Seq.{drop-cons, length-take-le}
use lib.Dec.{leb}
use borrow.Author.Tests.{lt-ltb, le-ltb, ne_eqb, le-leb, lt-leb}
use Rattle.std.specs.Prelude.{Result, Ok, Err}
use Rattle.refusals.specs.declared.Refusal.{Refusal}
use Rattle.refusals.specs.declared.Refusal.TheVariants.{EndsEarly, AtomLong}
use Rattle.meaning.specs.Tree.{Tree, atom, nil, byte}
use Rattle.meaning.specs.Limits.{atom_limit, atom_cost}
use Rattle.meaning.specs.Meter.{done, M, ◌>>=◌, ◌>>◌, give, hold}
use Rattle.meaning.specs.Form.{Reading, limits, next, first_of, body, length_from, spend, read_long, read_atom}
use Rattle.meaning.proofs.MeterLaws.{bind_at, seq_at}
use Rattle.meaning.proofs.ReaderLaws.{hold_at, body_at}
use Rattle.form.specs.Spans.{span, left_from, Stops, stops, LengthTo, LengthOk}
use Rattle.form.proofs.Spans.{span_long, span_take, span_drop, bind_stops, seq_stops, hold_stops, same_stops}

-- ---- a body

pub body_here : (f : List ℕ) (end at u n : ℕ) → end ≤ length f → at + n ≤ end → body n (left_from f at end u) ≡ done (take n (drop at f)) (left_from f (at + n) end u)
body_here f end at u n e h =
    let l : List ℕ = span f at end in
    let z : length l ≡ end - at = span_long f at end e in
    let i : length (take n l) ≡ n = length-take-le n l (omega arith) in
    ap (λ (x : List ℕ). body n (record { left = x; units = u })) (sym (take-append-drop n l))
    ∙ ap (λ (k : ℕ). body k (record { left = take n l ++ drop n l; units = u })) (sym i)
    ∙ body_at (take n l) (drop n l) u
    ∙ rw (span_take f at end n h, span_drop f at end n)

short_body : (n : ℕ) (l : List ℕ) (u : ℕ) → length l < n → Stops (body n (record { left = l; units = u })) EndsEarly
unfolding body next first_of
short_body zero l u h = absurd (omega arith)
short_body (suc n) [] u h = stops _ refl
short_body (suc n) (x ∷ l) u h = bind_stops (body n) (λ bs. give (x ∷ bs)) (record { left = l; units = u }) EndsEarly (short_body n l u (omega arith))

pub body_none : (f : List ℕ) (end at u n : ℕ) → end ≤ length f → end - at < n → Stops (body n (left_from f at end u)) EndsEarly
body_none f end at u n e h = short_body n (span f at end) u (omega (arith, span_long f at end e))

-- ---- an atom with a prefix

after_length : ℕ → M Reading Tree
after_length n = hold (leb n atom_limit) AtomLong >> (body n >>= λ bs. spend limits (atom_cost bs) >> give (atom bs))

module _ (f : List ℕ) (end at p u : ℕ) (r : Result (ℕ × ℕ) Refusal) (o : LengthOk f end at (length_from p) r) where
  pub long_stops : (e : Refusal) → r ≡ Err e → Stops (read_long limits p (left_from f at end u)) e
  unfolding LengthOk read_long after_length
  long_stops e i = let h : LengthOk f end at (length_from p) (Err e) = rw i at o in bind_stops (length_from p) after_length (left_from f at end u) e (h.is u)

  module _ (n from : ℕ) (i : r ≡ Ok (n, from)) where
    to : LengthTo f end at (length_from p) n from
    unfolding LengthOk
    to = rw i at o

    pub from_after : at ≤ from
    from_after = to.after

    pub from_within : from ≤ end
    from_within = to.within

    then : read_long limits p (left_from f at end u) ≡ after_length n (left_from f from end u)
    unfolding read_long after_length
    then = bind_at (length_from p) after_length (left_from f at end u) (left_from f from end u) n (to.is u)

    pub long_wide : atom_limit < n → Stops (read_long limits p (left_from f at end u)) AtomLong
    unfolding after_length
    long_wide h = same_stops then (seq_stops (hold (leb n atom_limit) AtomLong) _ (left_from f from end u) AtomLong (hold_stops (leb n atom_limit) AtomLong (left_from f from end u) (lt-leb n atom_limit h)))

    held : n ≤ atom_limit → read_long limits p (left_from f at end u) ≡ (body n >>= λ bs. spend limits (atom_cost bs) >> give (atom bs)) (left_from f from end u)
    unfolding after_length
    held h = then ∙ seq_at (hold (leb n atom_limit) AtomLong) _ (left_from f from end u) (left_from f from end u) tt (hold_at (leb n atom_limit) AtomLong (left_from f from end u) (le-leb n atom_limit h))

    pub long_ends : end ≤ length f → n ≤ atom_limit → end - from < n → Stops (read_long limits p (left_from f at end u)) EndsEarly
    long_ends e h l = same_stops (held h) (bind_stops (body n) _ (left_from f from end u) EndsEarly (body_none f end from u n e l))

    pub long_made : end ≤ length f → n ≤ atom_limit → from + n ≤ end
        → read_long limits p (left_from f at end u) ≡ (spend limits (atom_cost (take n (drop from f))) >> give (atom (take n (drop from f)))) (left_from f (from + n) end u)
    long_made e h l = held h ∙ bind_at (body n) _ (left_from f from end u) (left_from f (from + n) end u) (take n (drop from f)) (body_here f end from u n e l)

-- ---- by the first byte

pub atom_byte : (p : ℕ) (s : Reading) → p < 128 → read_atom limits p s ≡ (spend limits 5 >> give (byte p)) s
unfolding read_atom
atom_byte p s h = rw (lt-ltb p 128 h, read_atom)

pub atom_nil : (p : ℕ) (s : Reading) → p ≡ 128 → read_atom limits p s ≡ done nil s
unfolding read_atom give
atom_nil p s e = rw e

pub atom_long : (p : ℕ) (s : Reading) → 128 ≤ p → (p ≡ 128 → ⊥) → read_atom limits p s ≡ read_long limits p s
unfolding read_atom
atom_long p s h n = rw (le-ltb p 128 h, ne_eqb p 128 n, read_atom)

pub one_byte : (f : List ℕ) (at : ℕ) → at < length f → take 1 (drop at f) ≡ get_or f at 0 ∷ []
one_byte f at h = rw (drop-cons f at 0 h)
