-- What each return of the functions on a prefix needs. Assumes nothing.
use mathlib.Core.Path.{◌≡◌, refl, sym, ◌∙◌, ap, subst}
use mathlib.Core.List.{List, [], ◌∷◌}
use mathlib.Core.Bool.{true, false}
use Prim.Native.Nat.{ℕ, zero, suc, ◌+◌, ◌-◌, ◌*◌, ◌^◌, ◌<◌, ◌≤◌}
use native.Mathlib.Omega.{arith}
use native.Mathlib.Numerals.{add-one}
use native.Mathlib.Nat.{pow-suc}
use lib.ListN.{length, get_or, take, drop, length-drop}
use lib.Seq.{length-take-le}
use Rattle.std.proofs.lemmas.List.{get_or-take, get_or-drop}
use mir.Syntax.{w64}
use mir.Val.{Fits}
use lib.Dec.{leb}
use borrow.Author.Tests.{lt-ltb, le-ltb}
use Rattle.std.specs.Prelude.{Result, Ok, Err}
use Rattle.refusals.specs.declared.Refusal.{Refusal}
use Rattle.refusals.specs.declared.Refusal.TheVariants.{EndsEarly, BadPrefix}
use Rattle.meaning.specs.Meter.{M, give, refuse}
use Rattle.meaning.specs.Form.{Reading, next, more, length_from, needs_prefix}
use Rattle.meaning.proofs.MeterLaws.{bind_at}
use Rattle.store.proofs.Places.{split}
use Rattle.form.specs.Spans.{left_from, Stops, stops, LengthOk}
use Rattle.form.proofs.Spans.{next_here, next_none, bind_stops, same_stops}

-- the bytes of the length, as the loop has them
abbrev bytes : List ℕ → ℕ → ℕ → List ℕ
bytes f at k = take (at + k - at) (drop at f)

-- the loop: after i of the k bytes the number is n
pub record Counted (f : List ℕ) (end at k v n i : ℕ) : Type 0 where
  pub within : i ≤ k
  pub few : k ≤ 4
  pub inside : at + k ≤ end
  pub ends : end ≤ length f
  pub small : n < 64 * 256 ^ i
  pub so : (u : ℕ) → more k v (left_from f at end u) ≡ more (k - i) n (left_from f (at + i) end u)

-- where fewer than k bytes are left
none_more : (f : List ℕ) (end u k at v : ℕ) → end ≤ length f → end - at < k → Stops (more k v (left_from f at end u)) EndsEarly
unfolding more
none_more f end u zero at v e h = absurd (omega arith)
none_more f end u (suc k) at v e h =
    split at end
    (λ l. same_stops
    (bind_at next (λ b. more k (v * 256 + b)) (left_from f at end u) (left_from f (at + 1) end u) (get_or f at 0) (next_here f at end u l e))
    (none_more f end u k (at + 1) (v * 256 + get_or f at 0) e (omega arith)))
    (λ l. bind_stops next (λ b. more k (v * 256 + b)) (left_from f at end u) EndsEarly (next_none f at end u l))

pub count_none : (f : List ℕ) (end at k v : ℕ) → end ≤ length f → end - at < k → LengthOk f end at (more k v) (Err EndsEarly)
unfolding LengthOk
count_none f end at k v e h = record { is = λ u. none_more f end u k at v e h }

powers : (i : ℕ) → i < 4 → 256 ^ i ≤ 16777216
powers zero h = omega arith
powers (suc zero) h = omega arith
powers (suc (suc zero)) h = omega arith
powers (suc (suc (suc zero))) h = omega arith
powers (suc (suc (suc (suc i)))) h = absurd (omega arith)

module _ (f : List ℕ) (end at k v n i : ℕ) (c : Counted f end at k v n i) where
  count_long : length (bytes f at k) ≡ k
  count_long = let z : at + k - at ≡ k = omega arith in rw z (length-take-le k (drop at f) (simp length-drop (omega (arith, c.inside, c.ends))))

  module _ (h : i < length (bytes f at k)) where
    before : i < k
    before = omega (arith, count_long)

    count_small : n < 1073741824
    count_small = let z : i < 4 = omega (arith, c.few, before) in omega (arith, c.small, powers i z)

    pub count_times : Fits w64 (n * 256)
    count_times = record { fits = omega (arith, count_small) }

    pub count_plus : (w : ℕ) → w < 256 → Fits w64 (n * 256 + w)
    count_plus w b = record { fits = omega (arith, count_small) }

    rest : k - i ≡ suc (k - (i + 1))
    rest = omega (arith, before)

    here : get_or (bytes f at k) i 0 ≡ get_or f (at + i) 0
    here = let z : i < at + k - at = omega (arith, before) in rw (get_or-take (at + k - at) (drop at f) i 0 z, get_or-drop at f i 0)

    pub count_turn : (w : ℕ) → w ≡ get_or (bytes f at k) i 0 → w < 256 → Counted f end at k v (n * 256 + w) (i + 1)
    unfolding more
    count_turn w e b = record {
      within = omega (arith, before);
      few = c.few;
      inside = c.inside;
      ends = c.ends;
      small = let z : 256 ^ (i + 1) ≡ 256 ^ i * 256 = rw add-one (pow-suc 256 i) in omega (arith, c.small);
      so = λ u.
          let z : at + i + 1 ≡ at + (i + 1) = omega arith in
          let l : at + i < end = omega (arith, c.inside, before) in
          let g : w ≡ get_or f (at + i) 0 = e ∙ here in
          c.so u
          ∙ ap (λ (j : ℕ). more j n (left_from f (at + i) end u)) rest
          ∙ bind_at next (λ b. more (k - (i + 1)) (n * 256 + b)) (left_from f (at + i) end u) (left_from f (at + i + 1) end u) (get_or f (at + i) 0) (next_here f (at + i) end u l c.ends)
          ∙ rw (z, g);
    }

  pub count_ends : length (bytes f at k) ≤ i → LengthOk f end at (more k v) (Ok (n, at + k))
  unfolding more give LengthOk
  count_ends h =
      let e : i ≡ k = omega (arith, c.within, count_long) in
      record {
        after = omega arith;
        within = c.inside;
        is = λ u. c.so u ∙ (let z : k - i ≡ 0 = omega arith in rw (z, e));
      }

-- ---- the length that a prefix says

module _ (f : List ℕ) (end at p : ℕ) where
  -- the rows of the table
  row : (m : M Reading ℕ) (r : Result (ℕ × ℕ) Refusal) → length_from p ≡ m → LengthOk f end at m r → LengthOk f end at (length_from p) r
  row m r e o = subst (λ (x : M Reading ℕ). LengthOk f end at x r) (sym e) o

  pub from_none : at ≤ end → p < 192 → LengthOk f end at (length_from p) (Ok (p - 128, at))
  unfolding LengthOk length_from give
  from_none h l = row (give (p - 128)) (Ok (p - 128, at)) (rw (lt-ltb p 192 l, length_from)) (record { after = omega arith; within = h; is = λ u. refl })

  pub from_one : (r : Result (ℕ × ℕ) Refusal) → LengthOk f end at (more 1 (p - 192)) r → 192 ≤ p → p < 224 → LengthOk f end at (length_from p) r
  unfolding length_from
  from_one r o h l = row _ r (rw (le-ltb p 192 h, lt-ltb p 224 l, length_from)) o

  pub from_two : (r : Result (ℕ × ℕ) Refusal) → LengthOk f end at (more 2 (p - 224)) r → 224 ≤ p → p < 240 → LengthOk f end at (length_from p) r
  unfolding length_from
  from_two r o h l = row _ r (rw (le-ltb p 192 (omega arith), le-ltb p 224 h, lt-ltb p 240 l, length_from)) o

  pub from_three : (r : Result (ℕ × ℕ) Refusal) → LengthOk f end at (more 3 (p - 240)) r → 240 ≤ p → p < 248 → LengthOk f end at (length_from p) r
  unfolding length_from
  from_three r o h l = row _ r (rw (le-ltb p 192 (omega arith), le-ltb p 224 (omega arith), le-ltb p 240 h, lt-ltb p 248 l, length_from)) o

  pub from_four : (r : Result (ℕ × ℕ) Refusal) → LengthOk f end at (more 4 (p - 248)) r → 248 ≤ p → p < 252 → LengthOk f end at (length_from p) r
  unfolding length_from
  from_four r o h l = row _ r (rw (le-ltb p 192 (omega arith), le-ltb p 224 (omega arith), le-ltb p 240 (omega arith), le-ltb p 248 h, lt-ltb p 252 l, length_from)) o

  pub from_last : 252 ≤ p → LengthOk f end at (length_from p) (Err BadPrefix)
  unfolding LengthOk length_from refuse
  from_last h =
      row (refuse BadPrefix) (Err BadPrefix) (rw (le-ltb p 192 (omega arith), le-ltb p 224 (omega arith), le-ltb p 240 (omega arith), le-ltb p 248 (omega arith), le-ltb p 252 h, length_from))
      (record { is = λ u. stops (left_from f at end u) refl })

-- ---- whether a body needs a prefix

pub prefix_none : (b : List ℕ) → length b ≡ 0 → false ≡ needs_prefix b
unfolding needs_prefix
prefix_none [] h = refl
prefix_none (x ∷ b) h = absurd (omega arith)

pub prefix_one : (b : List ℕ) → length b ≡ 1 → leb 128 (get_or b 0 0) ≡ needs_prefix b
unfolding needs_prefix
prefix_one [] h = absurd (omega arith)
prefix_one (x ∷ []) h = refl
prefix_one (x ∷ y ∷ b) h = absurd (omega arith)

pub prefix_more : (b : List ℕ) → 2 ≤ length b → true ≡ needs_prefix b
unfolding needs_prefix
prefix_more [] h = absurd (omega arith)
prefix_more (x ∷ []) h = absurd (omega arith)
prefix_more (x ∷ y ∷ b) h = refl
