-- The reader's small steps: run on bytes that are there, and taken apart. Assumes nothing.
use Prim.Native.Nat.{ℕ, zero, suc, ◌+◌, ◌*◌, ◌/◌, ◌%◌, ◌^◌, ◌<◌}
use mathlib.Core.Path.{◌≡◌, refl, sym, ◌∙◌, subst, ap, ap₂}
use mathlib.Core.List.{List, [], ◌∷◌, ◌++◌, append_assoc}
use mathlib.Core.Bool.{Bool, true, false}
use lib.ListN.{length}
use native.Mathlib.Omega.{arith}
use native.Mathlib.Nat.{pow-suc, div-div-eq-div-mul, div-one, add-zero}
use Rattle.refusals.specs.declared.Refusal.{Refusal}
use Rattle.meaning.specs.Meter.{done, ◌>>=◌, give, hold}
use Rattle.meaning.specs.Form.{Reading, Bounds, first_of, next, more, body, spend, IsBytes}
use Rattle.meaning.proofs.Tests.{on_bool}
use Rattle.meaning.proofs.AreBytes.{bytes_first, bytes_before, bytes_after}
use Rattle.meaning.proofs.MeterLaws.{not_stop, bind_inv, bind_at}

-- ---- what a step takes

-- the bytes that are left, and the units charged
abbrev pub at : List ℕ → ℕ → Reading
at l u = record { left = l; units = u }

-- from s to t the bytes l were taken and c units charged
pub record Took (l : List ℕ) (c : ℕ) (s t : Reading) : Type 0 where
  pub bytes : s.left ≡ l ++ t.left
  pub paid : t.units ≡ s.units + c

pub took_none : {s t : Reading} → s ≡ t → Took [] 0 s t
took_none {s} {t} e = record {
  bytes = ap (λ (z : Reading). z.left) e;
  paid = ap (λ (z : Reading). z.units) (sym e) ∙ sym (add-zero s.units);
}

pub took_then : {k l : List ℕ} {c d : ℕ} {s t u : Reading} → Took k c s t → Took l d t u → Took (k ++ l) (c + d) s u
took_then {k} {l} {c} {d} {s} {t} {u} p q = record {
  bytes = p.bytes ∙ ap (k ++◌) q.bytes ∙ sym (append_assoc k l u.left);
  paid = let e = p.paid in let f = q.paid in omega arith;
}

pub took_as : {k l : List ℕ} {c d : ℕ} {s t : Reading} → k ≡ l → c ≡ d → Took k c s t → Took l d s t
took_as {k} {d} {s} {t} e f p = subst (λ z. Took z d s t) e (subst (λ z. Took k z s t) f p)

-- what is left of bytes is bytes, and so is what was taken
pub took_bytes : {l : List ℕ} {c : ℕ} {s t : Reading} → Took l c s t → IsBytes s.left → IsBytes t.left
took_bytes {l} {t} p h = bytes_after l t.left (subst IsBytes p.bytes h)

pub taken_bytes : {l : List ℕ} {c : ℕ} {s t : Reading} → Took l c s t → IsBytes s.left → IsBytes l
taken_bytes {l} {t} p h = bytes_before l t.left (subst IsBytes p.bytes h)

pub gave : {S A : Type 0} (a b : A) (s t : S) → give a s ≡ done b t → (a ≡ b) × (s ≡ t)
unfolding give
gave a b s t h = (cc, cc)

pub held : {S : Type 0} (b : Bool) (n : Refusal) (s t : S) (x : Unit {0}) → hold b n s ≡ done x t → (b ≡ true) × (s ≡ t)
unfolding hold
held true n s t x h = (refl, (gave _ x s t h).1)
held false n s t x h = not_stop h

pub hold_at : {S : Type 0} (b : Bool) (n : Refusal) (s : S) → b ≡ true → hold b n s ≡ done tt s
unfolding hold give
hold_at b n s e = rw e

pub next_inv : (s t : Reading) (b : ℕ) → next s ≡ done b t → Took (b ∷ []) 0 s t
unfolding next first_of
next_inv s t b h = go s.left refl h
  where
    go : (l : List ℕ) → s.left ≡ l → first_of l s.units ≡ done b t → Took (b ∷ []) 0 s t
    go [] e k = not_stop k
    go (x ∷ l) e k =
        let i : x ≡ b = cc in
        let j : at l s.units ≡ t = cc in
        record {
          bytes = e ∙ ap₂ (λ z (w : Reading). z ∷ w.left) i j;
          paid = ap (λ (z : Reading). z.units) (sym j) ∙ sym (add-zero s.units);
        }

-- ---- units

pub spend_at : (b : Bounds) (c : ℕ) (l : List ℕ) (u : ℕ) → b.units_fit (u + c) ≡ true → spend b c (at l u) ≡ done tt (at l (u + c))
unfolding spend
spend_at b c l u h = rw (h, spend)

pub spend_inv : (b : Bounds) (c : ℕ) (s t : Reading) (x : Unit {0}) → spend b c s ≡ done x t → Took [] c s t × (b.units_fit t.units ≡ true)
unfolding spend
spend_inv b c s t x h =
    on_bool (b.units_fit (s.units + c))
    (λ e.
    let h' = rw (e, spend) at h in
    let i : at s.left (s.units + c) ≡ t = cc in
    (record { bytes = ap (λ (z : Reading). z.left) i; paid = ap (λ (z : Reading). z.units) (sym i) }, subst (λ (z : Reading). b.units_fit z.units ≡ true) i e))
    (λ e. not_stop (rw (e, spend) at h))

-- ---- the bytes of a body

pub body_at : (bs rest : List ℕ) (u : ℕ) → body (length bs) (at (bs ++ rest) u) ≡ done bs (at rest u)
unfolding body next first_of give
body_at [] rest u = refl
body_at (b ∷ bs) rest u = bind_at (body (length bs)) (λ cs. give (b ∷ cs)) (at (bs ++ rest) u) (at rest u) bs (body_at bs rest u)

pub body_inv : (n : ℕ) (bs : List ℕ) (s t : Reading) → body n s ≡ done bs t → Took bs 0 s t × (length bs ≡ n)
unfolding body
body_inv zero bs s t h = let (i, j) = gave [] bs s t h in (took_as i refl (took_none j), ap length (sym i))
body_inv (suc n) bs s t h =
    let (b, s1, p1, q1) = bind_inv next (λ b. body n >>= λ cs. give (b ∷ cs)) s t bs h in
    let (cs, s2, p2, q2) = bind_inv (body n) (λ cs. give (b ∷ cs)) s1 t bs q1 in
    let (i, j) = gave (b ∷ cs) bs s2 t q2 in
    let (l, m) = body_inv n cs s1 s2 p2 in
    let k : Took cs 0 s1 t = subst (Took cs 0 s1) j l in
    (took_as i refl (took_then (next_inv s s1 b p1) k), ap length (sym i) ∙ ap suc m)

-- ---- the bytes of a length

-- the lowest k digits of n to the base 256, the highest first
unfoldable pub digits : ℕ → ℕ → List ℕ
digits zero n = []
digits (suc k) n = n / 256 ^ k % 256 ∷ digits k n

pub digits_long : (k n : ℕ) → length (digits k n) ≡ k
unfolding digits
digits_long zero n = refl
digits_long (suc k) n = ap suc (digits_long k n)

shift : (n k : ℕ) → n / 256 ^ suc k ≡ n / 256 ^ k / 256
shift n k = ap (λ z. n / z) (pow-suc 256 k) ∙ sym (div-div-eq-div-mul n (256 ^ k) 256)

pub more_at : (k n : ℕ) (rest : List ℕ) (u : ℕ) → more k (n / 256 ^ k) (at (digits k n ++ rest) u) ≡ done n (at rest u)
unfolding more digits next first_of give
more_at zero n rest u = ap (λ z. done z (at rest u)) (div-one n)
more_at (suc k) n rest u =
    let e : n / 256 ^ suc k ≡ n / 256 ^ k / 256 = shift n k in
    let i : n / 256 ^ suc k * 256 + n / 256 ^ k % 256 ≡ n / 256 ^ k = omega arith in
    ap (λ z. more k z (at (digits k n ++ rest) u)) i ∙ more_at k n rest u

-- what was taken for the rest of a length n that began with v: where it is bytes, the digits of n
pub more_inv : (k v n : ℕ) (s t : Reading) → more k v s ≡ done n t
    → (ds : List ℕ) × Took ds 0 s t × (IsBytes s.left → (ds ≡ digits k n) × (v ≡ n / 256 ^ k))
unfolding more digits
more_inv zero v n s t h = let (i, j) = gave v n s t h in ([], took_none j, λ _. (refl, i ∙ sym (div-one n)))
more_inv (suc k) v n s t h =
    let (b, s1, p1, q1) = bind_inv next (λ b. more k (v * 256 + b)) s t n h in
    let (ds, i, j) = more_inv k (v * 256 + b) n s1 t q1 in
    let o : Took (b ∷ []) 0 s s1 = next_inv s s1 b p1 in (
      b ∷ ds,
      took_then o i,
      λ w.
          let b< : b < 256 = bytes_first b s1.left (subst IsBytes o.bytes w) in
          let (e, f) = j (took_bytes o w) in
          let f' : v * 256 + b ≡ n / 256 ^ k = f in
          let g : n / 256 ^ suc k ≡ n / 256 ^ k / 256 = shift n k in
          let b= : b ≡ n / 256 ^ k % 256 = omega arith in
          let v= : v ≡ n / 256 ^ suc k = omega arith in
          (ap₂ ◌∷◌ b= e, v=),
    )
