-- The growing form: what each return and the loop of the emitters needs. Assumes nothing.
use Prim.Native.Nat.{ℕ, ◌+◌, ◌-◌, ◌≤◌, ◌<◌}
use mathlib.Core.Path.{◌≡◌, refl, sym, ◌∙◌, ap, subst}
use mathlib.Core.List.{List, [], ◌∷◌, ◌++◌, append_assoc, append-nil}
use mathlib.Core.Bool.{Bool, true, false}
use native.Mathlib.Omega.{arith}
use native.Mathlib.Numerals.{add-one}
use lib.Dec.{ltb}
use borrow.Rule.Slice.PartMut.{put_mid, same_len_mid}
use Rattle.std.proofs.lemmas.Slice.{take-put_mid}
use lib.ListN.{length, take, drop, set, length-append, length-set, length-drop, drop_of_length-le}
use lib.Seq.{take-suc-set, length-take-le}
use Rattle.meaning.proofs.Tests.{on_bool}
use Rattle.meaning.specs.Form.{write_length, write_atom}
use Rattle.std.specs.Prelude.{Option, Some, None}
use Rattle.text_reader.specs.Forms.{pair_byte, Within, Stands, Holds, Emitted, Emits, prefixed}

-- ---- a form that is too long already, or becomes so

pub still_over : {f more : List ℕ} {g r : Option ℕ} → g ≡ None → r ≡ None → Emits more f f g r
unfolding Holds
still_over {f} {more} {g} {r} h i = rw (h, i) (record { long = refl; within = tt; so = over })
  where
    over : (e : List ℕ) → Emitted e f None → Emitted (e ++ more) f None
    over e d = record { long = d.long; within = tt; holds = omega (arith, length-append e more, d.holds) }

pub now_over : {f more : List ℕ} {g : Option ℕ} (n : ℕ) → g ≡ Some n → 8192 - n < length more → Emits more f f g None
unfolding Holds
now_over {f} {more} {g} n h k = rw h (record { long = refl; within = tt; so = over })
  where
    over : (e : List ℕ) → Emitted e f (Some n) → Emitted (e ++ more) f None
    over e d = let z : n ≡ length e = d.holds.count in record { long = d.long; within = tt; holds = omega (arith, length-append e more) }

pub byte_over : {f : List ℕ} {g : Option ℕ} {b : ℕ} (n : ℕ) → g ≡ Some n → 8192 ≤ n → Emits (b ∷ []) f f g None
byte_over {f} {g} {b} n h k = now_over n h (omega arith)

-- more bytes than a form may have
too_many : {f more : List ℕ} {g : Option ℕ} → 8192 < length more → Emits more f f g None
unfolding Holds
too_many {f} {more} {g} h = record {
  long = refl;
  within = tt;
  so = λ e d. record { long = d.long; within = tt; holds = omega (arith, length-append e more) };
}

-- ---- bytes that fit

pub within_limit : {g : Option ℕ} (n : ℕ) → g ≡ Some n → Within g → n ≤ 8192
within_limit n h w = rw h at w

-- more stands in f' where f ended
pub added : {f f' more : List ℕ} {g : Option ℕ} {m n : ℕ} → g ≡ Some m → n ≡ m + length more → n ≤ 8192 → length f' ≡ length f
    → take n f' ≡ take m f ++ more → Emits more f f' g (Some n)
unfolding Holds
added {f} {f'} {more} {g} {m} {n} h c l k t = rw h (record { long = k; within = l; so = fits })
  where
    fits : (e : List ℕ) → Emitted e f (Some m) → Emitted (e ++ more) f' (Some n)
    fits e d =
        let z : Stands e f m = d.holds in
        record {
          long = omega (arith, d.long);
          within = l;
          holds = record { count = omega (arith, length-append e more, z.count); front = t ∙ ap (◌++ more) z.front };
        }

pub byte_fits : {f : List ℕ} {g : Option ℕ} {b : ℕ} (n : ℕ) → g ≡ Some n → n < 8192 → 8192 ≤ length f → Emits (b ∷ []) f (set f n b) g (Some (n + 1))
byte_fits {f} {g} {b} n h l k = added h refl (omega arith) (length-set f n b) (rw add-one (take-suc-set f n b (omega arith)))

-- b copied to the front of a part as long as b is all of the part
whole_copy : (b zs ys : List ℕ) → length zs ≡ length b → ys ≡ b ++ drop (length b) zs → ys ≡ b
whole_copy b zs ys e i = i ∙ ap (b ++◌) (drop_of_length-le zs {i = length b} (omega arith)) ∙ append-nil b

pub bytes_fit : {b f ys : List ℕ} {g : Option ℕ} (n : ℕ) → g ≡ Some n → n ≤ 8192 → length b ≤ 8192 - n → 8192 ≤ length f
    → ys ≡ b ++ drop (length b) (take (n + length b - n) (drop n f)) → length ys ≡ length (take (n + length b - n) (drop n f))
    → Emits b f (put_mid n (n + length b - n) f ys) g (Some (n + length b))
bytes_fit {b} {f} {ys} {g} n h w l k i j =
    let q : length (take (n + length b - n) (drop n f)) ≡ n + length b - n = length-take-le (n + length b - n) (drop n f) (omega (arith, length-drop n f)) in
    let y : ys ≡ b = whole_copy b _ ys (omega arith) i in
    let z : length ys ≡ length b = ap length y in
    added h refl (omega arith) (same_len_mid n (n + length b - n) f ys j)
    (take-put_mid n (n + length b - n) f ys (n + length b) (omega arith) (omega arith) ∙ ap (take n f ++◌) y)

-- ---- one after the other

pub then_emits : {a b f f₁ f₂ : List ℕ} {g h r : Option ℕ} → Emits a f f₁ g h → Emits b f₁ f₂ h r → Emits (a ++ b) f f₂ g r
then_emits {a} {b} {f} {f₁} {f₂} {g} {h} {r} s t = record {
  long = t.long ∙ s.long;
  within = t.within;
  so = λ e d. subst (λ (x : List ℕ). Emitted x f₂ r) (append_assoc e a b) (t.so (e ++ a) (s.so e d));
}

-- nothing more
pub emits_none : {f : List ℕ} {g : Option ℕ} → Within g → Emits [] f f g g
emits_none {f} {g} l = record { long = refl; within = l; so = λ e d. subst (λ (x : List ℕ). Emitted x f g) (sym (append-nil e)) d }

-- nothing yet
pub nothing_emitted : {f : List ℕ} → 8192 ≤ length f → Emitted [] f (Some 0)
unfolding Holds
nothing_emitted {f} h = record { long = h; within = omega arith; holds = record { count = refl; front = refl } }

-- ---- emit_atom

pub atom_alone : {f f' : List ℕ} {g r : Option ℕ} {v : Bool} (b : List ℕ) → Emits b f f' g r → write_atom b ≡ prefixed v b → v ≡ false → Emits (write_atom b) f f' g r
unfolding prefixed
atom_alone {f} {f'} {g} {r} {v} b s e h = subst (λ (x : List ℕ). Emits x f f' g r) (sym (e ∙ ap (λ (u : Bool). prefixed u b) h)) s

pub atom_after : {f f₁ f₂ : List ℕ} {g h r : Option ℕ} {v : Bool} (b : List ℕ) → Emits b f₁ f₂ h r → Emits (write_length (length b)) f f₁ g h → write_atom b ≡ prefixed v b → v ≡ true → Emits (write_atom b) f f₂ g r
unfolding prefixed
atom_after {f} {f₁} {f₂} {g} {h} {r} {v} b t s e k = subst (λ (x : List ℕ). Emits x f f₂ g r) (sym (e ∙ ap (λ (u : Bool). prefixed u b) k)) (then_emits s t)

-- a length takes a byte at least
some_length : (n : ℕ) → 0 < length (write_length n)
unfolding write_length
some_length n =
    on_bool (ltb n 0x40)
    (λ e. rw (e, write_length) (omega arith))
    (λ e. on_bool (ltb n 0x2000)
    (λ h. rw (e, h, write_length) (omega arith))
    (λ h. on_bool (ltb n 0x10_0000)
    (λ i. rw (e, h, i, write_length) (omega arith))
    (λ i. on_bool (ltb n 0x800_0000)
    (λ j. rw (e, h, i, j, write_length) (omega arith))
    (λ j. rw (e, h, i, j, write_length) (omega arith)))))

long_atom : (b : List ℕ) → 8192 ≤ length b → 8192 < length (write_atom b)
unfolding write_atom
long_atom [] h = absurd (omega arith)
long_atom (x ∷ []) h = absurd (omega arith)
long_atom (x ∷ y ∷ b) h = omega (arith, length-append (write_length (length (x ∷ y ∷ b))) (x ∷ y ∷ b), some_length (length (x ∷ y ∷ b)))

pub atom_over : {f : List ℕ} {g : Option ℕ} (b : List ℕ) → 8192 ≤ length b → Emits (write_atom b) f f g None
atom_over b h = too_many (long_atom b h)

-- a part of a list, or another atom, of more bytes than a form may have
pub part_over : {f : List ℕ} {g : Option ℕ} (pair : Bool) (b : List ℕ) → 8192 < length b → Emits (pair_byte pair ++ write_atom b) f f g None
part_over pair b h = too_many (omega (arith, length-append (pair_byte pair) (write_atom b), long_atom b (omega arith)))
