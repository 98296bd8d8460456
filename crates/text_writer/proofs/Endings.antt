-- An atom's text, as an expression and as the rest of a list: how long it is, and what each return of its writer needs. Assumes nothing.
use mathlib.Core.Path.{◌≡◌, refl, sym, ◌∙◌, ap}
use mathlib.Core.List.{List, [], ◌∷◌, ◌++◌}
use mathlib.Core.Bool.{Bool, true, false}
use mathlib.Core.Option.{some}
use Prim.Native.Nat.{ℕ, suc, ◌+◌, ◌-◌, ◌*◌, ◌<◌, ◌≤◌}
use native.Mathlib.Omega.{arith}
use lib.ListN.{length, drop, get_or, set, length-set, length-append}
use lib.Seq.{drop-cons, set_at, append_snoc}
use mir.Syntax.{w64}
use mir.Val.{Fits}
use Rattle.meaning.specs.Tree.{atom}
use Rattle.meaning.proofs.Tests.{on_bool}
use Rattle.store.proofs.Places.{whether}
use Rattle.notation.specs.declared.Place.{Place}
use Rattle.notation.specs.Words.{names, name_of, hex, atom_text}
use Rattle.notation.specs.Texts.{text_rest}
use Rattle.form.specs.Writes.{Wrote}
use Rattle.form.proofs.Lend.{lent, back, lent_length, one_set, two_set, wrote_length, then_wrote}
use Rattle.text_writer.specs.Parts.{has_name}
use Rattle.text_writer.proofs.Names.{name_is, byte_low, byte_high, text_named, text_nil, text_hex}
use Rattle.text_writer.proofs.Digits.{hex_length}

-- ---- bytes put at the front, and one more behind them

three_set : (out : List ℕ) (u v w : ℕ) → 2 < length out → Wrote (u ∷ v ∷ w ∷ []) 3 out (set (set (set out 0 u) 1 v) 2 w)
three_set [] u v w h = absurd (omega arith)
three_set (x ∷ []) u v w h = absurd (omega arith)
three_set (x ∷ y ∷ []) u v w h = absurd (omega arith)
three_set (x ∷ y ∷ z ∷ out) u v w h = record { count = refl; bytes = refl }

end_set : (w out out₁ : List ℕ) (k v : ℕ) → Wrote w k out out₁ → k < length out → Wrote (w ++ (v ∷ [])) (k + 1) out (set out₁ k v)
end_set w out out₁ k v d h =
    let n : length w ≡ k = sym d.count in
    let z : length (w ++ (v ∷ [])) ≡ suc (length w) = omega (arith, length-append w (v ∷ [])) in
    record {
      count = omega arith;
      bytes =
          ap (λ (l : List ℕ). set l k v) (d.bytes ∙ ap (λ (l : List ℕ). w ++ l) (drop-cons out (length w) 0 (omega arith)))
          ∙ set_at w (get_or out (length w) 0) (drop (suc (length w)) out) v k n
          ∙ sym (append_snoc w v (drop (suc (length w)) out))
          ∙ ap (λ (j : ℕ). (w ++ (v ∷ [])) ++ drop j out) (sym z);
    }

-- ---- how long

module _ (p : Place) (b : List ℕ) where
  pub nil_length : length b ≡ 0 → 2 ≡ length (atom_text p b)
  nil_length h = rw (text_nil p b h)

  -- the rest of a list that is nil, and that is no nil
  last_nil : length b ≡ 0 → text_rest (atom b) p ≡ 0x29 ∷ []
  unfolding text_rest
  last_nil h = go b h
    where
      go : (b : List ℕ) → length b ≡ 0 → text_rest (atom b) p ≡ 0x29 ∷ []
      go [] h = refl
      go (x ∷ b) h = absurd (omega arith)

  last_some : (length b ≡ 0 → ⊥) → text_rest (atom b) p ≡ 0x20 ∷ 0x2e ∷ 0x20 ∷ (atom_text p b ++ (0x29 ∷ []))
  unfolding text_rest
  last_some h = go b h
    where
      go : (b : List ℕ) → (length b ≡ 0 → ⊥) → text_rest (atom b) p ≡ 0x20 ∷ 0x2e ∷ 0x20 ∷ (atom_text p b ++ (0x29 ∷ []))
      go [] h = absurd (h refl)
      go (x ∷ b) h = refl

  pub last_nil_length : length b ≡ 0 → 1 ≡ length (text_rest (atom b) p)
  last_nil_length h = rw (last_nil h)

  some_length : (length b ≡ 0 → ⊥) → length (text_rest (atom b) p) ≡ 4 + length (atom_text p b)
  some_length h =
      let e : length (text_rest (atom b) p) ≡ 3 + length (atom_text p b ++ (0x29 ∷ [])) = rw (last_some h) (omega arith) in
      omega (arith, length-append (atom_text p b) (0x29 ∷ []))

  pub last_length : (k : ℕ) → k ≡ length (atom_text p b) → (length b ≡ 0 → ⊥) → 4 + k ≡ length (text_rest (atom b) p)
  last_length k e h = omega (arith, some_length h)

  module _ (u : Bool) (e : u ≡ has_name p b) where
    -- a name is one byte
    pub named_length : u ≡ true → 1 ≡ length (atom_text p b)
    named_length h = rw (text_named p b u e h (get_or names (get_or b 0 0 - 1) 0) (name_is (get_or b 0 0) (byte_low p b u e h) (byte_high p b u e h)))

    pub hex_long : u ≡ false → (length b ≡ 0 → ⊥) → 2 + 2 * length b ≡ length (atom_text p b)
    hex_long h n = rw (text_hex p b u e h n) (omega (arith, hex_length b))

-- no atom's text is longer than its digits
text_most : (p : Place) (b : List ℕ) → length (atom_text p b) ≤ 2 + 2 * length b
text_most p b = whether (length b) 0
    (λ z. omega (arith, nil_length p b z))
    (λ n. on_bool (has_name p b) (λ h. omega (arith, named_length p b (has_name p b) refl h)) (λ h. omega (arith, hex_long p b (has_name p b) refl h n)))

pub last_small : (p : Place) (b : List ℕ) (k : ℕ) → k ≡ length (atom_text p b) → length b ≤ 256 → Fits w64 (4 + k)
last_small p b k e l = record { fits = omega (arith, text_most p b) }

-- ---- an atom

module _ (p : Place) (b out : List ℕ) (fits : length (atom_text p b) ≤ length out) where
  nil_room : length b ≡ 0 → 2 ≤ length out
  nil_room z = omega (arith, nil_length p b z)

  pub nil_first : length b ≡ 0 → 0 < length out
  nil_first z = omega (arith, nil_room z)

  pub nil_second : length b ≡ 0 → 1 < length (set out 0 0x28)
  nil_second z = omega (arith, nil_room z, length-set out 0 0x28)

  pub nil_wrote : length b ≡ 0 → Wrote (atom_text p b) 2 out (set (set out 0 0x28) 1 0x29)
  nil_wrote z = rw (text_nil p b z) (two_set out 0x28 0x29 (nil_room z))

  module _ (u : Bool) (e : u ≡ has_name p b) where
    pub named_room : (c : ℕ) → name_of (get_or b 0 0) ≡ some c → u ≡ true → 0 < length out
    named_room c i h = omega (arith, ap (λ (l : List ℕ). length l) (text_named p b u e h c i))

    pub named_wrote : (c : ℕ) → name_of (get_or b 0 0) ≡ some c → u ≡ true → Wrote (atom_text p b) 1 out (set out 0 c)
    named_wrote c i h = rw (text_named p b u e h c i) (one_set out c (named_room c i h))

    pub hex_fits : u ≡ false → (length b ≡ 0 → ⊥) → 2 + 2 * length b ≤ length out
    hex_fits h n = omega (arith, hex_long p b u e h n)

    pub hex_wrote : (r : ℕ) (out₁ : List ℕ) → Wrote (0x30 ∷ 0x78 ∷ hex b) r out out₁ → u ≡ false → (length b ≡ 0 → ⊥) → Wrote (atom_text p b) r out out₁
    hex_wrote r out₁ d h n = rw (text_hex p b u e h n) d

-- ---- the rest of a list

module _ (p : Place) (b out : List ℕ) (fits : length (text_rest (atom b) p) ≤ length out) where
  pub last_nil_room : length b ≡ 0 → 0 < length out
  last_nil_room z = omega (arith, last_nil_length p b z)

  pub last_nil_wrote : length b ≡ 0 → Wrote (text_rest (atom b) p) 1 out (set out 0 0x29)
  last_nil_wrote z = rw (last_nil p b z) (one_set out 0x29 (last_nil_room z))

  module _ (n : length b ≡ 0 → ⊥) where
    size : 4 + length (atom_text p b) ≤ length out
    size = omega (arith, some_length p b n)

    three : List ℕ
    three = set (set (set out 0 0x20) 1 0x2e) 2 0x20

    three_length : length three ≡ length out
    unfolding three
    three_length = length-set (set (set out 0 0x20) 1 0x2e) 2 0x20 ∙ length-set (set out 0 0x20) 1 0x2e ∙ length-set out 0 0x20

    pub dot_first : 0 < length out
    dot_first = omega (arith, size)

    pub dot_second : 1 < length (set out 0 0x20)
    dot_second = omega (arith, size, length-set out 0 0x20)

    pub dot_third : 2 < length (set (set out 0 0x20) 1 0x2e)
    dot_third = omega (arith, size, length-set (set out 0 0x20) 1 0x2e, length-set out 0 0x20)

    pub dot_start : 3 ≤ length (set (set (set out 0 0x20) 1 0x2e) 2 0x20)
    unfolding three
    dot_start = omega (arith, size, three_length)

    pub dot_fits : length (atom_text p b) ≤ length (lent (set (set (set out 0 0x20) 1 0x2e) 2 0x20) 3)
    unfolding three
    dot_fits = omega (arith, size, three_length, lent_length three 3)

    module _ (ys : List ℕ) (k : ℕ) (d : Wrote (atom_text p b) k (lent (set (set (set out 0 0x20) 1 0x2e) 2 0x20) 3) ys) where
      dotted : Wrote (0x20 ∷ 0x2e ∷ 0x20 ∷ atom_text p b) (3 + k) out (back (set (set (set out 0 0x20) 1 0x2e) 2 0x20) 3 ys)
      dotted = then_wrote (0x20 ∷ 0x2e ∷ 0x20 ∷ []) (atom_text p b) out (set (set (set out 0 0x20) 1 0x2e) 2 0x20) ys 3 k (three_set out 0x20 0x2e 0x20 (omega (arith, size))) d (omega (arith, size))

      dotted_long : length (back (set (set (set out 0 0x20) 1 0x2e) 2 0x20) 3 ys) ≡ length out
      dotted_long = wrote_length (0x20 ∷ 0x2e ∷ 0x20 ∷ atom_text p b) out (back (set (set (set out 0 0x20) 1 0x2e) 2 0x20) 3 ys) (3 + k) dotted (omega (arith, size))

      pub end_within : 3 + k < length (back (set (set (set out 0 0x20) 1 0x2e) 2 0x20) 3 ys)
      end_within = omega (arith, size, d.count, dotted_long)

      pub last_wrote : Wrote (text_rest (atom b) p) (3 + k + 1) out (set (back (set (set (set out 0 0x20) 1 0x2e) 2 0x20) 3 ys) (3 + k) 0x29)
      last_wrote = rw (last_some p b n) (end_set (0x20 ∷ 0x2e ∷ 0x20 ∷ atom_text p b) out (back (set (set (set out 0 0x20) 1 0x2e) 2 0x20) 3 ys) (3 + k) 0x29 dotted (omega (arith, size, d.count)))
