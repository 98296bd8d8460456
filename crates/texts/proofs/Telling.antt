-- A tree delivered as text: what it means for the answer that tells it. Assumes nothing.
use Prim.Native.Nat.{ℕ}
use mathlib.Core.Path.{◌≡◌, ◌∙◌, ap}
use mathlib.Core.List.{List, ◌∷◌}
use lib.ListN.{length}
use borrow.Author.Tests.{le-leb, lt-leb}
use Rattle.std.specs.Prelude.{Option, Some, None}
use Rattle.meaning.specs.Tree.{Tree}
use Rattle.meaning.specs.Outcome.{plain, deliver, out_after, Told, values, number, told, Delivers}
use Rattle.form.specs.Writes.{WroteAll, WroteNone, Delivered}
use Rattle.notation.specs.Texts.{text_of}
use Rattle.texts.specs.Outcomes.{deliver_text}

module _ {A : Type 0} (tells : A → Told) (t : Tree) (ns w w₁ : List ℕ) (r : Option ℕ) (d : Delivered (text_of t) w w₁ r) where
  -- the text is too long for the output
  pub text_over : (a : A) → tells a ≡ number 14 → r ≡ None → Delivers tells (deliver_text (length w) t ns) w w₁ a
  unfolding Delivered deliver_text deliver told out_after
  text_over a e i =
      let n : WroteNone (text_of t) w w₁ = rw i at d in
      rw (lt-leb (length (text_of t)) (length w) n.over, deliver) (record { answer = e; out = n.kept })

  -- it fits
  pub text_fits : (a : A) (k : ℕ) → tells a ≡ values plain (k ∷ ns) → r ≡ Some k → Delivers tells (deliver_text (length w) t ns) w w₁ a
  unfolding Delivered deliver_text deliver told out_after
  text_fits a k e i =
      let p : WroteAll (text_of t) k w w₁ = rw i at d in
      rw (le-leb (length (text_of t)) (length w) p.fits, deliver)
      (record { answer = e ∙ ap (λ (j : ℕ). values plain (j ∷ ns)) p.wrote.count; out = p.wrote.bytes })
