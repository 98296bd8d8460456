-- text_fault: what each return needs. Assumes nothing.
use Prim.Native.Nat.{ℕ, ◌<◌, ◌≤◌}
use mathlib.Core.Path.{◌≡◌, refl}
use mathlib.Core.List.{List, [], ◌∷◌}
use mathlib.Core.Option.{Option, none, some}
use lib.Dec.{leb}
use lib.ListN.{length}
use Rattle.std.specs.Prelude.{Result, Ok, Err, Option as Perhaps, Some, None}
use Rattle.refusals.specs.declared.Refusal.{Refusal}
use Rattle.refusals.specs.declared.Refusal.TheVariants.{RoomSmall, TextLong}
use Rattle.meaning.specs.Limits.{room_least}
use Rattle.meaning.specs.Outcome.{plain, refused, zeroed, out_after, told, Delivers, Settles}
use Rattle.meaning.proofs.Tests.{leb_true, leb_no}
use Rattle.meaning.proofs.Yields.{either_way}
use Rattle.meaning.proofs.Lent.{Zeros, zeros_answered, zeros_refused, small_settles, zeroed_settles}
use Rattle.notation.specs.Texts.{text_limit}
use Rattle.notation.specs.Faults.{fault}
use Rattle.text_reader.specs.Converts.{FaultOk}
use Rattle.texts.specs.Faults.{delivered_fault, seen_fault, fault_outcome, fault_says}

zeros_fault : (o : Option ℕ) → Zeros (delivered_fault o)
unfolding delivered_fault
zeros_fault (some p) = zeros_answered [] plain (1 ∷ p ∷ [])
zeros_fault none = zeros_answered [] plain (0 ∷ 0 ∷ [])

module _ (text : List ℕ) where
  seen_zeros : Zeros (seen_fault text)
  unfolding seen_fault
  seen_zeros = either_way Zeros (leb (length text) text_limit) (delivered_fault (fault text)) (refused TextLong) (zeros_fault (fault text)) (zeros_refused TextLong refl)

  delivers : (x : Result (Perhaps ℕ) Refusal) → FaultOk text x → Delivers fault_says (seen_fault text) [] [] x
  unfolding FaultOk seen_fault delivered_fault fault_says told out_after
  delivers (Ok (Some p)) o = rw (leb_true (length text) text_limit o.short, o.is, seen_fault, delivered_fault) (record { answer = refl; out = refl })
  delivers (Ok None) o = rw (leb_true (length text) text_limit o.short, o.is, seen_fault, delivered_fault) (record { answer = refl; out = refl })
  delivers (Err e) o = rw (leb_no (length text) text_limit o.long, o.is, seen_fault) (record { answer = refl; out = refl })

  module _ (s : List ℕ) where
    pub fault_small : length s < room_least → Settles fault_says (fault_outcome text (length s)) s s [] [] (Err RoomSmall)
    unfolding fault_outcome fault_says
    fault_small h = small_settles fault_says (seen_fault text) s [] (Err RoomSmall) refl h

    pub fault_seen : (s₁ s₂ : List ℕ) (x : Result (Perhaps ℕ) Refusal) → s₂ ≡ zeroed s₁ → FaultOk text x → length s₁ ≡ length s → room_least ≤ length s
        → Settles fault_says (fault_outcome text (length s)) s s₂ [] [] x
    unfolding fault_outcome
    fault_seen s₁ s₂ x z o same h = zeroed_settles fault_says (seen_fault text) s s₁ s₂ [] [] x (delivers x o) seen_zeros h z same
