-- What is noted stands behind the memo's entries: neither disturbs the other. Assumes nothing.
use mathlib.Core.Path.{◌≡◌, refl, sym, ◌∙◌, ap}
use mathlib.Core.List.{List, [], ◌∷◌, ◌++◌, append_assoc}
use mathlib.Core.Bool.{Bool}
use Prim.Native.Nat.{ℕ, zero, suc, ◌+◌, ◌-◌, ◌<◌}
use native.Mathlib.Omega.{arith}
use lib.ListN.{length, get_or, set, length-set, drop}
use lib.Seq.{get_or-set_other, drop-set-lt, drop-set-add, get_or-drop}
use Rattle.meaning.specs.Tree.{Tree}
use Rattle.meaning.specs.Meter.{Log}
use Rattle.store.specs.declared.Charges.{Charges}
use Rattle.run_state.specs.declared.Notes.{Notes}
use Rattle.run_state.specs.declared.Notes.TheVariants.{Nothing, Counts}
use Rattle.run_state.specs.Notes.{count_records, place_of, one_more, noted, counts_of, counted, counted_all, Noted, as_counted}
use Rattle.run_state.specs.State.{Sound, Sounds, sounds, entry_at}

-- ---- a row in which a rule's end is noted

-- the entries stay
pub sounds_noted : {f s : List ℕ} {c : Charges} {m : Bool} {used : ℕ} {row : List (List ℕ)} (notes : Notes) (k : ℕ) → Sounds f s c m used row → Sounds f s c m used (noted notes row k)
unfolding noted
sounds_noted Nothing k h = h
sounds_noted Counts zero h = h
sounds_noted {f} {s} {c} {m} {used} {row} Counts (suc j) (sounds a h) = sounds (rw (length-set row (place_of row j) (one_more (get_or row (place_of row j) []))) a) at_place
  where
    at_place : (i : ℕ) → i < used → Sound f s c m (entry_at (set row (place_of row j) (one_more (get_or row (place_of row j) []))) i)
    at_place i l = rw (get_or-set_other row (place_of row j) i (one_more (get_or row (place_of row j) [])) [] (λ z. absurd (omega (arith, z)))) (h i l)

-- the counts get one more
pub counts_noted : (notes : Notes) (row : List (List ℕ)) (k : ℕ) → counts_of (noted notes row k) ≡ counted notes (counts_of row) k
unfolding noted counts_of counted
counts_noted Nothing row k = refl
counts_noted Counts row zero = refl
counts_noted Counts row (suc j) =
    ap (λ (n : ℕ). drop (n - count_records) (set row (place_of row j) (one_more (get_or row (place_of row j) [])))) (length-set row (place_of row j) (one_more (get_or row (place_of row j) [])))
    ∙ drop-set-add (length row - count_records) row j (one_more (get_or row (place_of row j) []))
    ∙ ap (λ (a : List ℕ). set (drop (length row - count_records) row) j (one_more a)) (sym (get_or-drop (length row - count_records) row j []))

-- an entry leaves them
pub counts_stored : (row : List (List ℕ)) (i : ℕ) (a : List ℕ) → i + count_records < length row → counts_of (set row i a) ≡ counts_of row
unfolding counts_of
counts_stored row i a l = ap (λ (n : ℕ). drop (n - count_records) (set row i a)) (length-set row i a) ∙ drop-set-lt (length row - count_records) row i a (omega arith)

-- ---- a log

-- of two, the first is noted before the second
pub counted_both : (notes : Notes) (g : List (List ℕ)) (a b : Log) → counted_all notes g (a ++ b) ≡ counted_all notes (counted_all notes g a) b
unfolding counted_all
counted_both notes g [] b = refl
counted_both notes g (e ∷ a) b = counted_both notes (counted notes g e.0) a b

-- where nothing is noted
pub counted_none : (g : List (List ℕ)) (l : Log) → counted_all Nothing g l ≡ g
unfolding counted_all counted
counted_none g [] = refl
counted_none g (e ∷ l) = counted_none g l

-- ---- work, step by step

-- nothing was worked
pub noted_empty : (notes : Notes) (row : List (List ℕ)) (l : Log) → l ≡ [] → Noted notes row row l
unfolding counted_all
noted_empty notes row l e = rw e (as_counted refl)

-- one piece after another
pub noted_both : (notes : Notes) (r₀ r₁ r₂ : List (List ℕ)) (a b l : Log) → Noted notes r₀ r₁ a → Noted notes r₁ r₂ b → l ≡ a ++ b → Noted notes r₀ r₂ l
noted_both notes r₀ r₁ r₂ a b l (as_counted h) (as_counted k) e =
    as_counted (k ∙ ap (λ (g : List (List ℕ)). counted_all notes g b) h ∙ sym (counted_both notes (counts_of r₀) a b) ∙ ap (counted_all notes (counts_of r₀)) (sym e))

-- the log by another name
pub noted_as : (notes : Notes) (r₀ r₁ : List (List ℕ)) (a l : Log) → Noted notes r₀ r₁ a → l ≡ a → Noted notes r₀ r₁ l
noted_as notes r₀ r₁ a l h e = rw e h

-- a rule ends a pass
pub noted_end : (notes : Notes) (r₀ r₁ r₂ : List (List ℕ)) (a l : Log) (k : ℕ) (t : Tree) → Noted notes r₀ r₁ a → r₂ ≡ noted notes r₁ k → l ≡ a ++ (k, t) ∷ [] → Noted notes r₀ r₂ l
unfolding counted_all
noted_end notes r₀ r₁ r₂ a l k t h e z = noted_both notes r₀ r₁ r₂ a ((k, t) ∷ []) l h (as_counted (ap counts_of e ∙ counts_noted notes r₁ k)) z

-- where nothing is noted, any work
pub noted_nothing : (row : List (List ℕ)) (l : Log) → Noted Nothing row row l
noted_nothing row l = as_counted (sym (counted_none (counts_of row) l))

-- ---- work that goes on: of the log `whole`, `rest` is left to note

pub data Sofar (notes : Notes) (row₀ row : List (List ℕ)) (whole rest : Log) : Type 0 where
  so_far : (past : Log) → Noted notes row₀ row past → whole ≡ past ++ rest → Sofar notes row₀ row whole rest

pub sofar_starts : (notes : Notes) (row : List (List ℕ)) (l : Log) → Sofar notes row row l l
sofar_starts notes row l = so_far [] (noted_empty notes row [] refl) refl

module _ {notes : Notes} {row₀ row : List (List ℕ)} {whole rest : Log} where
  pub sofar_on : (row₁ : List (List ℕ)) (a rest₁ : Log) → Sofar notes row₀ row whole rest → Noted notes row row₁ a → rest ≡ a ++ rest₁ → Sofar notes row₀ row₁ whole rest₁
  sofar_on row₁ a rest₁ (so_far past h e) k z =
      so_far (past ++ a) (noted_both notes row₀ row row₁ past a (past ++ a) h k refl) (e ∙ ap (past ++◌) z ∙ sym (append_assoc past a rest₁))

  pub sofar_last : (row₁ : List (List ℕ)) (a : Log) → Sofar notes row₀ row whole rest → Noted notes row row₁ a → rest ≡ a → Noted notes row₀ row₁ whole
  sofar_last row₁ a (so_far past h e) k z = noted_both notes row₀ row row₁ past a whole h k (e ∙ ap (past ++◌) z)

  pub sofar_ends : Sofar notes row₀ row whole rest → rest ≡ [] → Noted notes row₀ row whole
  sofar_ends i z = sofar_last row [] i (noted_empty notes row [] refl) z
