-- Taking apart a trace that was written gives its form and its entries; and what was taken apart is the trace of its form and entries. Assumes nothing.
use Prim.Native.Nat.{ℕ, zero, suc, ◌+◌, ◌*◌, ◌/◌, ◌%◌, ◌≤◌, ◌<◌}
use mathlib.Core.Path.{◌≡◌, refl, sym, ◌∙◌, ap, ap₂, subst}
use mathlib.Core.List.{List, [], ◌∷◌, ◌++◌, append-nil, append_assoc}
use mathlib.Core.Bool.{Bool, true, false}
use mathlib.Core.Option.{Option, none, some}
use native.Mathlib.Omega.{arith}
use lib.Dec.{leb}
use lib.ListN.{length, take, drop, length-append, take-append-drop}
use lib.Seq.{take_at, drop_at, length-take-le}
use Rattle.refusals.specs.declared.Refusal.{Refusal}
use Rattle.refusals.specs.declared.Refusal.TheVariants.{NotATrace, TraceCut, TraceLong}
use Rattle.meaning.specs.Tree.{Tree, same_bytes}
use Rattle.meaning.specs.Limits.{trace_limit}
use Rattle.meaning.specs.Meter.{Spent, Log}
use Rattle.meaning.specs.Form.{write, IsBytes}
use Rattle.meaning.specs.Trace.{two_bytes, trace_start, entry_bytes, counts_bytes, log_entries, joined, trace_of, taken, not_taken, before_them, entries_of, unless_cut, take_form, take_trace}
use Rattle.meaning.proofs.Tests.{leb_yes, leb_true}
use Rattle.meaning.proofs.TreeLaws.{same_bytes_sound}
use Rattle.meaning.proofs.AreBytes.{bytes_first, bytes_after}
use Rattle.meaning.proofs.Numbered.{Numbered, no_entries, and_entry}
use Rattle.meaning.proofs.Cursor.{First, counts_first, change_first, follow_first, first_is}

-- ---- two bytes

-- they say the number that they were written for,
pub two_bytes_say : (n : ℕ) → n / 256 * 256 + n % 256 ≡ n
two_bytes_say n = omega arith

-- and are written for the number that they say
pub said_two_bytes : (h l : ℕ) → l < 256 → two_bytes (h * 256 + l) ≡ h ∷ l ∷ []
unfolding two_bytes
said_two_bytes h l b =
    let i : (h * 256 + l) / 256 ≡ h = omega arith in
    let j : (h * 256 + l) % 256 ≡ l = omega arith in
    ap₂ (λ (x y : ℕ). x ∷ y ∷ []) i j

-- ---- what was written, taken apart

-- an entry before others
entry_taken : (k n : ℕ) (t : Tree) (rest : List ℕ) (es : List (List ℕ)) → 0 < n → entries_of k rest ≡ some es → entries_of (suc k) (entry_bytes n t ++ rest) ≡ some (entry_bytes n t ∷ es)
unfolding entries_of before_them entry_bytes two_bytes
entry_taken k zero t rest es h p = absurd (omega arith)
entry_taken k (suc n) t rest es h p =
    let m : length (write t) ≡ length (write t) / 256 * 256 + length (write t) % 256 = sym (two_bytes_say (length (write t))) in
    let l : length (write t ++ rest) ≡ length (write t) + length rest = length-append (write t) rest in
    let f : length (write t) / 256 * 256 + length (write t) % 256 ≤ length (write t ++ rest) = omega arith in
    go _ _ _ (leb_true _ _ f) (take_at (write t) rest _ m) (ap (entries_of k) (drop_at (write t) rest _ m) ∙ p)
  where
    go : (b : Bool) (x : List ℕ) (o : Option (List (List ℕ))) → b ≡ true → x ≡ write t → o ≡ some es
        → elim b [ true ↦ before_them (suc n ∷ length (write t) / 256 ∷ length (write t) % 256 ∷ x) o | false ↦ none ] ≡ some (entry_bytes (suc n) t ∷ es)
    go b x o i j q = rw (i, j, q)

-- what follows an entry is shorter
shorter : (e j c : List ℕ) (k : ℕ) → 0 < length e → length ((e ++ j) ++ c) ≤ suc k → length (j ++ c) ≤ k
shorter e j c k h f =
    let z : length ((e ++ j) ++ c) ≡ length e + length (j ++ c) = ap length (append_assoc e j c) ∙ length-append e (j ++ c) in
    omega arith

-- The entries of a log, and the counts behind them, are taken apart into these.
pub entries_written : (l : Log) (s : Spent) → Numbered l → (k : ℕ) → length (joined (log_entries l) ++ counts_bytes s) ≤ k
    → entries_of k (joined (log_entries l) ++ counts_bytes s) ≡ some (log_entries l ++ (counts_bytes s ∷ []))
unfolding joined log_entries counts_bytes entries_of
entries_written l s no_entries zero f = absurd (omega arith)
entries_written l s no_entries (suc k) f = refl
entries_written l s (and_entry {e} {l = r} h hs) zero f = absurd (omega arith)
entries_written l s (and_entry {e} {l = r} h hs) (suc k) f =
    ap (entries_of (suc k)) (append_assoc (entry_bytes e.0 e.1) (joined (log_entries r)) (counts_bytes s))
    ∙ entry_taken k e.0 e.1 (joined (log_entries r) ++ counts_bytes s) _ h
    (entries_written r s hs k (shorter (entry_bytes e.0 e.1) (joined (log_entries r)) (counts_bytes s) k (omega arith) f))

-- a form, and entries behind it
form_taken : (form rest : List ℕ) (es : List (List ℕ)) → entries_of (length (form ++ rest)) rest ≡ some es → take_form (two_bytes (length form) ++ (form ++ rest)) ≡ taken form es
unfolding take_form unless_cut two_bytes
form_taken form rest es p =
    let m : length form ≡ length form / 256 * 256 + length form % 256 = sym (two_bytes_say (length form)) in
    let l : length (form ++ rest) ≡ length form + length rest = length-append form rest in
    let f : length form / 256 * 256 + length form % 256 ≤ length (form ++ rest) = omega arith in
    go _ _ _ (leb_true _ _ f) (take_at form rest _ m) (ap (entries_of (length (form ++ rest))) (drop_at form rest _ m) ∙ p)
  where
    go : (b : Bool) (x : List ℕ) (o : Option (List (List ℕ))) → b ≡ true → x ≡ form → o ≡ some es → elim b [ true ↦ unless_cut x o | false ↦ not_taken TraceCut ] ≡ taken form es
    go b x o i j q = rw (i, j, q)

-- mark and version before them
start_taken : (rest : List ℕ) → length (trace_start ++ rest) ≤ trace_limit → take_trace (trace_start ++ rest) ≡ take_form rest
unfolding take_trace
start_taken rest f = go _ (leb_true _ _ f)
  where
    go : (b : Bool) → b ≡ true → elim b [ true ↦ take_form rest | false ↦ not_taken TraceLong ] ≡ take_form rest
    go b i = rw i

-- A trace of a form, a log's entries and counts is taken apart into these.
pub taken_written : (form : List ℕ) (l : Log) (s : Spent) → Numbered l → length (trace_of form (joined (log_entries l) ++ counts_bytes s)) ≤ trace_limit
    → take_trace (trace_of form (joined (log_entries l) ++ counts_bytes s)) ≡ taken form (log_entries l ++ (counts_bytes s ∷ []))
unfolding trace_of
taken_written form l s h f =
    let z : length (form ++ (joined (log_entries l) ++ counts_bytes s)) ≡ length form + length (joined (log_entries l) ++ counts_bytes s) = length-append form _ in
    start_taken _ f ∙ form_taken form _ _ (entries_written l s h _ (omega arith))

-- ---- what was taken apart, as it was written

not_taken_taken : {X : Type 0} {n : Refusal} {form : List ℕ} {es : List (List ℕ)} → not_taken n ≡ taken form es → X
not_taken_taken h = absurd (let z : ◌≡◌ {A = ℕ} 0 1 = cc in omega arith)

-- Entries that were taken off bytes are these bytes.
pub entries_whole : (k : ℕ) (bs : List ℕ) (es : List (List ℕ)) → entries_of k bs ≡ some es → bs ≡ joined es
unfolding joined
entries_whole k bs [] p = let f = follow_first k bs [] p in let z = f.is in cc
entries_whole k bs (e ∷ rest) p = go (first_is k bs e rest p) (λ j cs q. entries_whole j cs rest q)
  where
    go : First bs e rest → ((j : ℕ) (cs : List ℕ) → entries_of j cs ≡ some rest → cs ≡ joined rest) → bs ≡ e ++ joined rest
    go (counts_first cs b i r q) ih = b ∙ sym i ∙ sym (append-nil e) ∙ ap (λ (x : List (List ℕ)). e ++ joined x) (sym r)
    go (change_first j n h l cs b f i q) ih =
        b
        ∙ ap (λ (x : List ℕ). suc n ∷ h ∷ l ∷ x) (sym (take-append-drop (h * 256 + l) cs) ∙ ap (take (h * 256 + l) cs ++◌) (ih j _ q))
        ∙ ap (◌++ joined rest) (sym i)

-- a trace that was taken apart: the two bytes of its form's length, what stands behind them, and that the entries were taken off that
pub record Apart (trace form : List ℕ) (es : List (List ℕ)) : Type 0 where
  pub high : ℕ
  pub low : ℕ
  pub behind : List ℕ
  pub short : length trace ≤ trace_limit
  pub whole : trace ≡ trace_start ++ (high ∷ low ∷ behind)
  pub within : high * 256 + low ≤ length behind
  pub form_is : take (high * 256 + low) behind ≡ form
  pub entries : entries_of (length behind) (drop (high * 256 + low) behind) ≡ some es

-- the same of what stands after mark and version
form_inv : (trace bs form : List ℕ) (es : List (List ℕ)) → length trace ≤ trace_limit → trace ≡ trace_start ++ bs → take_form bs ≡ taken form es → Apart trace form es
unfolding take_form unless_cut
form_inv trace [] form es s t p = not_taken_taken p
form_inv trace (h ∷ []) form es s t p = not_taken_taken p
form_inv trace (h ∷ l ∷ bs) form es s t p = go (leb (h * 256 + l) (length bs)) refl p
  where
    at : h * 256 + l ≤ length bs → (o : Option (List (List ℕ))) → entries_of (length bs) (drop (h * 256 + l) bs) ≡ o → unless_cut (take (h * 256 + l) bs) o ≡ taken form es → Apart trace form es
    at f none q r = not_taken_taken r
    at f (some xs) q r =
        let i : take (h * 256 + l) bs ≡ form = cc in
        let j : xs ≡ es = cc in
        record { high = h; low = l; behind = bs; short = s; whole = t; within = f; form_is = i; entries = q ∙ ap some j }

    go : (b : Bool) → leb (h * 256 + l) (length bs) ≡ b
        → elim b [ true ↦ unless_cut (take (h * 256 + l) bs) (entries_of (length bs) (drop (h * 256 + l) bs)) | false ↦ not_taken TraceCut ] ≡ taken form es → Apart trace form es
    go true q r = at (leb_yes _ _ q) (entries_of (length bs) (drop (h * 256 + l) bs)) refl r
    go false q r = not_taken_taken r

-- A trace that is taken apart is within the limit, begins with mark and version, and has a form and entries behind them.
pub taken_inv : (trace form : List ℕ) (es : List (List ℕ)) → take_trace trace ≡ taken form es → Apart trace form es
unfolding take_trace
taken_inv trace form es p = go (leb (length trace) trace_limit) (same_bytes (take 5 trace) trace_start) refl refl p
  where
    go : (a b : Bool) → leb (length trace) trace_limit ≡ a → same_bytes (take 5 trace) trace_start ≡ b
        → elim a [ true ↦ elim b [ true ↦ take_form (drop 5 trace) | false ↦ not_taken NotATrace ] | false ↦ not_taken TraceLong ] ≡ taken form es → Apart trace form es
    go true true q r k =
        let i : take 5 trace ≡ trace_start = same_bytes_sound _ _ r in
        form_inv trace (drop 5 trace) form es (leb_yes _ _ q) (sym (take-append-drop 5 trace) ∙ ap (◌++ drop 5 trace) i) k
    go true false q r k = not_taken_taken k
    go false b q r k = not_taken_taken k

-- A trace of bytes that is taken apart is the trace of its form and entries, and is within the limit.
pub taken_whole : (trace form : List ℕ) (es : List (List ℕ)) → IsBytes trace → take_trace trace ≡ taken form es → (trace ≡ trace_of form (joined es)) × (length trace ≤ trace_limit)
unfolding trace_of
taken_whole trace form es w p =
    let a = taken_inv trace form es p in
    let h = a.high in
    let l = a.low in
    let bs = a.behind in
    let b : l < 256 = bytes_first l bs (bytes_after (trace_start ++ (h ∷ [])) (l ∷ bs) (subst IsBytes a.whole w)) in
    let n : length form ≡ h * 256 + l = ap length (sym a.form_is) ∙ length-take-le (h * 256 + l) bs a.within in
    let d : drop (h * 256 + l) bs ≡ joined es = entries_whole (length bs) _ es a.entries in
    let e : h ∷ l ∷ [] ≡ two_bytes (length form) = sym (ap two_bytes n ∙ said_two_bytes h l b) in
    let f : bs ≡ form ++ joined es = sym (take-append-drop (h * 256 + l) bs) ∙ ap₂ ◌++◌ a.form_is d in
    (a.whole ∙ ap (trace_start ++◌) (ap₂ ◌++◌ e f), a.short)
