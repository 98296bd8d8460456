-- Document 02, "Ask 5": a trace of an answered form agrees with its own replay, and a trace that agrees is the one that writing gives for its form. Assumes nothing.
use Prim.Native.Nat.{ℕ, suc, ◌+◌, ◌*◌, ◌≤◌, ◌<◌}
use mathlib.Core.Path.{◌≡◌, refl, sym, ◌∙◌, ap, ap₂, subst}
use mathlib.Core.List.{List, [], ◌∷◌, ◌++◌, append-nil, append_assoc}
use mathlib.Core.Bool.{Bool, true, false}
use mathlib.Core.Option.{some}
use native.Mathlib.Omega.{arith}
use lib.Dec.{leb}
use lib.ListN.{length, drop}
use Rattle.refusals.specs.declared.Refusal.{Refusal}
use Rattle.refusals.specs.declared.Refusal.TheVariants.{RoomSmall}
use Rattle.meaning.specs.Tree.{Tree, same_bytes}
use Rattle.meaning.specs.Limits.{room_least, trace_limit}
use Rattle.meaning.specs.Meter.{Out, done, stop, Spent, Log}
use Rattle.meaning.specs.Form.{IsBytes}
use Rattle.meaning.specs.Outcome.{Tag, plain, Outcome, answered, refused, in_room}
use Rattle.meaning.specs.Run.{mark_number, worked, ends_in}
use Rattle.meaning.specs.Trace.{entry_bytes, counts_bytes, log_entries, joined, trace_of, trace_bytes, trace_run, Taken, taken, not_taken, entries_of, take_trace, Verdict, agree, parts, stopped, compared, against, verdict_told, replay_taken, replay_run}
use Rattle.meaning.proofs.Tests.{not_false, leb_yes}
use Rattle.meaning.proofs.TreeLaws.{same_bytes_sound}
use Rattle.meaning.proofs.SameLaws.{same_bytes_same}
use Rattle.meaning.proofs.Lent.{room_enough}
use Rattle.meaning.proofs.Numbered.{Numbered, no_entries, and_entry, ends_numbered}
use Rattle.meaning.proofs.Cursor.{follow_same, follow_next, follow_counts}
use Rattle.meaning.proofs.Traced.{not_answered, trace_inv, trace_at}
use Rattle.meaning.proofs.Taking.{taken_written, taken_inv, taken_whole}

-- ---- entries that are compared

-- entries agree with themselves
compared_same : (k : ℕ) (es : List (List ℕ)) (v : Verdict) → compared k es es v ≡ v
unfolding compared
compared_same k [] v = refl
compared_same k (e ∷ es) v = go (same_bytes e e) (same_bytes_same e) (compared_same (suc k) es v)
  where
    go : (b : Bool) → b ≡ true → compared (suc k) es es v ≡ v → elim b [ true ↦ compared (suc k) es es v | false ↦ parts k ] ≡ v
    go true i h = h
    go false i h = not_false i

-- what a replay tells where the two agree
abbrev agreed : Outcome
agreed = answered [] plain (0 ∷ [])

-- where they part it tells an entry, from 1
parted : {X : Type 0} (k : ℕ) → 0 < k → verdict_told (parts k) ≡ agreed → X
unfolding verdict_told
parted k h e = let i : k ≡ 0 = cc in absurd (omega arith)

-- work that is refused agrees with no entries
stopped_parts : (k : ℕ) (es ms : List (List ℕ)) (n : Refusal) → 0 < k → verdict_told (compared k es ms (stopped n)) ≡ agreed → ⊥
unfolding compared verdict_told
stopped_parts k es [] n h e = not_answered e
stopped_parts k [] (m ∷ ms) n h e = parted k h e
stopped_parts k (x ∷ es) (m ∷ ms) n h e = go (same_bytes x m) (stopped_parts (suc k) es ms n (omega arith)) e
  where
    go : (b : Bool) → (verdict_told (compared (suc k) es ms (stopped n)) ≡ agreed → ⊥) → verdict_told (elim b [ true ↦ compared (suc k) es ms (stopped n) | false ↦ parts k ]) ≡ agreed → ⊥
    go true ih q = ih q
    go false ih q = parted k h q

-- entries that were taken off bytes and agree with those of a log and counts are these
all_met : (l : Log) (s : Spent) → Numbered l → (k : ℕ) (es : List (List ℕ)) (j : ℕ) (bs : List ℕ) → 0 < k → entries_of j bs ≡ some es
    → verdict_told (compared k es (log_entries l ++ (counts_bytes s ∷ [])) agree) ≡ agreed → es ≡ log_entries l ++ (counts_bytes s ∷ [])
unfolding compared log_entries
all_met l s no_entries k [] j bs h p e = parted k h e
all_met l s no_entries k (x ∷ es) j bs h p e = go (same_bytes x (counts_bytes s)) refl e
  where
    go : (b : Bool) → same_bytes x (counts_bytes s) ≡ b → verdict_told (elim b [ true ↦ agree | false ↦ parts k ]) ≡ agreed → x ∷ es ≡ counts_bytes s ∷ []
    go true q r = ap₂ ◌∷◌ (same_bytes_sound _ _ q) (follow_counts s j bs x es p q).1
    go false q r = parted k h r
all_met l s (and_entry {e = y} {l = r} pos hs) k [] j bs h p e = parted k h e
all_met l s (and_entry {e = y} {l = r} pos hs) k (x ∷ es) j bs h p e = go (same_bytes x (entry_bytes y.0 y.1)) refl (λ i cs. all_met r s hs (suc k) es i cs (omega arith)) e
  where
    ms : List (List ℕ)
    ms = log_entries r ++ (counts_bytes s ∷ [])

    go : (b : Bool) → same_bytes x (entry_bytes y.0 y.1) ≡ b
        → ((i : ℕ) (cs : List ℕ) → entries_of i cs ≡ some es → verdict_told (compared (suc k) es ms agree) ≡ agreed → es ≡ ms)
        → verdict_told (elim b [ true ↦ compared (suc k) es ms agree | false ↦ parts k ]) ≡ agreed → x ∷ es ≡ entry_bytes y.0 y.1 ∷ ms
    go true q ih v =
        let (i, n) = follow_next y.0 y.1 pos j bs x es p (follow_same y.0 y.1 pos j bs x es p ∙ q) in
        ap₂ ◌∷◌ (same_bytes_sound _ _ q) (ih i _ n v)
    go false q ih v = parted k h v

-- one entry more, joined to others
joined_more : (es : List (List ℕ)) (c : List ℕ) → joined (es ++ (c ∷ [])) ≡ joined es ++ c
unfolding joined
joined_more [] c = append-nil c
joined_more (e ∷ es) c = ap (e ++◌) (joined_more es c) ∙ sym (append_assoc e (joined es) c)

-- ---- the two theorems

-- "A trace of an answered form always agrees with its own replay."
pub trace_agrees : (form : List ℕ) (room-length out-length : ℕ) (bytes : List ℕ) (tag : Tag) (numbers : List ℕ) → trace_run form room-length out-length ≡ answered bytes tag numbers
    → (again : ℕ) → room_least ≤ again → replay_run bytes again ≡ answered [] plain (0 ∷ [])
unfolding replay_run replay_taken against verdict_told trace_bytes
trace_agrees form room-length out-length bytes tag numbers h again r =
    let a = trace_inv form room-length out-length bytes tag numbers h in
    let s = a.spent in
    let f : length (trace_bytes form s) ≤ trace_limit = subst (λ (x : List ℕ). length x ≤ trace_limit) a.written a.short in
    room_enough again _ r
    ∙ ap (λ (x : List ℕ). replay_taken (take_trace x)) a.written
    ∙ ap replay_taken (taken_written form (ends_in form) s (ends_numbered form) f)
    ∙ ap (λ (o : Out Spent Tree). verdict_told (against (log_entries (ends_in form) ++ (counts_bytes s ∷ [])) (ends_in form) o)) a.finished
    ∙ ap verdict_told (compared_same 1 (log_entries (ends_in form) ++ (counts_bytes s ∷ [])) agree)

-- a trace that agrees: its form, the work on that, and that it is what writing gives
pub record Agrees (trace : List ℕ) (room-length : ℕ) : Type 0 where
  pub form : List ℕ
  pub entries : List (List ℕ)
  pub apart : take_trace trace ≡ taken form entries
  pub tree : Tree
  pub spent : Spent
  pub finished : worked form ≡ done tree spent
  pub written : trace ≡ trace_bytes form spent
  pub short : length trace ≤ trace_limit
  pub room : room_least ≤ room-length

-- A trace of bytes that agrees is taken apart, its form is worked to an end, and it is what that left.
pub agrees_inv : (trace : List ℕ) (room-length : ℕ) → IsBytes trace → replay_run trace room-length ≡ answered [] plain (0 ∷ []) → Agrees trace room-length
unfolding replay_run in_room replay_taken against trace_bytes trace_of
agrees_inv trace room-length w h = go (leb room_least room-length) refl h
  where
    at : room_least ≤ room-length → (form : List ℕ) (es : List (List ℕ)) → take_trace trace ≡ taken form es → (o : Out Spent Tree) → worked form ≡ o
        → verdict_told (against es (ends_in form) o) ≡ agreed → Agrees trace room-length
    at r form es t (done u s) k e =
        let a = taken_inv trace form es t in
        let n : es ≡ log_entries (ends_in form) ++ (counts_bytes s ∷ [])
        = all_met (ends_in form) s (ends_numbered form) 1 es (length a.behind) (drop (a.high * 256 + a.low) a.behind) (omega arith) a.entries e in
        let j : joined es ≡ joined (log_entries (ends_in form)) ++ counts_bytes s = ap joined n ∙ joined_more (log_entries (ends_in form)) (counts_bytes s) in
        let b = taken_whole trace form es w t in
        record {
          form = form;
          entries = es;
          apart = t;
          tree = u;
          spent = s;
          finished = k;
          written = b.0 ∙ ap (trace_of form) j;
          short = b.1;
          room = r;
        }
    at r form es t (stop n s) k e = absurd (stopped_parts 1 es (log_entries (ends_in form)) n (omega arith) e)

    on : room_least ≤ room-length → (x : Taken) → take_trace trace ≡ x → replay_taken x ≡ agreed → Agrees trace room-length
    on r (taken form es) t e = at r form es t (worked form) refl e
    on r (not_taken n) t e = not_answered e

    go : (b : Bool) → leb room_least room-length ≡ b → elim b [ true ↦ replay_taken (take_trace trace) | false ↦ refused RoomSmall ] ≡ agreed → Agrees trace room-length
    go true q e = on (leb_yes _ _ q) (take_trace trace) refl e
    go false q e = not_answered e

-- Where a replay says that they agree, the trace is the one that writing gives for its form.
pub agrees_trace : (trace : List ℕ) (room-length : ℕ) → IsBytes trace → replay_run trace room-length ≡ answered [] plain (0 ∷ [])
    → (form : List ℕ) × (numbers : List ℕ) × ((out-length : ℕ) → length trace ≤ out-length → trace_run form room-length out-length ≡ answered trace plain numbers)
agrees_trace trace room-length w h =
    let a = agrees_inv trace room-length w h in
    let s = a.spent in
    let i : trace_bytes a.form s ≡ trace = sym a.written in (
      a.form,
      length (trace_bytes a.form s) ∷ s.passes ∷ s.units ∷ mark_number s.mark ∷ [],
      λ out-length f.
          trace_at a.form room-length out-length a.tree s a.finished (subst (λ (x : List ℕ). length x ≤ trace_limit) a.written a.short)
          (subst (λ (x : List ℕ). length x ≤ out-length) a.written f) a.room
          ∙ ap (λ (x : List ℕ). answered x plain (length (trace_bytes a.form s) ∷ s.passes ∷ s.units ∷ mark_number s.mark ∷ [])) i,
    )

-- Two traces of one form that both agree are the same bytes.
pub trace_only : (form t₁ t₂ : List ℕ) (es₁ es₂ : List (List ℕ)) (room₁ room₂ : ℕ) → IsBytes t₁ → IsBytes t₂ → take_trace t₁ ≡ taken form es₁ → take_trace t₂ ≡ taken form es₂
    → replay_run t₁ room₁ ≡ answered [] plain (0 ∷ []) → replay_run t₂ room₂ ≡ answered [] plain (0 ∷ []) → t₁ ≡ t₂
trace_only form t₁ t₂ es₁ es₂ room₁ room₂ w₁ w₂ p₁ p₂ h₁ h₂ =
    let a = agrees_inv t₁ room₁ w₁ h₁ in
    let b = agrees_inv t₂ room₂ w₂ h₂ in
    let i : taken a.form a.entries ≡ taken form es₁ = sym a.apart ∙ p₁ in
    let j : taken b.form b.entries ≡ taken form es₂ = sym b.apart ∙ p₂ in
    let f : a.form ≡ b.form = cc in
    let k : done a.tree a.spent ≡ done b.tree b.spent = sym a.finished ∙ ap worked f ∙ b.finished in
    let s : a.spent ≡ b.spent = cc in
    a.written ∙ ap₂ trace_bytes f s ∙ sym b.written
