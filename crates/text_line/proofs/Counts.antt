-- The outcomes on texts tell the length of what they write first, and their lines are short. Assumes nothing.
use Prim.Native.Nat.{ℕ, ◌+◌, ◌*◌, ◌≤◌}
use mathlib.Core.Path.{◌≡◌}
use mathlib.Core.List.{List, [], ◌∷◌}
use mathlib.Core.Option.{Option, none, some}
use native.Mathlib.Omega.{arith}
use lib.Dec.{leb}
use lib.ListN.{length, take, drop, length-append}
use Rattle.meaning.specs.Tree.{Tree}
use Rattle.meaning.specs.Form.{read_form}
use Rattle.meaning.specs.Limits.{room_least}
use Rattle.meaning.specs.Outcome.{Outcome, Tag, answered, refused, in_room}
use Rattle.meaning.specs.Run.{mark_number, worked_on}
use Rattle.meaning.proofs.Lent.{every}
use Rattle.meaning.proofs.Yields.{either_way}
use Rattle.form.specs.Bytes as form
use Rattle.evaluation.specs.Bytes as evaluation
use Rattle.refusals.specs.declared.Refusal.TheVariants.{RoomSmall, TextLong}
use Rattle.notation.specs.Texts.{text_limit, text_of}
use Rattle.notation.specs.Faults.{fault}
use Rattle.notation.specs.Grammar.{read_text}
use Rattle.texts.specs.Faults.{seen_fault, fault_outcome, delivered_fault}
use Rattle.texts.specs.Outcomes.{deliver_text, read_text_outcome, delivered_text, write_text_outcome, delivered_run, optimise_text_outcome, read_texts, delivered_value, evaluate_text_outcome}
use Rattle.lines.specs.Text.{out_most, line_most, numbers_line}
use Rattle.lines.proofs.Lengths.{end_most, no_most}
use Rattle.outcome.specs.Line.{line_with}
use Rattle.outcome.proofs.Outcomes.{Counted, counted_refused, counted_deliver, counted_tree, with_most}
use Rattle.text_line.specs.Line.{ok_text, text_and, text_line, bare_line, fault_words, fault_line}

-- ---- the length is told first

counted_text : (m : ℕ) (t : Tree) (ns : List ℕ) → length ns ≤ 3 → Counted m (deliver_text m t ns)
unfolding deliver_text
counted_text m t ns h = counted_deliver m (text_of t) ns h

pub read_counted : (f : List ℕ) (room m : ℕ) → Counted m (read_text_outcome f room m)
unfolding read_text_outcome form.delivered_write
read_counted f room m = every (Counted m) (form.delivered_write m) (counted_refused m) (λ t s. counted_tree m t (s.units ∷ []) (omega arith)) room (read_text f 0)

pub written_counted : (f : List ℕ) (room m : ℕ) → Counted m (write_text_outcome f room m)
unfolding write_text_outcome delivered_text
written_counted f room m = every (Counted m) (delivered_text m) (counted_refused m) (λ t s. counted_text m t (s.units ∷ []) (omega arith)) room (read_form f 0)

pub optimised_counted : (f : List ℕ) (room m : ℕ) → Counted m (optimise_text_outcome f room m)
unfolding optimise_text_outcome delivered_run
optimised_counted f room m = every (Counted m) (delivered_run m) (counted_refused m) (λ t s. counted_text m t (s.passes ∷ s.units ∷ mark_number s.mark ∷ []) (omega arith)) room (worked_on (read_text f 0))

pub evaluated_counted : (f : List ℕ) (first room m : ℕ) → Counted m (evaluate_text_outcome f first room m)
unfolding evaluate_text_outcome delivered_value
evaluated_counted f first room m =
    every (Counted m) (delivered_value m) (counted_refused m) (λ t s. counted_text m t (s.steps ∷ s.units ∷ []) (omega arith)) room (evaluation.worked_on (read_texts (take first f) (drop first f)))

-- ---- the longest line

and_most : (m : ℕ) (bytes ns : List ℕ) → m ≤ out_most → length bytes ≤ m → length ns ≤ 3 → length (text_and bytes ns) ≤ line_most
unfolding text_and ok_text
and_most m bytes ns h b n =
    let a : length (text_and bytes ns) ≡ length (ok_text bytes) + length (numbers_line ns) = length-append (ok_text bytes) (numbers_line ns) in
    let e : length (numbers_line ns) ≤ 21 * length ns + 1 = end_most ns in
    omega arith

pub text_short : (m : ℕ) (o : Outcome) → m ≤ out_most → Counted m o → length (text_line o) ≤ line_most
unfolding text_line Counted
text_short m o h c = with_most (λ bytes ns. text_and bytes (drop 1 ns)) o (λ bytes tag ns e. go bytes tag ns (rw e at c))
  where
    go : (bytes : List ℕ) (tag : Tag) (ns : List ℕ) → Counted m (answered bytes tag ns) → length (text_and bytes (drop 1 ns)) ≤ line_most
    go bytes tag ns d = and_most m bytes (drop 1 ns) h d.0 d.1.1

pub bare_short : (m : ℕ) (o : Outcome) → m ≤ out_most → Counted m o → length (bare_line o) ≤ line_most
unfolding bare_line Counted
bare_short m o h c = with_most (λ bytes ns. text_and bytes []) o (λ bytes tag ns e. go bytes tag ns (rw e at c))
  where
    go : (bytes : List ℕ) (tag : Tag) (ns : List ℕ) → Counted m (answered bytes tag ns) → length (text_and bytes []) ≤ line_most
    go bytes tag ns d = and_most m bytes [] h d.0 (omega arith)

-- a place, or that there is none
faulted : (o : Option ℕ) → length (fault_line (delivered_fault o)) ≤ line_most
unfolding fault_line line_with fault_words delivered_fault
faulted (some p) = let e : length (numbers_line (p ∷ [])) ≤ 21 * length (p ∷ []) + 1 = end_most (p ∷ []) in omega arith
faulted none = omega arith

pub fault_short : (f : List ℕ) (room : ℕ) → length (fault_line (fault_outcome f room)) ≤ line_most
unfolding fault_line line_with fault_outcome seen_fault in_room
fault_short f room =
    either_way (λ (o : Outcome). length (fault_line o) ≤ line_most) (leb room_least room) (seen_fault f) (refused RoomSmall)
    (either_way (λ (o : Outcome). length (fault_line o) ≤ line_most) (leb (length f) text_limit) (delivered_fault (fault f)) (refused TextLong) (faulted (fault f)) (no_most 16))
    (no_most 1)
