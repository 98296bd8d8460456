-- Document 02, "Ask 5": a record of each run, and its replay.
use Rattle.std.specs.Prelude.{ℕ, zero, suc, ◌+◌, ◌*◌, ◌/◌, ◌%◌, List, [], ◌∷◌, ◌++◌, true, false, leb, eqb, length, take, drop}
use Rattle.std.proofs.Math.Option.{Option, none, some}
use Rattle.refusals.specs.declared.Refusal.{Refusal}
use Rattle.refusals.specs.declared.Refusal.TheVariants.{NotATrace, TraceCut, TraceLong}
use Rattle.meaning.specs.Tree.{Tree, same_bytes}
use Rattle.meaning.specs.Limits.{trace_limit}
use Rattle.meaning.specs.Meter.{Out, done, stop, Spent, Log}
use Rattle.meaning.specs.Form.{write}
use Rattle.meaning.specs.Outcome.{Outcome, plain, answered, refused, deliver, ended, in_room}
use Rattle.meaning.specs.Run.{mark_number, worked, ends_in}

-- ---- the bytes of a trace

-- a number "as 16 bits", big-endian
unfoldable pub two_bytes : ℕ → List ℕ
two_bytes n = n / 256 ∷ n % 256 ∷ []

-- and "as 32 bits"
unfoldable pub four_bytes : ℕ → List ℕ
unfolding two_bytes
four_bytes n = two_bytes (n / 65_536) ++ two_bytes (n % 65_536)

-- "mark `CLT`, 16-bit version 1 big-endian"
abbrev pub trace_start : List ℕ
trace_start = 0x43 ∷ 0x4c ∷ 0x54 ∷ 0 ∷ 1 ∷ []

-- "rule number in one byte, the length of the new expression as 16 bits, the new expression in serialised form"
unfoldable pub entry_bytes : ℕ → Tree → List ℕ
unfolding two_bytes write
entry_bytes n t = n ∷ (two_bytes (length (write t)) ++ write t)

-- "last a zero byte, then passes and units as 32 bits each"
unfoldable pub counts_bytes : Spent → List ℕ
unfolding four_bytes
counts_bytes s = 0 ∷ (four_bytes s.passes ++ four_bytes s.units)

-- "one entry for each change at any nesting"
unfoldable pub log_entries : Log → List (List ℕ)
unfolding entry_bytes
log_entries [] = []
log_entries (e ∷ l) = entry_bytes e.0 e.1 ∷ log_entries l

-- one after the other
unfoldable pub joined : List (List ℕ) → List ℕ
joined [] = []
joined (e ∷ es) = e ++ joined es

-- "the form's length as 16 bits, the form", and what follows
unfoldable pub trace_of : List ℕ → List ℕ → List ℕ
unfolding two_bytes
trace_of form rest = trace_start ++ (two_bytes (length form) ++ (form ++ rest))

-- ---- writing

-- what a run that ended well left: its entries, and the counts as one last entry
unfoldable pub trace_bytes : List ℕ → Spent → List ℕ
unfolding trace_of joined log_entries counts_bytes ends_in
trace_bytes form s = trace_of form (joined (log_entries (ends_in form)) ++ counts_bytes s)

-- "in writing, 20 where the whole trace would be longer than that, after 7 to 13 and before 14"
unfoldable pub deliver_trace : ℕ → List ℕ → Spent → Outcome
unfolding deliver mark_number
deliver_trace out-length bytes s = elim (leb (length bytes) trace_limit) [
  | true ↦ deliver out-length bytes (length bytes ∷ s.passes ∷ s.units ∷ mark_number s.mark ∷ [])
  | false ↦ refused TraceLong
]

-- the form, how many bytes of room are lent, how many of output
unfoldable pub trace_run : List ℕ → ℕ → ℕ → Outcome
unfolding deliver_trace trace_bytes worked ended in_room
trace_run form room-length out-length = in_room room-length (ended (λ t s. deliver_trace out-length (trace_bytes form s) s) (worked form))

-- ---- reading

-- a trace taken apart: its form, and its entries, the counts last; or a refusal
pub data Taken : Type 0 where
  taken : (form : List ℕ) (entries : List (List ℕ)) → Taken
  not_taken : Refusal → Taken

-- an entry, before those that follow it
unfoldable pub before_them : List ℕ → Option (List (List ℕ)) → Option (List (List ℕ))
before_them e none = none
before_them e (some es) = some (e ∷ es)

-- the bytes after the form, as entries; none where they are cut or some are left over. (The count is of entries: their bytes are enough.)
unfoldable pub entries_of : ℕ → List ℕ → Option (List (List ℕ))
unfolding before_them
entries_of zero bs = none
entries_of (suc k) [] = none
entries_of (suc k) (zero ∷ bs) = elim (eqb (length bs) 8) [ true ↦ some ((0 ∷ bs) ∷ []) | false ↦ none ]
entries_of (suc k) (suc n ∷ []) = none
entries_of (suc k) (suc n ∷ h ∷ []) = none
entries_of (suc k) (suc n ∷ h ∷ l ∷ bs) = elim (leb (h * 256 + l) (length bs)) [
  | true ↦ before_them (suc n ∷ h ∷ l ∷ take (h * 256 + l) bs) (entries_of k (drop (h * 256 + l) bs))
  | false ↦ none
]

-- refusal 19: "a trace that is cut or has bytes left over"
unfoldable pub unless_cut : List ℕ → Option (List (List ℕ)) → Taken
unless_cut form none = not_taken TraceCut
unless_cut form (some es) = taken form es

-- what stands after mark and version
unfoldable pub take_form : List ℕ → Taken
unfolding unless_cut entries_of
take_form [] = not_taken TraceCut
take_form (h ∷ []) = not_taken TraceCut
take_form (h ∷ l ∷ bs) = elim (leb (h * 256 + l) (length bs)) [
  | true ↦ unless_cut (take (h * 256 + l) bs) (entries_of (length bs) (drop (h * 256 + l) bs))
  | false ↦ not_taken TraceCut
]

-- "20 for a trace over 65,536 bytes, then 18 for a wrong or incomplete mark or version, then 19"
unfoldable pub take_trace : List ℕ → Taken
unfolding take_form same_bytes
take_trace trace = elim (leb (length trace) trace_limit) [
  | true ↦ elim (same_bytes (take 5 trace) trace_start) [ true ↦ take_form (drop 5 trace) | false ↦ not_taken NotATrace ]
  | false ↦ not_taken TraceLong
]

-- ---- the replay

-- what a replay says: that the two agree, at which entry, from 1, they first part, or the refusal of the work before they did
pub data Verdict : Type 0 where
  agree : Verdict
  parts : ℕ → Verdict
  stopped : Refusal → Verdict

-- "byte for byte": the trace's entries and the run's, from entry k on, and what is said where the run's have all been met
unfoldable pub compared : ℕ → List (List ℕ) → List (List ℕ) → Verdict → Verdict
unfolding same_bytes
compared k es [] v = v
compared k [] (m ∷ ms) v = parts k
compared k (e ∷ es) (m ∷ ms) v = elim (same_bytes e m) [ true ↦ compared (suc k) es ms v | false ↦ parts k ]

-- "the counts stand as one last entry"; "work refused before they part gives its number"
unfoldable pub against : List (List ℕ) → Log → Out Spent Tree → Verdict
unfolding compared log_entries counts_bytes
against es l (done t s) = compared 1 es (log_entries l ++ (counts_bytes s ∷ [])) agree
against es l (stop n s) = compared 1 es (log_entries l) (stopped n)

-- an answer tells the entry, and 0 where the two agree
unfoldable pub verdict_told : Verdict → Outcome
verdict_told agree = answered [] plain (0 ∷ [])
verdict_told (parts k) = answered [] plain (k ∷ [])
verdict_told (stopped n) = refused n

unfoldable pub replay_taken : Taken → Outcome
unfolding verdict_told against ends_in worked
replay_taken (taken form es) = verdict_told (against es (ends_in form) (worked form))
replay_taken (not_taken n) = refused n

-- the trace, and how many bytes of room are lent
unfoldable pub replay_run : List ℕ → ℕ → Outcome
unfolding replay_taken take_trace in_room
replay_run trace room-length = in_room room-length (replay_taken (take_trace trace))
