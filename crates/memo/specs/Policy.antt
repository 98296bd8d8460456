-- The memo's policy: when two expressions are found to be the same, which entry is a hit, what it says, and what is stored.
use Rattle.std.specs.Prelude.{Option, Some, None}
use Rattle.std.specs.Prelude.{ℕ, zero, suc, ◌+◌, ◌-◌, ◌%◌, List, Bool, true, false, not, ◌&&◌, length, set, eqb, leb, ltb}
use Rattle.meaning.specs.Limits.{unit_limit, pass_limit, height_at}
use Rattle.store.specs.Cells.{pick}
use Rattle.store.specs.Nodes.{tree_at, print_of}
use Rattle.store.specs.Makers.{spend}
use Rattle.run_state.specs.declared.Outcome.TheVariants.{Same, Changed}
use Rattle.run_state.specs.declared.Work.{Work}
use Rattle.run_state.specs.declared.Entry.{Entry}
use Rattle.run_state.specs.declared.State.{State}
use Rattle.run_state.specs.State.{record_of, entry_at}
use Rattle.run_state.specs.declared.Notes.{Notes}
use Rattle.run_state.specs.declared.Notes.TheVariants.{Nothing, Counts}
use Rattle.run_state.specs.Notes.{count_records}
use Rattle.sexp.specs.declared.Compared.{Compared}
use Rattle.sexp.specs.declared.Compared.TheVariants.{Told, Parts}
use Rattle.sexp.specs.Canon.{compared}
use Rattle.memo.specs.declared.Verdict.{Verdict}

-- what an entry holds of a fingerprint
abbrev pub low_print : ℕ → ℕ
low_print p = p % 65_536

-- ---- comparison

-- nodes that one lookup looks at, at most
abbrev pub look_limit : ℕ
look_limit = 4_096

-- left parts within left parts, at most
abbrev pub deep_limit : ℕ
deep_limit = 64

-- after left parts: where they are the same, the right parts, with the looks that are left
unfoldable pub and_then : Verdict → (ℕ → Verdict) → Verdict
and_then v rights = elim v.same [ true ↦ rights v.left | false ↦ v ]

-- by what two records tell, with the looks that are left after them
unfoldable pub by_records : Compared → (ℕ → ℕ → ℕ → Verdict) → (ℕ → ℕ → ℕ → Verdict) → ℕ → Verdict
unfolding and_then
by_records (Told u) lefts rights looks = record { same = u; left = looks }
by_records (Parts l r m n) lefts rights looks = and_then (lefts looks l m) (λ k. rights k r n)

-- the trees at a and b: the same node first, then a look at their records. Right parts stand below a pair, so suc a is enough at a
unfoldable pub along : List ℕ → List ℕ → (ℕ → ℕ → ℕ → Verdict) → ℕ → ℕ → ℕ → ℕ → Verdict
unfolding by_records
along f s lefts zero looks a b = record { same = false; left = looks }
along f s lefts (suc k) looks a b =
    elim (eqb a b) [
      | true ↦ record { same = true; left = looks }
      | false ↦ elim (eqb looks 0) [ true ↦ record { same = false; left = 0 } | false ↦ by_records (compared f s a b) lefts (along f s lefts k) (looks - 1) ]
    ]

-- are the trees at a and b the same? Left parts are compared one less deep; where the depth or the looks are not enough, no
unfoldable pub alike_in : List ℕ → List ℕ → ℕ → ℕ → ℕ → ℕ → Verdict
unfolding along
alike_in f s zero looks a b = record { same = false; left = looks }
alike_in f s (suc deep) looks a b = along f s (alike_in f s deep) (suc a) looks a b

-- ---- a lookup

-- an entry is compared: it holds what 16 bits hold of the fingerprint `key`, its height fits at the nesting, its expression's fingerprint is key
unfoldable pub candidate : List ℕ → List ℕ → ℕ → ℕ → Entry → Bool
candidate f s key nest e = eqb e.print (low_print key) && leb (e.height + nest) 65 && eqb (print_of (tree_at f s e.expr)) key

-- by an entry's verdict: its place, or the search further on with the looks that are left
unfoldable pub or_else : ℕ → Verdict → (ℕ → ℕ) → ℕ
or_else i v further = elim v.same [ true ↦ i | false ↦ further v.left ]

-- the place of the first candidate found alike among the k entries from i on, or the place after them
unfoldable pub first_hit : List ℕ → List ℕ → List (List ℕ) → ℕ → ℕ → ℕ → ℕ → ℕ → ℕ
unfolding candidate or_else alike_in
first_hit f s row n nest zero looks i = i
first_hit f s row n nest (suc k) looks i =
    elim (candidate f s (print_of (tree_at f s n)) nest (entry_at row i)) [
      | true ↦ or_else i (alike_in f s (suc deep_limit) looks (entry_at row i).expr n) (λ left. first_hit f s row n nest k left (i + 1))
      | false ↦ first_hit f s row n nest k looks (i + 1)
    ]

-- the work after a hit: charged what the entry says; Same where its result is the expression's own node
unfoldable pub work_hit : Work → Entry → Work
work_hit w e = record { ch = spend w.ch e.units; passes = w.passes + e.passes; mark = w.mark; last = pick (eqb e.expr e.result) Same (Changed e.result) }

-- what a hit says: that work, unless units or passes would cross their limits
unfoldable pub hit_says : Work → Entry → Option Work
unfolding work_hit
hit_says w e = pick (leb (w.ch.units + e.units) unit_limit && leb (w.passes + e.passes) pass_limit) (Some (work_hit w e)) None

-- what a place says: the hit there, if it is one in use
unfoldable pub says_at : List (List ℕ) → Work → ℕ → ℕ → Option Work
unfolding hit_says
says_at row w used i = pick (ltb i used) (hit_says w (entry_at row i)) None

-- what the memo says of a call on n at nesting `nest`: what the first hit says, with one budget of looks
unfoldable pub memo_says : List ℕ → List ℕ → List (List ℕ) → Work → ℕ → ℕ → ℕ → Option Work
unfolding first_hit says_at
memo_says f s row w used n nest = says_at row w used (first_hit f s row n nest used look_limit 0)

-- where something is noted the memo is not asked: a hit would skip it
unfoldable pub unless_noted : Notes → Option Work → Option Work
unless_noted Nothing a = a
unless_noted Counts a = None

-- ---- storing

-- the entry of a call on n at nesting `nest` that began with b spent and ended at r with a spent
abbrev pub entry_to_store : Work → Work → ℕ → ℕ → ℕ → ℕ → Entry
entry_to_store b a n r nest print = record { expr = n; result = r; passes = a.passes - b.passes; units = a.ch.units - b.ch.units; height = height_at nest; print = print }

-- a call is stored: the row has a free record before its counts, the call charged a pass, and passes are left
unfoldable pub is_stored : List (List ℕ) → State → Work → Bool
is_stored row st b = ltb (st.used + count_records) (length row) && not (eqb st.w.passes b.passes) && ltb st.w.passes pass_limit

-- the row after a call
unfoldable pub row_after : List ℕ → List ℕ → List (List ℕ) → State → Work → ℕ → ℕ → ℕ → List (List ℕ)
unfolding is_stored
row_after f s row st b n r nest = pick (is_stored row st b) (set row st.used (record_of (entry_to_store b st.w n r nest (low_print (print_of (tree_at f s n)))))) row

-- how many of its records are in use then
unfoldable pub used_after : List (List ℕ) → State → Work → ℕ
unfolding is_stored
used_after row st b = pick (is_stored row st b) (st.used + 1) st.used
