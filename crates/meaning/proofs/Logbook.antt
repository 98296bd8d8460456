-- Logs of small forms, computed over `ends_in`: each rule's number and the new tree, in the order in which passes end. Assumes nothing.
use Prim.Native.Nat.{ℕ}
use mathlib.Core.Path.{◌≡◌, refl}
use mathlib.Core.List.{List, [], ◌∷◌, map}
use Rattle.meaning.specs.Tree.{pair, nil, byte}
use Rattle.meaning.specs.Meter.{Log, and_log}
use Rattle.meaning.specs.Run.{ends_in}

pub record Entries : Type 0 where
  pub form : List ℕ
  pub log : Log

unfoldable pub logbook_table : List Entries
logbook_table =
    -- `(f 1)`: one pass, one entry
    record { form = 0xff ∷ 0x05 ∷ 0xff ∷ 0x01 ∷ 0x80 ∷ []; log = (6, byte 0x02) ∷ [] }
    -- `(f (r (f 1)))`: from the inside out, each pass when it ends
    ∷ record { form = 0xff ∷ 0x05 ∷ 0xff ∷ 0xff ∷ 0x06 ∷ 0xff ∷ 0xff ∷ 0x05 ∷ 0xff ∷ 0x01 ∷ 0x80 ∷ 0x80 ∷ 0x80 ∷ []; log = (6, byte 0x02) ∷ (5, pair (byte 0x06) (pair (byte 0x02) (nil))) ∷ (6, byte 0x06) ∷ (5, pair (byte 0x05) (pair (byte 0x06) (nil))) ∷ (6, byte 0x0a) ∷ [] }
    -- `(a (q 4 2 (8)) 2)`: rule 4 works the operands of its changed body, and then gives back its input: that work is thrown away, and stands here
    ∷ record { form = 0xff ∷ 0x02 ∷ 0xff ∷ 0xff ∷ 0x01 ∷ 0xff ∷ 0x04 ∷ 0xff ∷ 0x02 ∷ 0xff ∷ 0xff ∷ 0x08 ∷ 0x80 ∷ 0x80 ∷ 0xff ∷ 0x02 ∷ 0x80 ∷ []; log = (6, byte 0x04) ∷ [] }
    -- `(c (f 1) (f 0))`, refused with 8: what ended before that
    ∷ record { form = 0xff ∷ 0x04 ∷ 0xff ∷ 0xff ∷ 0x05 ∷ 0xff ∷ 0x01 ∷ 0x80 ∷ 0xff ∷ 0xff ∷ 0x05 ∷ 0xff ∷ 0x80 ∷ 0x80 ∷ 0x80 ∷ []; log = (6, byte 0x02) ∷ [] }
    -- `(16 2)`: a pass that no rule ends
    ∷ record { form = 0xff ∷ 0x10 ∷ 0xff ∷ 0x02 ∷ 0x80 ∷ []; log = [] }
    -- rules 1, 3 and 8
    ∷ record { form = 0xff ∷ 0x05 ∷ 0xff ∷ 0xff ∷ 0x04 ∷ 0xff ∷ 0x02 ∷ 0xff ∷ 0x03 ∷ 0x80 ∷ 0x80 ∷ []; log = (1, byte 0x02) ∷ [] }
    ∷ record { form = 0xff ∷ 0x02 ∷ 0xff ∷ 0xff ∷ 0x01 ∷ 0x05 ∷ 0xff ∷ 0x01 ∷ 0x80 ∷ []; log = (3, byte 0x05) ∷ [] }
    ∷ record { form = 0xff ∷ 0x02 ∷ 0xff ∷ 0x80 ∷ 0xff ∷ 0x01 ∷ 0x80 ∷ []; log = (8, nil) ∷ [] }
    ∷ []

pub logbook : map (λ r. ends_in r.form) logbook_table ≡ map (λ r. r.log) logbook_table
unfolding ends_in and_log logbook_table
logbook = refl
